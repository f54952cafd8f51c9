-- The decimal text of a number, digit by digit.
use Rattle.std.proofs.Common.{◌≡◌, ℕ, zero, suc, ◌+◌, ◌/◌, ◌%◌, ◌^◌, ◌<◌, ◌≤◌, Bool, true, false, List, [], ◌∷◌, ◌++◌, length, refl, sym, ◌∙◌, ap, arith, ◌⊎◌, inl, inr, append_assoc, length-append}
use Rattle.std.specs.Prelude.{nat_lt, nat_eq, ◌&&◌}
use Rattle.std.proofs.lemmas.Bool.Decides.{nat_tests}
use Rattle.std.proofs.Math.Nat.{mod-eq_of_lt, pow-suc}
use Rattle.bml_bytes.specs.Numerals.{decimal_digits, decimal_within, digit_character}
use Rattle.bml_bytes.specs.Words.{is_same}

digit_character-is : (d : ℕ) → d < 10 → digit_character d ≡ 48 + d
digit_character-is d h = let e : nat_lt d 10 ≡ true = grind (arith, nat_tests) in rw e refl

within-small : (k n : ℕ) → n < 10 → decimal_within k n ≡ (48 + n) ∷ []
unfolding decimal_within
within-small zero n h = ap (λ d. digit_character d ∷ []) (mod-eq_of_lt {n = n} {m = 10} h) ∙ ap (λ d. d ∷ []) (digit_character-is n h)
within-small (suc k) n h = let e : nat_lt n 10 ≡ true = grind (arith, nat_tests) in rw e refl

within-large : (k n : ℕ) → 10 ≤ n → decimal_within (suc k) n ≡ decimal_within k (n / 10) ++ (48 + n % 10) ∷ []
unfolding decimal_within
within-large k n h =
    let e : nat_lt n 10 ≡ false = grind (arith, nat_tests) in
    let d : n % 10 < 10 = omega arith in
    rw e (ap (λ d. decimal_within k (n / 10) ++ d ∷ []) (digit_character-is (n % 10) d))

small_or_large : (n : ℕ) → (n < 10) ⊎ (10 ≤ n)
small_or_large n = by (nat_lt n 10) refl
  where
    by : (t : Bool) → nat_lt n 10 ≡ t → (n < 10) ⊎ (10 ≤ n)
    by true e = inl (grind (arith, nat_tests))
    by false e = inr (grind (arith, nat_tests))

within-fuel : (k j n : ℕ) → n ≤ k → n ≤ j → decimal_within k n ≡ decimal_within j n
within-fuel zero j n h g = let small : n < 10 = omega arith in within-small zero n small ∙ sym (within-small j n small)
within-fuel (suc k) zero n h g = let small : n < 10 = omega arith in within-small (suc k) n small ∙ sym (within-small zero n small)
within-fuel (suc k) (suc j) n h g =
    elim (small_or_large n) [
      | inl small ↦ within-small (suc k) n small ∙ sym (within-small (suc j) n small)
      | inr large ↦ let a : n / 10 ≤ k = omega arith in let b : n / 10 ≤ j = omega arith in
          within-large k n large ∙ (ap (λ ds. ds ++ (48 + n % 10) ∷ []) (within-fuel k j (n / 10) a b) ∙ sym (within-large j n large))
    ]

pub decimal_digits-one : (n : ℕ) → n < 10 → decimal_digits n ≡ (48 + n) ∷ []
decimal_digits-one n h = within-small n n h

pub decimal_digits-more : (n : ℕ) → 10 ≤ n → decimal_digits n ≡ decimal_digits (n / 10) ++ (48 + n % 10) ∷ []
decimal_digits-more zero h = absurd (omega arith)
decimal_digits-more (suc m) h =
    let a : suc m / 10 ≤ m = omega arith in let b : suc m / 10 ≤ suc m / 10 = omega arith in
    within-large m (suc m) h ∙ ap (λ ds. ds ++ (48 + suc m % 10) ∷ []) (within-fuel m (suc m / 10) (suc m / 10) a b)

pub length-decimal_digits : (n : ℕ) → 10 ≤ n → length (decimal_digits (n / 10)) + 1 ≡ length (decimal_digits n)
length-decimal_digits n h = sym (ap length (decimal_digits-more n h) ∙ length-append (decimal_digits (n / 10)) ((48 + n % 10) ∷ []))

-- what stands in front of the digits of a number, and its last digit behind them
pub behind-one : (front before : List ℕ) (n : ℕ) → n < 10 → before ≡ front → before ++ (48 + n % 10) ∷ [] ≡ front ++ decimal_digits n
behind-one front before n h e =
    let digit = mod-eq_of_lt {n = n} {m = 10} h in
    rw (e, decimal_digits-one n h, digit) refl

pub behind-more : (front before : List ℕ) (n : ℕ) → 10 ≤ n → before ≡ front ++ decimal_digits (n / 10) → before ++ (48 + n % 10) ∷ [] ≡ front ++ decimal_digits n
behind-more front before n h e =
    ap (λ text. text ++ (48 + n % 10) ∷ []) e
    ∙ (append_assoc front (decimal_digits (n / 10)) ((48 + n % 10) ∷ [])
    ∙ ap (λ digits. front ++ digits) (sym (decimal_digits-more n h)))

-- a number below a power of ten has at most so many digits
pub few-digits : (more n : ℕ) → n < 10 ^ suc more → length (decimal_digits n) ≤ suc more
few-digits zero n h =
    let power : 10 ^ suc zero ≡ 10 = refl in
    let small : n < 10 = omega arith in
    let one = ap length (decimal_digits-one n small) in
    omega (arith, one)
few-digits (suc more) n h =
    elim (small_or_large n) [
      | inl small ↦ let one = ap length (decimal_digits-one n small) in omega (arith, one)
      | inr large ↦
          let power = pow-suc 10 (suc more) in
          let below : n / 10 < 10 ^ suc more = omega (arith, power) in
          let rest = few-digits more (n / 10) below in
          omega (arith, rest, length-decimal_digits n large)
    ]

and-false : (b : Bool) → (b && false) ≡ false
and-false true = refl
and-false false = refl

and-true : (b : Bool) → (b && true) ≡ b
and-true true = refl
and-true false = refl

nothing-snoc : (ys : List ℕ) (y : ℕ) → is_same [] (ys ++ y ∷ []) ≡ false
nothing-snoc [] y = refl
nothing-snoc (z ∷ ys) y = refl

snoc-nothing : (xs : List ℕ) (x : ℕ) → is_same (xs ++ x ∷ []) [] ≡ false
snoc-nothing [] x = refl
snoc-nothing (z ∷ xs) x = refl

and_assoc : (a b c : Bool) → (a && (b && c)) ≡ ((a && b) && c)
and_assoc true b c = refl
and_assoc false b c = refl

is_same-snoc : (xs ys : List ℕ) (x y : ℕ) → is_same (xs ++ x ∷ []) (ys ++ y ∷ []) ≡ (is_same xs ys && nat_eq x y)
is_same-snoc [] [] x y = and-true (nat_eq x y)
is_same-snoc [] (b ∷ ys) x y = ap (λ t. nat_eq x b && t) (nothing-snoc ys y) ∙ and-false (nat_eq x b)
is_same-snoc (a ∷ xs) [] x y = ap (λ t. nat_eq a y && t) (snoc-nothing xs x) ∙ and-false (nat_eq a y)
is_same-snoc (a ∷ xs) (b ∷ ys) x y = ap (λ t. nat_eq a b && t) (is_same-snoc xs ys x y) ∙ and_assoc (nat_eq a b) (is_same xs ys) (nat_eq x y)

nat_eq-false : (a b : ℕ) → (a ≡ b → ⊥) → nat_eq a b ≡ false
nat_eq-false a b h = grind (arith, nat_tests)

nat_eq-true : (a b : ℕ) → a ≡ b → nat_eq a b ≡ true
nat_eq-true a b h = grind (arith, nat_tests)

-- a text is no number's where its last code isn't that of the number's last digit
pub is_same-last : (front : List ℕ) (last n : ℕ) → (last ≡ 48 + n % 10 → ⊥) → is_same (front ++ last ∷ []) (decimal_digits n) ≡ false
is_same-last front last n h =
    elim (small_or_large n) [
      | inl small ↦
          let e : nat_eq last (48 + n) ≡ false = nat_eq-false last (48 + n) (λ k. h (k ∙ ap (λ d. 48 + d) (sym (mod-eq_of_lt {n = n} {m = 10} small)))) in
          ap (is_same (front ++ last ∷ [])) (decimal_digits-one n small) ∙ (is_same-snoc front [] last (48 + n) ∙ (ap (λ t. is_same front [] && t) e ∙ and-false (is_same front [])))
      | inr large ↦
          ap (is_same (front ++ last ∷ [])) (decimal_digits-more n large) ∙ (is_same-snoc front (decimal_digits (n / 10)) last (48 + n % 10)
          ∙ (ap (λ t. is_same front (decimal_digits (n / 10)) && t) (nat_eq-false last (48 + n % 10) h) ∙ and-false (is_same front (decimal_digits (n / 10)))))
    ]

pub is_same-one : (front : List ℕ) (last n : ℕ) → n < 10 → last ≡ 48 + n % 10 → is_same (front ++ last ∷ []) (decimal_digits n) ≡ is_same front []
is_same-one front last n small h =
    let e : nat_eq last (48 + n) ≡ true = nat_eq-true last (48 + n) (h ∙ ap (λ d. 48 + d) (mod-eq_of_lt {n = n} {m = 10} small)) in
    ap (is_same (front ++ last ∷ [])) (decimal_digits-one n small) ∙ (is_same-snoc front [] last (48 + n) ∙ (ap (λ t. is_same front [] && t) e ∙ and-true (is_same front [])))

pub is_same-more : (front : List ℕ) (last n : ℕ) → 10 ≤ n → last ≡ 48 + n % 10 → is_same (front ++ last ∷ []) (decimal_digits n) ≡ is_same front (decimal_digits (n / 10))
is_same-more front last n large h =
    ap (is_same (front ++ last ∷ [])) (decimal_digits-more n large) ∙ (is_same-snoc front (decimal_digits (n / 10)) last (48 + n % 10)
    ∙ (ap (λ t. is_same front (decimal_digits (n / 10)) && t) (nat_eq-true last (48 + n % 10) h) ∙ and-true (is_same front (decimal_digits (n / 10)))))

pub is_same-nothing : (n : ℕ) → is_same [] (decimal_digits n) ≡ false
is_same-nothing n =
    elim (small_or_large n) [
      | inl small ↦ ap (is_same []) (decimal_digits-one n small)
      | inr large ↦ ap (is_same []) (decimal_digits-more n large) ∙ nothing-snoc (decimal_digits (n / 10)) (48 + n % 10)
    ]

pub empty-is : (front : List ℕ) (empty : Bool) → empty ≡ nat_eq (length front) 0 → empty ≡ is_same front []
empty-is [] empty h = h
empty-is (a ∷ front) empty h = h ∙ nat_eq-false (suc (length front)) 0 (λ e. absurd (omega (arith, e)))
