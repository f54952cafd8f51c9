-- White behind a number at the front of a text changes nothing.
use Rattle.std.proofs.Common.{◌≡◌, ℕ, suc, ◌+◌, ◌-◌, ◌≤◌, Bool, true, false, cond, List, [], ◌∷◌, ◌++◌, length, take, drop, reverse, refl, sym, ◌∙◌, ap, arith}
use Rattle.std.specs.Prelude.{◌&&◌, ◌||◌, ◌==◌, nat_eq, nat_le, nat_lt, if◌then◌else◌, pos, negsuc, zero}
use Rattle.std.specs.List.{list_all, prefix_len, starts_with}
use Rattle.std.proofs.lemmas.Bool.{eqb-true}
use Rattle.std.proofs.lemmas.Bool.Decides.{nat_tests}
use Rattle.std.proofs.lemmas.List.{length-drop, length-reverse, reverse-append, reverse-reverse, take-append-drop, take_at}
use Rattle.std.proofs.lemmas.List.Folds.{list_all-append}
use Rattle.es_values.specs.declared.numbers.Num.{Num}
use Rattle.es_values.specs.declared.numbers.Num.TheVariants.{NotANumber, Whole}
use Rattle.es_values.specs.Numerals.{digit_value, is_digit_in, is_white, number_in_range, number_written, signed, trimmed, without_white_end, without_white_front}
use Rattle.es_builtins.specs.Numerals.{Radix, Told, Base, NoBase, base_in_range, begins_hex, digits_at_front, number_at_front, parsed, radix_of_number, signed_front, unsigned_front}
use Rattle.es_builtins.proofs.DigitFrontLemmas.{both, front-digit, front-other}

-- ---- what white isn't

white-by : (w : ℕ) (a b c d : Bool) → (w == 32) ≡ a → (w == 9) ≡ b → (w == 11) ≡ c → (w == 12) ≡ d → (a || (b || (c || d))) ≡ true → digit_value w ≡ 36
unfolding digit_value
white-by w true b c d e f g h t = ap digit_value (eqb-true w 32 e)
white-by w false true c d e f g h t = ap digit_value (eqb-true w 9 f)
white-by w false false true d e f g h t = ap digit_value (eqb-true w 11 g)
white-by w false false false true e f g h t = ap digit_value (eqb-true w 12 h)
white-by w false false false false e f g h t = absurd (cc t)

white-value : (w : ℕ) → is_white w ≡ true → digit_value w ≡ 36
unfolding is_white
white-value w h = white-by w (w == 32) (w == 9) (w == 11) (w == 12) refl refl refl refl h

-- it is no digit
white-no_digit : (base w : ℕ) → base ≤ 36 → is_white w ≡ true → is_digit_in base w ≡ false
white-no_digit base w small h = ap (λ v. nat_lt v base) (white-value w h) ∙ grind (arith, nat_tests)

-- and no code that isn't white
white-differs : (w k : ℕ) → is_white w ≡ true → is_white k ≡ false → (w == k) ≡ false
white-differs w k h other = by (w == k) refl
  where
    by : (t : Bool) → (w == k) ≡ t → (w == k) ≡ false
    by true e = absurd (let clash : true ≡ false = sym h ∙ (ap is_white (eqb-true w k e) ∙ other) in cc)
    by false e = e

other-white : (w k : ℕ) → is_white w ≡ true → is_white k ≡ false → (k == w) ≡ false
other-white w k h other = by (k == w) refl
  where
    by : (t : Bool) → (k == w) ≡ t → (k == w) ≡ false
    by true e = absurd (let clash : true ≡ false = sym h ∙ (ap is_white (sym (eqb-true k w e)) ∙ other) in cc)
    by false e = e

minus-other : is_white 45 ≡ false
unfolding is_white
minus-other = refl

plus-other : is_white 43 ≡ false
unfolding is_white
plus-other = refl

zero-other : is_white 48 ≡ false
unfolding is_white
zero-other = refl

x-other : is_white 120 ≡ false
unfolding is_white
x-other = refl

-- ---- digits in front of white

digits-white : (base : ℕ) (a w : List ℕ) → base ≤ 36 → list_all is_white w ≡ true → digits_at_front base (a ++ w) ≡ digits_at_front base a
digits-white base [] [] small h = refl
digits-white base [] (x ∷ w) small h = front-other base x w (white-no_digit base x small (both (is_white x) (list_all is_white w) h).0)
digits-white base (d ∷ a) w small h = by (is_digit_in base d) refl (digits-white base a w small h)
  where
    by : (t : Bool) → is_digit_in base d ≡ t → digits_at_front base (a ++ w) ≡ digits_at_front base a → digits_at_front base (d ∷ (a ++ w)) ≡ digits_at_front base (d ∷ a)
    by true e step = front-digit base d (a ++ w) e ∙ (ap (λ l. d ∷ l) step ∙ sym (front-digit base d a e))
    by false e step = front-other base d (a ++ w) e ∙ sym (front-other base d a e)

-- the number of these digits
abbrev number_of_front : Bool → ℕ → List ℕ → Num
number_of_front negative base digits =
    if nat_lt 0 (length digits) then number_in_range (signed negative (number_written base digits)) else NotANumber

number-white : (negative : Bool) (base : ℕ) (a w : List ℕ) → base ≤ 36 → list_all is_white w ≡ true → number_at_front negative base (a ++ w) ≡ number_at_front negative base a
number-white negative base a w small h = ap (number_of_front negative base) (digits-white base a w small h)

-- ---- `0x` in front of white

hex-white : (a w : List ℕ) → list_all is_white w ≡ true → begins_hex (a ++ w) ≡ begins_hex a
hex-white [] [] h = refl
hex-white [] (x ∷ w) h = ap (λ t. t && starts_with nat_eq w (120 ∷ [])) (other-white x 48 (both (is_white x) (list_all is_white w) h).0 zero-other)
hex-white (x ∷ []) [] h = refl
hex-white (x ∷ []) (y ∷ w) h = ap (λ t. (48 == x) && (t && true)) (other-white y 120 (both (is_white y) (list_all is_white w) h).0 x-other)
hex-white (x ∷ (y ∷ a)) w h = refl

no-more : (t : Bool) → (t && false) ≡ true → ⊥
no-more true h = cc h
no-more false h = cc h

hex-none : (a : List ℕ) → length a ≤ 1 → begins_hex a ≡ true → ⊥
hex-none [] few h = cc h
hex-none (x ∷ []) few h = no-more (48 == x) h
hex-none (x ∷ (y ∷ a)) few h = omega (arith, few)

drop-white : (a w : List ℕ) → begins_hex a ≡ true → drop 2 (a ++ w) ≡ drop 2 a ++ w
drop-white [] w h = absurd (hex-none [] (omega arith) h)
drop-white (x ∷ []) w h = absurd (hex-none (x ∷ []) (omega arith) h)
drop-white (x ∷ (y ∷ a)) w h = refl

-- ---- the number at a front

abbrev chosen : Bool → ℕ → Bool → List ℕ → Num
chosen negative base hex text =
    if hex then number_at_front negative 16 (drop 2 text) else number_at_front negative base text

abbrev prefixed : Bool → ℕ → Bool → List ℕ → Num
prefixed negative base hex text = chosen negative base (hex && begins_hex text) text

prefixed-white : (negative : Bool) (base : ℕ) (hex : Bool) (a w : List ℕ) → base ≤ 36 → list_all is_white w ≡ true → prefixed negative base hex (a ++ w) ≡ prefixed negative base hex a
prefixed-white negative base false a w small h = number-white negative base a w small h
prefixed-white negative base true a w small h = by (begins_hex a) refl
  where
    by : (t : Bool) → begins_hex a ≡ t → prefixed negative base true (a ++ w) ≡ prefixed negative base true a
    by true e =
        ap (λ t. chosen negative base t (a ++ w)) (hex-white a w h ∙ e)
        ∙ (ap (number_at_front negative 16) (drop-white a w e)
        ∙ (number-white negative 16 (drop 2 a) w (omega arith) h
        ∙ sym (ap (λ t. chosen negative base t a) e)))
    by false e =
        ap (λ t. chosen negative base t (a ++ w)) (hex-white a w h ∙ e)
        ∙ (number-white negative base a w small h
        ∙ sym (ap (λ t. chosen negative base t a) e))

-- a base that is asked for is 36 at most
abbrev IsSmall : Radix → Type 0
IsSmall NoBase = Unit {0}
IsSmall Told = Unit {0}
IsSmall (Base base) = base ≤ 36

unsigned-white : (negative : Bool) (radix : Radix) (a w : List ℕ) → IsSmall radix → list_all is_white w ≡ true → unsigned_front negative radix (a ++ w) ≡ unsigned_front negative radix a
unsigned-white negative NoBase a w small h = refl
unsigned-white negative Told a w small h = prefixed-white negative 10 true a w (omega arith) h
unsigned-white negative (Base base) a w small h = prefixed-white negative base (nat_eq base 16) a w small h

-- the number at a front that doesn't begin with a sign, and at one that may
abbrev signed_by : Radix → Bool → Bool → List ℕ → List ℕ → Num
signed_by radix minus plus rest text =
    if minus then unsigned_front true radix rest
    else (if plus then unsigned_front false radix rest else unsigned_front false radix text)

signed-white : (radix : Radix) (a w : List ℕ) → IsSmall radix → list_all is_white w ≡ true → signed_front radix (a ++ w) ≡ signed_front radix a
signed-white radix [] [] small h = refl
signed-white radix [] (x ∷ w) small h =
    let first = (both (is_white x) (list_all is_white w) h).0 in
    ap (λ t. signed_by radix t (x == 43) w (x ∷ w)) (white-differs x 45 first minus-other)
    ∙ (ap (λ t. signed_by radix false t w (x ∷ w)) (white-differs x 43 first plus-other)
    ∙ unsigned-white false radix [] (x ∷ w) small h)
signed-white radix (x ∷ a) w small h = by (x == 45) (x == 43)
  where
    by : (minus plus : Bool) → signed_by radix minus plus (a ++ w) (x ∷ (a ++ w)) ≡ signed_by radix minus plus a (x ∷ a)
    by true plus = unsigned-white true radix a w small h
    by false true = unsigned-white false radix a w small h
    by false false = unsigned-white false radix (x ∷ a) w small h

-- ---- without the white at the end

prefix-all : (p : ℕ → Bool) (xs : List ℕ) → list_all p (take (prefix_len p xs) xs) ≡ true
prefix-all p [] = refl
prefix-all p (x ∷ xs) = by (p x) refl (prefix-all p xs)
  where
    by : (t : Bool) → p x ≡ t → list_all p (take (prefix_len p xs) xs) ≡ true → list_all p (take (cond t (1 + prefix_len p xs) 0) (x ∷ xs)) ≡ true
    by true e step =
        let on : 1 + prefix_len p xs ≡ suc (prefix_len p xs) = omega arith in
        ap (λ k. list_all p (take k (x ∷ xs))) on ∙ (ap (λ t. t && list_all p (take (prefix_len p xs) xs)) e ∙ step)
    by false e step = refl

both-back : (a b : Bool) → a ≡ true → b ≡ true → (a && b) ≡ true
both-back a b p q = rw (p, q) refl

all-reverse : (p : ℕ → Bool) (xs : List ℕ) → list_all p xs ≡ true → list_all p (reverse xs) ≡ true
all-reverse p [] h = refl
all-reverse p (x ∷ xs) h =
    let parts = both (p x) (list_all p xs) h in
    let last : list_all p (x ∷ []) ≡ true = both-back (p x) true parts.0 refl in
    ap (list_all p) (reverse-append (x ∷ []) xs)
    ∙ (list_all-append p (reverse xs) (x ∷ [])
    ∙ both-back (list_all p (reverse xs)) (list_all p (x ∷ [])) (all-reverse p xs parts.1) last)

-- what goes at the end is white
white-end : (radix : Radix) (text : List ℕ) → IsSmall radix → signed_front radix (without_white_end text) ≡ signed_front radix text
white-end radix text small =
    let turned = reverse text in
    let count = prefix_len is_white turned in
    let front = reverse (drop count turned) in
    let white = reverse (take count turned) in
    let all : list_all is_white white ≡ true = all-reverse is_white (take count turned) (prefix-all is_white turned) in
    let whole : text ≡ front ++ white =
    sym (reverse-reverse text)
    ∙ (ap reverse (sym (take-append-drop count turned))
    ∙ reverse-append (take count turned) (drop count turned)) in
    let size : length front ≡ length text - count = length-reverse (drop count turned) ∙ (length-drop count turned ∙ ap (λ n. n - count) (length-reverse text)) in
    let kept : without_white_end text ≡ front = ap (take (length text - count)) whole ∙ take_at front white (length text - count) size in
    ap (signed_front radix) kept ∙ (sym (signed-white radix front white small all) ∙ ap (signed_front radix) (sym whole))

range-small : (n : ℕ) → IsSmall (base_in_range n)
range-small n = by (nat_le 2 n) (nat_le n 36) refl
  where
    by : (a b : Bool) → nat_le n 36 ≡ b → IsSmall (if a && b then Base n else NoBase)
    by true true e = grind (arith, nat_tests)
    by true false e = tt
    by false b e = tt

radix-small : (radix : Num) → IsSmall (radix_of_number radix)
radix-small NotANumber = tt
radix-small (Whole (pos zero)) = tt
radix-small (Whole (pos (suc n))) = range-small (suc n)
radix-small (Whole (negsuc n)) = tt

-- the number at the front of the text without white at both ends is that of the whole text
pub trimmed-front : (radix : Num) (text : List ℕ) → signed_front (radix_of_number radix) (trimmed text) ≡ parsed text (radix_of_number radix)
unfolding parsed
trimmed-front radix text = white-end (radix_of_number radix) (without_white_front text) (radix-small radix)
