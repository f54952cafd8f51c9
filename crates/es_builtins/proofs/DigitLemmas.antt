-- The digits of a number, one by one.
use Rattle.std.proofs.Common.{◌≡◌, ℕ, zero, suc, ◌/◌, ◌%◌, ◌*◌, ◌^◌, ◌<◌, ◌≤◌, ℤ, pos, negsuc, true, false, List, [], ◌∷◌, ◌++◌, refl, sym, ◌∙◌, ap, arith, append_assoc}
use Rattle.std.specs.Prelude.{int_lt, nat_lt, unsigned_abs, OnOk, Result, Ok, Err}
use Rattle.std.proofs.lemmas.Bool.Decides.{nat_tests}
use Rattle.std.proofs.Math.Nat.{mod-eq_of_lt, div-lt_iff_lt-mul, pow-suc, pow-zero, pow-le-pow_left}
use Rattle.bml_bytes.specs.Numerals.{digit_character}
use Rattle.es_builtins.specs.Numerals.{digits_within, signed_digits}

pub within-small : (base more number : ℕ) → number < base → digits_within base more number ≡ digit_character (number % base) ∷ []
unfolding digits_within
within-small base zero number h = refl
within-small base (suc more) number h =
    let e : nat_lt number base ≡ true = grind (arith, nat_tests) in
    rw e (ap (λ d. digit_character d ∷ []) (sym (mod-eq_of_lt {n = number} {m = base} h)))

pub within-large : (base more number : ℕ) → base ≤ number → digits_within base (suc more) number ≡ digits_within base more (number / base) ++ digit_character (number % base) ∷ []
unfolding digits_within
within-large base more number h = let e : nat_lt number base ≡ false = grind (arith, nat_tests) in rw e refl

-- the last digit is put behind the others, of which there are none
pub pushed_one : (base more number : ℕ) (old front new : List ℕ) → number < base → front ≡ old → new ≡ front ++ digit_character (number % base) ∷ [] → new ≡ old ++ digits_within base more number
pushed_one base more number old front new h e step =
    step ∙ (ap (λ l. l ++ digit_character (number % base) ∷ []) e ∙ ap (λ l. old ++ l) (sym (within-small base more number h)))

-- and of which there are some
pub pushed_more : (base more number : ℕ) (old front new : List ℕ) → 0 < base → base ≤ number → number < base ^ suc more → ((fewer : ℕ) → number / base < base ^ suc fewer → front ≡ old ++ digits_within base fewer (number / base)) → new ≡ front ++ digit_character (number % base) ∷ [] → new ≡ old ++ digits_within base more number
pushed_more base zero number old front new p h small fronts step =
    let one : base ^ suc zero ≡ 1 * base = pow-suc base zero ∙ ap (λ k. k * base) (pow-zero base) in
    absurd (omega (arith, one))
pushed_more base (suc more) number old front new p h small fronts step =
    let last = digit_character (number % base) ∷ [] in
    let fits : number / base < base ^ suc more = (div-lt_iff_lt-mul {k = base} {x = number} {y = base ^ suc more} p).1 (rw (← pow-suc base (suc more)) small) in
    step ∙ (ap (λ l. l ++ last) (fronts more fits)
    ∙ (append_assoc old (digits_within base more (number / base)) last
    ∙ ap (λ l. old ++ l) (sym (within-large base more number h))))

-- a number of 32 bits has no more than 32 digits
pub digits_fit : (base number : ℕ) → 2 ≤ base → number < 2 ^ 32 → number < base ^ suc 31
digits_fit base number h small = omega (arith, pow-le-pow_left {n = 2} {m = base} h 32)

not-below : (n : ℕ) → nat_lt n 0 ≡ true → ⊥
not-below n h = grind (arith, nat_tests)

-- a sign stands in front of a negative number alone
pushed_unsigned : (base number : ℕ) (z : ℤ) (old front new : List ℕ) → int_lt z (pos 0) ≡ false → number ≡ unsigned_abs z → front ≡ old → new ≡ front ++ digits_within base 31 number → new ≡ old ++ signed_digits base z
pushed_unsigned base number (pos n) old front new h e same step = step ∙ (ap (λ l. l ++ digits_within base 31 number) same ∙ ap (λ k. old ++ digits_within base 31 k) e)
pushed_unsigned base number (negsuc n) old front new h e same step = cc

pushed_signed : (base number : ℕ) (z : ℤ) (old front new : List ℕ) → int_lt z (pos 0) ≡ true → number ≡ unsigned_abs z → front ≡ old ++ 45 ∷ [] → new ≡ front ++ digits_within base 31 number → new ≡ old ++ signed_digits base z
pushed_signed base number (negsuc n) old front new h e same step =
    step ∙ (ap (λ l. l ++ digits_within base 31 number) same
    ∙ (append_assoc old (45 ∷ []) (digits_within base 31 number)
    ∙ ap (λ k. old ++ 45 ∷ digits_within base 31 k) e))
pushed_signed base number (pos n) old front new h e same step = absurd (not-below n h)

pub if-pushed_unsigned : {E : Type 0} (r : Result (Unit {0}) E) (base number : ℕ) (z : ℤ) (old front new : List ℕ) → int_lt z (pos 0) ≡ false → number ≡ unsigned_abs z → front ≡ old → OnOk r (new ≡ front ++ digits_within base 31 number) → OnOk r (new ≡ old ++ signed_digits base z)
if-pushed_unsigned (Ok u) base number z old front new h e same step = pushed_unsigned base number z old front new h e same step
if-pushed_unsigned (Err e') base number z old front new h e same step = tt

pub if-pushed_signed : {E : Type 0} (r : Result (Unit {0}) E) (base number : ℕ) (z : ℤ) (old front new : List ℕ) → int_lt z (pos 0) ≡ true → number ≡ unsigned_abs z → front ≡ old ++ 45 ∷ [] → OnOk r (new ≡ front ++ digits_within base 31 number) → OnOk r (new ≡ old ++ signed_digits base z)
if-pushed_signed (Ok u) base number z old front new h e same step = pushed_signed base number z old front new h e same step
if-pushed_signed (Err e') base number z old front new h e same step = tt
