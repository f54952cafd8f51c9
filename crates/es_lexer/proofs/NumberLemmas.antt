-- Numbers digit by digit, up to the greatest.
use Rattle.std.proofs.Common.{◌≡◌, ℕ, ◌+◌, ◌*◌, ◌^◌, ◌<◌, ◌≤◌, Bool, true, false, List, [], ◌∷◌, length, refl, sym, ◌∙◌, ap, arith}
use Rattle.std.specs.Prelude.{map, min, nat_le}
use Rattle.std.proofs.lemmas.Bool.Decides.{nat_tests}
use Rattle.std.proofs.lemmas.List.{length-map}
use Rattle.std.proofs.Math.Nat.{mul-le-mul_left, mul_assoc, add-mul, zero-mul, pow-succ', pow-zero, mul-one}
use Rattle.bml_bytes.specs.Numbers.{number_in}
use Rattle.es_lexer.specs.Codes.{digit_value}
use Rattle.es_lexer.specs.ScannedNumbers.{number_behind}

big : (cap base n : ℕ) (ds : List ℕ) → 0 < base → cap ≤ n → cap ≤ number_behind base n ds
big cap base n [] p h = h
big cap base n (d ∷ ds) p h = big cap base (n * base + digit_value d) ds p (omega (arith, mul-le-mul_left n p))

saturate-by : (cap base n : ℕ) (ds : List ℕ) (t : Bool) → nat_le n cap ≡ t → 0 < base → min cap (number_behind base (min cap n) ds) ≡ min cap (number_behind base n ds)
saturate-by cap base n ds true e p =
    let small : min cap n ≡ n = grind (arith, nat_tests) in
    ap (λ k. min cap (number_behind base k ds)) small
saturate-by cap base n ds false e p =
    let large : cap ≤ n = grind (arith, nat_tests) in
    let one : cap ≤ number_behind base n ds = big cap base n ds p large in
    let other : cap ≤ number_behind base (min cap n) ds = big cap base (min cap n) ds p (grind arith) in
    grind arith

-- a number that stops at the cap stays as good as the number
pub saturate : (cap base n : ℕ) (ds : List ℕ) → 0 < base → min cap (number_behind base (min cap n) ds) ≡ min cap (number_behind base n ds)
saturate cap base n ds p = saturate-by cap base n ds (nat_le n cap) refl p

pow-step : (n base power value rest : ℕ) → (n * base + value) * power + rest ≡ n * (base * power) + (value * power + rest)
pow-step n base power value rest = rw (add-mul (n * base) value power, mul_assoc n base power) (omega arith)

pub number_behind-is : (base n : ℕ) (ds : List ℕ) → number_behind base n ds ≡ n * base ^ length ds + number_in base (map digit_value ds)
unfolding number_in
number_behind-is base n [] = let e : n ≡ n * base ^ 0 + 0 = rw (pow-zero base, mul-one n) (omega arith) in e
number_behind-is base n (d ∷ ds) =
    number_behind-is base (n * base + digit_value d) ds
    ∙ (pow-step n base (base ^ length ds) (digit_value d) (number_in base (map digit_value ds))
    ∙ rw (length-map ds digit_value) (ap (λ k. n * k + (digit_value d * base ^ length ds + number_in base (map digit_value ds))) (sym (pow-succ' base (length ds)))))

pub number_behind_zero : (base : ℕ) (ds : List ℕ) → number_behind base 0 ds ≡ number_in base (map digit_value ds)
number_behind_zero base ds = number_behind-is base 0 ds ∙ omega (arith, zero-mul (base ^ length ds))

-- at the end of the digits the number is that of all of them, or the cap
pub all_digits : (cap base n : ℕ) (rest digits : List ℕ) → rest ≡ [] → n ≤ cap → min cap (number_behind base n rest) ≡ min cap (number_behind base 0 digits) → n ≡ min cap (number_in base (map digit_value digits))
all_digits cap base n rest digits e small h =
    let now : min cap n ≡ n = grind arith in
    let behind : min cap (number_behind base n rest) ≡ min cap n = ap (λ z. min cap (number_behind base n z)) e in
    sym now ∙ (sym behind ∙ (h ∙ ap (min cap) (number_behind_zero base digits)))
