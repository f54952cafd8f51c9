-- Numbers digit by digit, up to the greatest.
use Rattle.std.proofs.Common.{◌≡◌, ℕ, ◌+◌, ◌*◌, ◌^◌, ◌<◌, ◌≤◌, Bool, true, false, List, [], ◌∷◌, length, refl, sym, ◌∙◌, ap, arith}
use Rattle.std.specs.Prelude.{map, min, nat_le}
use Rattle.std.proofs.lemmas.Bool.Decides.{nat_tests}
use Rattle.std.proofs.lemmas.List.{length-map}
use Rattle.std.proofs.Math.Nat.{mul-le-mul_left, mul_assoc, add-mul, zero-mul, pow-succ', pow-zero, mul-one}
use Rattle.bml_bytes.specs.Numbers.{number_in}

-- the number of some digits, each worth what f gives, where this number stands in front of them
abbrev pub number_behind : (ℕ → ℕ) → ℕ → ℕ → List ℕ → ℕ
number_behind f base number [] = number
number_behind f base number (digit ∷ digits) = number_behind f base (number * base + f digit) digits

big : (f : ℕ → ℕ) (cap base n : ℕ) (ds : List ℕ) → 0 < base → cap ≤ n → cap ≤ number_behind f base n ds
big f cap base n [] p h = h
big f cap base n (d ∷ ds) p h = big f cap base (n * base + f d) ds p (omega (arith, mul-le-mul_left n p))

saturate-by : (f : ℕ → ℕ) (cap base n : ℕ) (ds : List ℕ) (t : Bool) → nat_le n cap ≡ t → 0 < base → min cap (number_behind f base (min cap n) ds) ≡ min cap (number_behind f base n ds)
saturate-by f cap base n ds true e p =
    let small : min cap n ≡ n = grind (arith, nat_tests) in
    ap (λ k. min cap (number_behind f base k ds)) small
saturate-by f cap base n ds false e p =
    let large : cap ≤ n = grind (arith, nat_tests) in
    let one : cap ≤ number_behind f base n ds = big f cap base n ds p large in
    let other : cap ≤ number_behind f base (min cap n) ds = big f cap base (min cap n) ds p (grind arith) in
    grind arith

-- a number that stops at the cap stays as good as the number
pub saturate : (f : ℕ → ℕ) (cap base n : ℕ) (ds : List ℕ) → 0 < base → min cap (number_behind f base (min cap n) ds) ≡ min cap (number_behind f base n ds)
saturate f cap base n ds p = saturate-by f cap base n ds (nat_le n cap) refl p

pow-step : (n base power value rest : ℕ) → (n * base + value) * power + rest ≡ n * (base * power) + (value * power + rest)
pow-step n base power value rest = rw (add-mul (n * base) value power, mul_assoc n base power) (omega arith)

number_behind-is : (f : ℕ → ℕ) (base n : ℕ) (ds : List ℕ) → number_behind f base n ds ≡ n * base ^ length ds + number_in base (map f ds)
unfolding number_in
number_behind-is f base n [] = let e : n ≡ n * base ^ 0 + 0 = rw (pow-zero base, mul-one n) (omega arith) in e
number_behind-is f base n (d ∷ ds) =
    number_behind-is f base (n * base + f d) ds
    ∙ (pow-step n base (base ^ length ds) (f d) (number_in base (map f ds))
    ∙ rw (length-map ds f) (ap (λ k. n * k + (f d * base ^ length ds + number_in base (map f ds))) (sym (pow-succ' base (length ds)))))

number_behind_zero : (f : ℕ → ℕ) (base : ℕ) (ds : List ℕ) → number_behind f base 0 ds ≡ number_in base (map f ds)
number_behind_zero f base ds = number_behind-is f base 0 ds ∙ omega (arith, zero-mul (base ^ length ds))

-- at the end of the digits the number is that of all of them, or the cap
pub all_digits : (f : ℕ → ℕ) (cap base n : ℕ) (rest digits : List ℕ) → rest ≡ [] → n ≤ cap → min cap (number_behind f base n rest) ≡ min cap (number_behind f base 0 digits) → n ≡ min cap (number_in base (map f digits))
all_digits f cap base n rest digits e small h =
    let now : min cap n ≡ n = grind arith in
    let behind : min cap (number_behind f base n rest) ≡ min cap n = ap (λ z. min cap (number_behind f base n z)) e in
    sym now ∙ (sym behind ∙ (h ∙ ap (min cap) (number_behind_zero f base digits)))

-- one digit more is read
pub next_digit : (f : ℕ → ℕ) (cap base n d next : ℕ) (rest more digits : List ℕ) → 0 < base → next ≡ min cap (n * base + f d) → rest ≡ d ∷ more → min cap (number_behind f base n rest) ≡ min cap (number_behind f base 0 digits) → min cap (number_behind f base next more) ≡ min cap (number_behind f base 0 digits)
next_digit f cap base n d next rest more digits p step e h =
    ap (λ k. min cap (number_behind f base k more)) step
    ∙ (saturate f cap base (n * base + f d) more p
    ∙ (ap (λ z. min cap (number_behind f base n z)) (sym e)
    ∙ h))

pub nothing-left : (l : List ℕ) → length l ≡ 0 → l ≡ []
nothing-left [] e = refl
nothing-left (b ∷ l) e = absurd (omega (arith, e))
