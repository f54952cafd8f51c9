-- Numbers and their bits.
use Rattle.std.proofs.Common.{◌≡◌, ℕ, zero, suc, ◌+◌, ◌*◌, ◌/◌, ◌%◌, ◌^◌, ◌<◌, ◌==◌, Bool, true, false, cond, List, [], ◌∷◌, ◌++◌, length, replicate, fold, refl, sym, ap, ◌∙◌, subst, arith, zero-add}
use Rattle.std.specs.Int.{bit_at}
use Rattle.std.specs.Prelude.{bit_xor}
use Rattle.std.proofs.lemmas.Nat.{shr-shr, mod-pow-add, shr_split, shr_high, shl-shr}
use Rattle.std.proofs.lemmas.Nat.Bits.{bit_at_xor, bit_at-lt, bit_at_cat_low, bit_at-zero}
use Rattle.std.proofs.Math.Nat.{pow-suc, mod-eq_of_lt, mul-mod_left}
use Rattle.ts_sections.specs.Crc.{bit_sum, add_at_front, bits_of_number, number_of}
use Rattle.ts_sections.proofs.Adding.{both}

pub length-bits : (k n : ℕ) → length (bits_of_number k n) ≡ k
unfolding bits_of_number
length-bits zero n = refl
length-bits (suc k) n = ap suc (length-bits k n)

-- the low bits decide
pub same_low_bits : (k m n : ℕ) → ((i : ℕ) → i < k → bit_at m i ≡ bit_at n i) → bits_of_number k m ≡ bits_of_number k n
unfolding bits_of_number
same_low_bits zero m n h = refl
same_low_bits (suc k) m n h = both (ap (λ v. v == 1) (h k (omega arith))) (same_low_bits k m n (λ i l. h i (omega (arith, l))))

pub bits-mod : (k n : ℕ) → bits_of_number k (n % 2 ^ k) ≡ bits_of_number k n
bits-mod k n = same_low_bits k (n % 2 ^ k) n (λ i l. sym (bit_at_cat_low (n / 2 ^ k) k (n % 2 ^ k) i l) ∙ ap (λ v. bit_at v i) (shr_split n k))

pub bits-append : (j k n : ℕ) → bits_of_number (j + k) n ≡ bits_of_number j (n / 2 ^ k) ++ bits_of_number k n
unfolding bits_of_number
bits-append zero k n = ap (λ v. bits_of_number v n) (zero-add k)
bits-append (suc j) k n =
    let one_more : suc j + k ≡ suc (j + k) = omega arith in
    let turned : k + j ≡ j + k = omega arith in
    ap (λ v. bits_of_number v n) one_more
    ∙ both (ap (λ v. v % 2 == 1) (sym (shr-shr n k j ∙ ap (λ v. n / 2 ^ v) turned))) (bits-append j k n)

bit_sum_test : (x y : ℕ) → x < 2 → y < 2 → ((x + y) % 2 == 1) ≡ bit_sum (x == 1) (y == 1)
bit_sum_test zero zero h k = refl
bit_sum_test zero (suc zero) h k = refl
bit_sum_test (suc zero) zero h k = refl
bit_sum_test (suc zero) (suc zero) h k = refl
bit_sum_test (suc (suc x)) y h k = absurd (omega (arith, h))
bit_sum_test zero (suc (suc y)) h k = absurd (omega (arith, k))
bit_sum_test (suc zero) (suc (suc y)) h k = absurd (omega (arith, k))

pub bits-xor : (k m n : ℕ) → bits_of_number k (bit_xor m n) ≡ add_at_front (bits_of_number k m) (bits_of_number k n)
unfolding bits_of_number add_at_front
bits-xor zero m n = refl
bits-xor (suc k) m n = both (ap (λ v. v == 1) (bit_at_xor m n k) ∙ bit_sum_test (bit_at m k) (bit_at n k) (bit_at-lt m k) (bit_at-lt n k)) (bits-xor k m n)

pub bits-zero : (k : ℕ) → bits_of_number k 0 ≡ replicate k false
unfolding bits_of_number
bits-zero zero = refl
bits-zero (suc k) = both (ap (λ v. v == 1) (bit_at-zero k)) (bits-zero k)

-- a shift within the width
pub bits-shl : (high low n : ℕ) → bits_of_number (high + low) (n * 2 ^ low % 2 ^ (high + low)) ≡ bits_of_number high n ++ replicate low false
bits-shl high low n =
    let none : bits_of_number low (n * 2 ^ low) ≡ replicate low false =
    sym (bits-mod low (n * 2 ^ low)) ∙ ap (bits_of_number low) (mul-mod_left n (2 ^ low)) ∙ bits-zero low in
    bits-mod (high + low) (n * 2 ^ low)
    ∙ bits-append high low (n * 2 ^ low)
    ∙ ap (λ v. bits_of_number high v ++ bits_of_number low (n * 2 ^ low)) (shl-shr n low)
    ∙ ap (λ v. bits_of_number high n ++ v) none

-- ---- the number that bits make
abbrev pub value : Bool → ℕ
value b = cond b 1 0

abbrev pub number_after : ℕ → List Bool → ℕ
number_after n bits = fold (λ n bit. 2 * n + cond bit 1 0) n bits

number_after-low : (bits : List Bool) (n : ℕ) → number_after n bits ≡ n * 2 ^ length bits + number_after 0 bits
number_after-low [] n = omega arith
number_after-low (b ∷ bits) n =
    let power : n * 2 ^ suc (length bits) ≡ n * (2 ^ length bits * 2) = ap (λ p. n * p) (pow-suc 2 (length bits)) in
    omega (arith, power, number_after-low bits (2 * n + value b), number_after-low bits (0 + value b))

number-lt : (bits : List Bool) → number_after 0 bits < 2 ^ length bits
number-lt [] = omega arith
number-lt (true ∷ bits) = omega (arith, number_after-low bits (0 + 1), number-lt bits, pow-suc 2 (length bits))
number-lt (false ∷ bits) = omega (arith, number_after-low bits (0 + 0), number-lt bits, pow-suc 2 (length bits))

pub number_of-lt : (bits : List Bool) (k : ℕ) → length bits ≡ k → number_of bits < 2 ^ k
unfolding number_of
number_of-lt bits k h = subst (λ n. number_after 0 bits < 2 ^ n) h (number-lt bits)

digit : (b : Bool) → (value b == 1) ≡ b
digit true = refl
digit false = refl

test_value : (x : ℕ) → x < 2 → cond (x == 1) 1 0 ≡ x
test_value zero h = refl
test_value (suc zero) h = refl
test_value (suc (suc x)) h = absurd (omega (arith, h))

after_bits : (k n a : ℕ) → number_after a (bits_of_number k n) ≡ a * 2 ^ k + n % 2 ^ k
unfolding bits_of_number
after_bits zero n a = omega arith
after_bits (suc k) n a =
    let bit : cond (bit_at n k == 1) 1 0 ≡ bit_at n k = test_value (bit_at n k) (bit_at-lt n k) in
    let power : a * 2 ^ suc k ≡ a * (2 ^ k * 2) = ap (λ p. a * p) (pow-suc 2 k) in
    let one_more : suc k ≡ 1 + k = omega arith in
    let rest : n % 2 ^ suc k ≡ n / 2 ^ k % 2 * 2 ^ k + n % 2 ^ k = ap (λ v. n % 2 ^ v) one_more ∙ mod-pow-add n 1 k in
    ap (λ v. number_after (2 * a + v) (bits_of_number k n)) bit
    ∙ after_bits k n (2 * a + bit_at n k)
    ∙ omega (arith, power, rest)

pub number-bits : (k n : ℕ) → n < 2 ^ k → number_of (bits_of_number k n) ≡ n
unfolding number_of
number-bits k n h = after_bits k n 0 ∙ omega (arith, mod-eq_of_lt h)

lowest : (a : ℕ) (b : Bool) → (2 * a + value b) % 2 ≡ value b
lowest a true = omega arith
lowest a false = omega arith

bits_after : (bits : List Bool) (a : ℕ) → bits_of_number (length bits) (number_after a bits) ≡ bits
unfolding bits_of_number
bits_after [] a = refl
bits_after (b ∷ bits) a =
    let above : number_after (2 * a + value b) bits / 2 ^ length bits ≡ 2 * a + value b =
    ap (λ v. v / 2 ^ length bits) (number_after-low bits (2 * a + value b)) ∙ shr_high (2 * a + value b) (length bits) (number_after 0 bits) (number-lt bits) in
    both (ap (λ v. v % 2 == 1) above ∙ ap (λ v. v == 1) (lowest a b) ∙ digit b) (bits_after bits (2 * a + value b))

pub bits-number : (bits : List Bool) → bits_of_number (length bits) (number_of bits) ≡ bits
unfolding number_of
bits-number bits = bits_after bits 0
