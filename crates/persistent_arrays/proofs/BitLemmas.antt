-- The bits of a byte that bits share are those bits, and then bits that are not set.
use Rattle.std.proofs.Common.{◌≡◌, ℕ, zero, suc, ◌+◌, ◌-◌, ◌*◌, ◌/◌, ◌%◌, ◌^◌, ◌<◌, ◌≤◌, nat_eq, Bool, true, false, cond, List, [], ◌∷◌, ◌++◌, length, replicate, refl, sym, ap, ◌∙◌, arith}
use Rattle.std.proofs.Math.Nat.{div-eq_of_lt, add-mul-div_right, add-mul-mod_self_right, pow-suc}
use Rattle.std.proofs.Math.Pow.{pow_pos}
use Rattle.std.proofs.lemmas.Nat.{div-mul-add}
use Rattle.persistent_arrays.specs.Packing.{weighed}
use Rattle.persistent_arrays.specs.Reading.{bits_of}

-- the last bits of a number
abbrev last_bits : ℕ → ℕ → List Bool
last_bits zero number = []
last_bits (suc count) number = nat_eq (number / 2 ^ count % 2) 1 ∷ last_bits count number

bits_of-last : (byte : ℕ) → bits_of byte ≡ last_bits 8 byte
bits_of-last byte = let whole : byte / 1 ≡ byte = omega arith in rw whole refl

last_bits-zero : (count : ℕ) → last_bits count 0 ≡ replicate count false
last_bits-zero zero = refl
last_bits-zero (suc count) =
    let none : 0 / 2 ^ count ≡ 0 = div-eq_of_lt (pow_pos count) in
    ap (λ (n : ℕ). nat_eq (n % 2) 1 ∷ last_bits count 0) none ∙ ap (λ (bits : List Bool). false ∷ bits) (last_bits-zero count)

last_bits-above : (count high low : ℕ) → last_bits count (high * 2 ^ count + low) ≡ last_bits count low
last_bits-above zero high low = refl
last_bits-above (suc count) high low =
    let moved : high * 2 ^ suc count + low ≡ low + high * 2 * 2 ^ count = rw (pow-suc 2 count) (omega arith) in
    let turned : low + high * 2 * 2 ^ count ≡ high * 2 * 2 ^ count + low = omega arith in
    let place : (high * 2 ^ suc count + low) / 2 ^ count ≡ low / 2 ^ count + high * 2 = ap (λ (n : ℕ). n / 2 ^ count) moved ∙ add-mul-div_right low (high * 2) (pow_pos count) in
    let first : (high * 2 ^ suc count + low) / 2 ^ count % 2 ≡ low / 2 ^ count % 2 = ap (λ (n : ℕ). n % 2) place ∙ add-mul-mod_self_right (low / 2 ^ count) high 2 in
    let rest : last_bits count (high * 2 ^ suc count + low) ≡ last_bits count low = ap (last_bits count) (moved ∙ turned) ∙ last_bits-above count (high * 2) low in
    cc

weighed-nothing : (bits : List Bool) → weighed 0 bits ≡ 0
weighed-nothing [] = refl
weighed-nothing (true ∷ bits) = let e = weighed-nothing bits in omega arith
weighed-nothing (false ∷ bits) = let e = weighed-nothing bits in omega arith

half : (count : ℕ) → 2 ^ suc count / 2 ≡ 2 ^ count
half count = rw (pow-suc 2 count) (omega arith)

weighed-below : (count : ℕ) (bits : List Bool) → weighed (2 ^ count) bits < 2 ^ suc count
weighed-below count [] = pow_pos (suc count)
weighed-below zero (true ∷ bits) = let e = weighed-nothing bits in omega arith
weighed-below zero (false ∷ bits) = let e = weighed-nothing bits in omega arith
weighed-below (suc count) (true ∷ bits) =
    let rest : weighed (2 ^ suc count / 2) bits < 2 ^ suc count = rw half (weighed-below count bits) in
    let power = pow-suc 2 (suc count) in
    omega arith
weighed-below (suc count) (false ∷ bits) =
    let rest : weighed (2 ^ suc count / 2) bits < 2 ^ suc count = rw half (weighed-below count bits) in
    let power = pow-suc 2 (suc count) in
    omega arith

last_bits-weighed : (count : ℕ) (bits : List Bool) → length bits ≤ suc count → last_bits (suc count) (weighed (2 ^ count) bits) ≡ bits ++ replicate (suc count - length bits) false
last_bits-weighed count [] h = let all : suc count - 0 ≡ suc count = omega arith in last_bits-zero (suc count) ∙ ap (λ (n : ℕ). replicate n false) (sym all)
last_bits-weighed zero (true ∷ []) h = refl
last_bits-weighed zero (false ∷ []) h = refl
last_bits-weighed zero (bit ∷ next ∷ bits) h = absurd (omega arith)
last_bits-weighed (suc count) (bit ∷ bits) h =
    let few : length bits ≤ suc count = omega arith in
    let left : suc (suc count) - length (bit ∷ bits) ≡ suc count - length bits = omega arith in
    let low : weighed (2 ^ suc count / 2) bits ≡ weighed (2 ^ count) bits = ap (λ (w : ℕ). weighed w bits) (half count) in
    let fits = weighed-below count bits in
    whole bit ∙ ap (λ (rest : List Bool). bit ∷ rest) (last_bits-weighed count bits few) ∙ ap (λ (n : ℕ). bit ∷ (bits ++ replicate n false)) (sym left)
  where
    one : (number : ℕ) → number < 2 ^ suc count → (1 * 2 ^ suc count + number) / 2 ^ suc count ≡ 1
    one number fits = div-mul-add 1 (2 ^ suc count) number fits

    same : (number : ℕ) → 2 ^ suc count + number ≡ 1 * 2 ^ suc count + number
    same number = omega arith

    whole : (first : Bool) → last_bits (suc (suc count)) (cond first (2 ^ suc count) 0 + weighed (2 ^ suc count / 2) bits) ≡ first ∷ last_bits (suc count) (weighed (2 ^ count) bits)
    whole true =
        let low : weighed (2 ^ suc count / 2) bits ≡ weighed (2 ^ count) bits = ap (λ (w : ℕ). weighed w bits) (half count) in
        let number : ℕ = weighed (2 ^ count) bits in
        ap (λ (n : ℕ). last_bits (suc (suc count)) (2 ^ suc count + n)) low
        ∙ ap (last_bits (suc (suc count))) (same number)
        ∙ ap (λ (n : ℕ). nat_eq (n % 2) 1 ∷ last_bits (suc count) (1 * 2 ^ suc count + number)) (one number (weighed-below count bits))
        ∙ ap (λ (rest : List Bool). true ∷ rest) (last_bits-above (suc count) 1 number)
    whole false =
        let low : 0 + weighed (2 ^ suc count / 2) bits ≡ weighed (2 ^ count) bits = (let e = ap (λ (w : ℕ). weighed w bits) (half count) in omega arith) in
        let number : ℕ = weighed (2 ^ count) bits in
        let none : number / 2 ^ suc count ≡ 0 = div-eq_of_lt (weighed-below count bits) in
        ap (last_bits (suc (suc count))) low
        ∙ ap (λ (n : ℕ). nat_eq (n % 2) 1 ∷ last_bits (suc count) number) none

-- bits that share a byte are its first bits
pub bits_of-weighed : (bits : List Bool) → length bits ≤ 8 → bits_of (weighed 128 bits) ≡ bits ++ replicate (8 - length bits) false
bits_of-weighed bits h = bits_of-last (weighed 128 bits) ∙ last_bits-weighed 7 bits h
