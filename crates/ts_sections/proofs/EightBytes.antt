-- Eight bytes at a time: what they leave in a register of zeros, by the tables, and in any other.
use Rattle.std.proofs.Common.{◌≡◌, ℕ, zero, suc, ◌+◌, ◌*◌, ◌/◌, ◌%◌, ◌^◌, ◌<◌, ◌≤◌, Bool, false, List, [], ◌∷◌, ◌++◌, length, get_or, replicate, refl, sym, ap, ◌∙◌, arith, length-append}
use Rattle.std.specs.Prelude.{bit_xor}
use Rattle.std.specs.Int.{w64, to_be_bytes, byte_at, bytes_high_first}
use Rattle.std.proofs.lemmas.List.{replicate-append-replicate, length-replicate}
use Rattle.ts_sections.specs.Crc.{add_at_front, bits_of_number, bits_of, register_behind}
use Rattle.ts_sections.proofs.Adding.{add_comm, add_assoc, add_zeros, length-add, add-append}
use Rattle.ts_sections.proofs.Register.{behind-append, left_behind, byte_in, behind-linear}
use Rattle.ts_sections.proofs.Digits.{length-bits, bits-append, bits-xor, bits-shl}
use Rattle.ts_sections.proofs.CrcLaws.{bits_of-push, bits_of-eight, behind_sum, behind_nothing}
use Rattle.ts_sections.proofs.Tables.{behind_zeros, length-left, IsTable}

abbrev pub none : List Bool
none = replicate 32 false

add_none : (a : List Bool) → length a ≡ 32 → add_at_front a none ≡ a
add_none a h = add_comm a none ∙ add_zeros 32 a (omega (arith, h))

-- one byte leaves there what it would add to what follows it
one_in : (bits : List Bool) → length bits ≡ 8 → register_behind none bits ≡ left_behind bits
one_in bits h =
    byte_in (replicate 8 false) (replicate 24 false) bits refl refl h
    ∙ ap (λ v. add_at_front (left_behind v) none) (add_zeros 8 bits (omega (arith, h)))
    ∙ add_none (left_behind bits) (length-left bits h)

-- what is in the register and what comes in add up
both_in : (r m : List Bool) → length r ≡ 32 → register_behind r m ≡ add_at_front (register_behind r (replicate (length m) false)) (register_behind none m)
both_in r m h =
    ap (λ v. register_behind v m) (sym (add_none r h))
    ∙ ap (register_behind (add_at_front r none)) (sym (add_zeros (length m) m (omega arith)))
    ∙ behind-linear (replicate (length m) false) m r none (length-replicate (length m) false) h refl

-- a byte of zeros first, and not last
zeros_first : (count : ℕ) (r : List Bool) → behind_zeros count (register_behind r (replicate 8 false)) ≡ behind_zeros (suc count) r
zeros_first zero r = refl
zeros_first (suc count) r = ap (λ v. register_behind v (replicate 8 false)) (zeros_first count r)

no_zeros : (r : List Bool) → register_behind r (replicate (length (bits_of [])) false) ≡ r
unfolding register_behind bits_of
no_zeros r = refl

-- as many zeros as the bytes have bits
zeros_for : (bytes : List ℕ) (r : List Bool) → register_behind r (replicate (length (bits_of bytes)) false) ≡ behind_zeros (length bytes) r
zeros_for [] r = no_zeros r
zeros_for (byte ∷ bytes) r =
    let rest = length (bits_of bytes) in
    let size : length (bits_of (byte ∷ bytes)) ≡ 8 + rest =
    ap length (bits_of-push byte bytes) ∙ omega (arith, length-append (bits_of_number 8 byte) (bits_of bytes), length-bits 8 byte) in
    ap (λ n. register_behind r (replicate n false)) size
    ∙ ap (register_behind r) (sym (replicate-append-replicate 8 rest false))
    ∙ behind-append (replicate 8 false) (replicate rest false) r
    ∙ zeros_for bytes (register_behind r (replicate 8 false))
    ∙ zeros_first (length bytes) r

-- the first of some bytes leaves what it would have added when the others have left
first_in : (byte : ℕ) (bytes : List ℕ) → register_behind none (bits_of (byte ∷ bytes)) ≡ add_at_front (behind_zeros (length bytes) (left_behind (bits_of_number 8 byte))) (register_behind none (bits_of bytes))
first_in byte bytes =
    let left = left_behind (bits_of_number 8 byte) in
    ap (register_behind none) (bits_of-push byte bytes)
    ∙ behind-append (bits_of_number 8 byte) (bits_of bytes) none
    ∙ ap (λ v. register_behind v (bits_of bytes)) (one_in (bits_of_number 8 byte) (length-bits 8 byte))
    ∙ both_in left (bits_of bytes) (length-left (bits_of_number 8 byte) (length-bits 8 byte))
    ∙ ap (λ v. add_at_front v (register_behind none (bits_of bytes))) (zeros_for bytes left)

-- what is in the register is added to what comes in first
pub own_bits_first : (register n : ℕ) → register_behind none (bits_of_number 64 (bit_xor n (register * 2 ^ 32 % 2 ^ 64))) ≡ register_behind (bits_of_number 32 register) (bits_of_number 64 n)
own_bits_first register n =
    let own = bits_of_number 32 register in
    let first = bits_of_number 32 (n / 2 ^ 32) in
    let last = bits_of_number 32 n in
    let sum = add_at_front own first in
    let own_size : length own ≡ 32 = length-bits 32 register in
    let first_size : length first ≡ 32 = length-bits 32 (n / 2 ^ 32) in
    let size : length sum ≡ 32 = omega (arith, length-add own first, own_size, first_size) in
    let added : bits_of_number 64 (bit_xor n (register * 2 ^ 32 % 2 ^ 64)) ≡ sum ++ last =
    bits-xor 64 n (register * 2 ^ 32 % 2 ^ 64)
    ∙ ap (λ v. add_at_front v (bits_of_number 64 (register * 2 ^ 32 % 2 ^ 64))) (bits-append 32 32 n)
    ∙ ap (add_at_front (first ++ last)) (bits-shl 32 32 register)
    ∙ add-append first own last none (first_size ∙ sym own_size)
    ∙ ap (λ v. v ++ add_at_front last none) (add_comm first own)
    ∙ ap (λ v. sum ++ v) (add_none last (length-bits 32 n)) in
    let same : register_behind none sum ≡ register_behind own first =
    behind_sum none sum refl size
    ∙ ap (λ v. register_behind v none) (add_zeros 32 sum (omega (arith, size)))
    ∙ sym (behind_sum own first own_size first_size) in
    ap (register_behind none) added
    ∙ behind-append sum last none
    ∙ ap (λ v. register_behind v last) same
    ∙ sym (behind-append first last own)
    ∙ ap (register_behind own) (sym (bits-append 32 32 n))

-- ---- by the tables
-- the entry for a byte in the table for so many bytes later
abbrev pub entry_at : List (List ℕ) → ℕ → ℕ → ℕ
entry_at tables later byte = get_or (get_or tables later []) byte 0

-- a number, and what the tables have for bytes, summed from the front on
abbrev summed : List (List ℕ) → ℕ → List ℕ → ℕ
summed tables sum [] = sum
summed tables sum (byte ∷ bytes) = summed tables (bit_xor sum (entry_at tables (length bytes) byte)) bytes

abbrev pub AreTables : List (List ℕ) → Type 0
AreTables tables = (later : ℕ) → later < 8 → IsTable later (get_or tables later [])

abbrev AreBytes : List ℕ → Type 0
AreBytes bytes = (i : ℕ) → get_or bytes i 0 < 256

bits-summed : (tables : List (List ℕ)) (sum : ℕ) (bytes : List ℕ) → AreTables tables → length bytes ≤ 8 → AreBytes bytes → bits_of_number 32 (summed tables sum bytes) ≡ add_at_front (bits_of_number 32 sum) (register_behind none (bits_of bytes))
bits-summed tables sum [] t h k =
    sym (ap (add_at_front (bits_of_number 32 sum)) (behind_nothing none) ∙ add_none (bits_of_number 32 sum) (length-bits 32 sum))
bits-summed tables sum (byte ∷ bytes) t h k =
    let entry = entry_at tables (length bytes) byte in
    let own = bits_of_number 32 sum in
    let rest = register_behind none (bits_of bytes) in
    bits-summed tables (bit_xor sum entry) bytes t (omega (arith, h)) (λ i. k (suc i))
    ∙ ap (λ v. add_at_front v rest) (bits-xor 32 sum entry)
    ∙ sym (add_assoc own (bits_of_number 32 entry) rest)
    ∙ ap (λ v. add_at_front own (add_at_front v rest)) ((t (length bytes) (omega (arith, h))).bits byte (k 0))
    ∙ ap (add_at_front own) (sym (first_in byte bytes))

-- the sum begins with the first byte's entry
by_tables : (tables : List (List ℕ)) (byte : ℕ) (bytes : List ℕ) → AreTables tables → length bytes < 8 → AreBytes (byte ∷ bytes) → bits_of_number 32 (summed tables (entry_at tables (length bytes) byte) bytes) ≡ register_behind none (bits_of (byte ∷ bytes))
by_tables tables byte bytes t h k =
    bits-summed tables (entry_at tables (length bytes) byte) bytes t (omega (arith, h)) (λ i. k (suc i))
    ∙ ap (λ v. add_at_front v (register_behind none (bits_of bytes))) ((t (length bytes) h).bits byte (k 0))
    ∙ sym (first_in byte bytes)

byte_fits : (place n : ℕ) → byte_at place n < 256
byte_fits zero n = omega arith
byte_fits (suc place) n = omega arith

bytes_fit : (count n : ℕ) → AreBytes (bytes_high_first count n)
bytes_fit zero n i = omega arith
bytes_fit (suc count) n zero = byte_fits count n
bytes_fit (suc count) n (suc i) = bytes_fit count n i

-- the entries of eight bytes, summed
abbrev pub eight_summed : List (List ℕ) → List ℕ → ℕ
eight_summed tables bytes =
    let entry : ℕ → ℕ → ℕ = λ later place. entry_at tables later (get_or bytes place 0) in
    bit_xor (bit_xor (bit_xor (bit_xor (bit_xor (bit_xor (bit_xor (entry 7 0) (entry 6 1)) (entry 5 2)) (entry 4 3)) (entry 3 4)) (entry 2 5)) (entry 1 6)) (entry 0 7)

pub number_by_tables : (tables : List (List ℕ)) (n : ℕ) (bytes : List ℕ) → AreTables tables → bytes ≡ to_be_bytes w64 n → bits_of_number 32 (eight_summed tables bytes) ≡ register_behind none (bits_of_number 64 n)
number_by_tables tables n bytes t e =
    ap (λ v. bits_of_number 32 (eight_summed tables v)) e
    ∙ by_tables tables (byte_at 7 n) (bytes_high_first 7 n) t (omega arith) (bytes_fit 8 n)
    ∙ ap (register_behind none) (bits_of-eight n)
