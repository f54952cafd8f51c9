-- The tables: what a byte that leaves the register adds to what follows it, as it leaves and so many bytes later.
use Rattle.std.proofs.Common.{◌≡◌, ℕ, zero, suc, ◌+◌, ◌*◌, ◌/◌, ◌%◌, ◌^◌, ◌<◌, ◌≤◌, Bool, false, List, [], ◌++◌, length, get_or, take, drop, map, replicate, sym, ap, ◌∙◌, subst, arith, length-append, length-take-le}
use Rattle.std.specs.Prelude.{bit_xor}
use Rattle.std.proofs.lemmas.List.{length-map, get_or-map, get_or-drop, get_or-take}
use Rattle.std.proofs.lemmas.Nat.{xor_of_8, xor_of_32}
use Rattle.ts_sections.specs.Crc.{add_at_front, bits_of_number, register_behind}
use Rattle.ts_sections.proofs.Adding.{add_comm}
use Rattle.ts_sections.proofs.Register.{length-behind, left_behind, byte_in}
use Rattle.ts_sections.proofs.Digits.{length-bits, bits-append, bits-xor, bits-zero, bits-shl}

-- the register when so many bytes of zeros came in
abbrev pub behind_zeros : ℕ → List Bool → List Bool
behind_zeros zero register = register
behind_zeros (suc count) register = register_behind (behind_zeros count register) (replicate 8 false)

pub length-left : (bits : List Bool) → length bits ≡ 8 → length (left_behind bits) ≡ 32
length-left bits h = length-behind (replicate 8 false) (bits ++ replicate 24 false) (omega (arith, length-append bits (replicate 24 false), h))

-- the table for so many bytes later
pub record IsTable (later : ℕ) (table : List ℕ) : Type 0 where
  pub size : length table ≡ 256
  pub fits : (i : ℕ) → i < 256 → get_or table i 0 < 2 ^ 32
  pub bits : (i : ℕ) → i < 256 → bits_of_number 32 (get_or table i 0) ≡ behind_zeros later (left_behind (bits_of_number 8 i))

-- ---- one byte by the first table
-- the register when a byte came in, by a table
abbrev pub stepped : List ℕ → ℕ → ℕ → ℕ
stepped table register byte = bit_xor (register * 2 ^ 8 % 2 ^ 32) (get_or table (bit_xor (register / 2 ^ 24) byte) 0)

leaving_fits : (register byte : ℕ) → register < 2 ^ 32 → byte < 256 → bit_xor (register / 2 ^ 24) byte < 256
leaving_fits register byte h k = xor_of_8 (register / 2 ^ 24) byte (omega arith) (omega arith)

pub by_table : (table : List ℕ) (register byte : ℕ) → IsTable 0 table → register < 2 ^ 32 → byte < 256 → bits_of_number 32 (stepped table register byte) ≡ register_behind (bits_of_number 32 register) (bits_of_number 8 byte)
by_table table register byte t h k =
    let i = bit_xor (register / 2 ^ 24) byte in
    let high = bits_of_number 8 (register / 2 ^ 24) in
    let low = bits_of_number 24 register in
    let index : bits_of_number 8 i ≡ add_at_front high (bits_of_number 8 byte) = bits-xor 8 (register / 2 ^ 24) byte in
    bits-xor 32 (register * 2 ^ 8 % 2 ^ 32) (get_or table i 0)
    ∙ ap (λ v. add_at_front v (bits_of_number 32 (get_or table i 0))) (bits-shl 24 8 register)
    ∙ ap (add_at_front (low ++ replicate 8 false)) (t.bits i (leaving_fits register byte h k) ∙ ap left_behind index)
    ∙ add_comm (low ++ replicate 8 false) (left_behind (add_at_front high (bits_of_number 8 byte)))
    ∙ sym (byte_in high low (bits_of_number 8 byte) (length-bits 8 (register / 2 ^ 24)) (length-bits 24 register) (length-bits 8 byte))
    ∙ ap (λ v. register_behind v (bits_of_number 8 byte)) (sym (bits-append 8 24 register))

stepped_fits : (table : List ℕ) (register byte : ℕ) → IsTable 0 table → register < 2 ^ 32 → byte < 256 → stepped table register byte < 2 ^ 32
stepped_fits table register byte t h k =
    xor_of_32 (register * 2 ^ 8 % 2 ^ 32) (get_or table (bit_xor (register / 2 ^ 24) byte) 0) (omega arith) (t.fits (bit_xor (register / 2 ^ 24) byte) (leaving_fits register byte h k))

-- ---- each table from the one before, by a byte of zeros
abbrev pub next_table : List ℕ → List ℕ → List ℕ
next_table first table = map (λ entry. stepped first entry 0) table

is_next : (first table : List ℕ) (later : ℕ) → IsTable 0 first → IsTable later table → IsTable (suc later) (next_table first table)
is_next first table later t u =
    let entry : (i : ℕ) → i < 256 → get_or (next_table first table) i 0 ≡ stepped first (get_or table i 0) 0 =
    λ i h. get_or-map (λ entry. stepped first entry 0) table i 0 0 (omega (arith, u.size)) in
    record {
      size = length-map table (λ entry. stepped first entry 0) ∙ u.size;
      fits = λ i h. rw (entry i h) (stepped_fits first (get_or table i 0) 0 t (u.fits i h) (omega arith));
      bits = λ i h.
          ap (bits_of_number 32) (entry i h)
          ∙ by_table first (get_or table i 0) 0 t (u.fits i h) (omega arith)
          ∙ ap (register_behind (bits_of_number 32 (get_or table i 0))) (bits-zero 8)
          ∙ ap (λ v. register_behind v (replicate 8 false)) (u.bits i h);
    }

-- all tables, where each is the next of the one before
pub all_tables : (tables : List (List ℕ)) (n : ℕ) → length tables ≡ suc n → IsTable 0 (get_or tables 0 []) → map (next_table (get_or tables 0 [])) (take n tables) ≡ drop 1 tables → (later : ℕ) → later < suc n → IsTable later (get_or tables later [])
all_tables tables n size t e zero h = t
all_tables tables n size t e (suc later) h =
    let first = get_or tables 0 [] in
    let one_more : suc later ≡ 1 + later = omega arith in
    let whole : n ≤ length tables = omega (arith, size) in
    let same : get_or tables (suc later) [] ≡ next_table first (get_or tables later []) =
    ap (λ k. get_or tables k []) one_more
    ∙ sym (get_or-drop 1 tables later [])
    ∙ ap (λ v. get_or v later []) (sym e)
    ∙ get_or-map (next_table first) (take n tables) later [] [] (omega (arith, length-take-le n tables whole))
    ∙ ap (next_table first) (get_or-take n tables later [] (omega arith)) in
    subst (IsTable (suc later)) (sym same) (is_next first (get_or tables later []) later t (all_tables tables n size t e later (omega arith)))
