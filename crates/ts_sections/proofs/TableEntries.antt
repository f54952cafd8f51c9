-- The tables, checked entry by entry: the first by the register, each other one by the one before.
use Rattle.std.proofs.Common.{◌≡◌, ℕ, zero, suc, ◌<◌, Bool, true, ◌&&◌, eqb, List, [], length, get_or, take, drop, map, refl, sym, ap, ◌∙◌}
use Rattle.std.proofs.lemmas.Bool.Decides.{Decides-below_and, Decides-eqb}
use Rattle.ts_sections.specs.declared.crc.TheConstants.{TABLES}
use Rattle.ts_sections.specs.Crc.{bits_of_number, number_of, register_behind, shifted, add_at_front, generator}
use Rattle.ts_sections.proofs.Register.{left_behind}
use Rattle.ts_sections.proofs.Digits.{length-bits, bits-number, number_of-lt}
use Rattle.ts_sections.proofs.Tables.{IsTable, length-left, next_table, all_tables}
use Rattle.ts_sections.proofs.EightBytes.{AreTables}

abbrev entry : ℕ → ℕ
entry i = number_of (left_behind (bits_of_number 8 i))

abbrev entries_match : List ℕ → ℕ → Bool
entries_match table zero = true
entries_match table (suc n) = eqb (get_or table n 0) (entry n) && entries_match table n

first_checked : entries_match (get_or TABLES 0 []) 256 ≡ true
unfolding bits_of_number number_of register_behind shifted add_at_front generator
first_checked = refl

first_size : length (get_or TABLES 0 []) ≡ 256
first_size = refl

others_checked : map (next_table (get_or TABLES 0 [])) (take 7 TABLES) ≡ drop 1 TABLES
others_checked = refl

is_first : (table : List ℕ) → length table ≡ 256 → entries_match table 256 ≡ true → IsTable 0 table
is_first table size checked =
    let entries : (i : ℕ) → i < 256 → get_or table i 0 ≡ entry i = (Decides-below_and (λ i. eqb (get_or table i 0) (entry i)) (λ i. get_or table i 0 ≡ entry i) (entries_match table) (λ i. Decides-eqb _ _) refl (λ _. refl) 256).0 checked in
    let bits : (i : ℕ) → length (left_behind (bits_of_number 8 i)) ≡ 32 = λ i. length-left (bits_of_number 8 i) (length-bits 8 i) in
    record {
      size = size;
      fits = λ i h. rw (entries i h) (number_of-lt (left_behind (bits_of_number 8 i)) 32 (bits i));
      bits = λ i h. ap (bits_of_number 32) (entries i h) ∙ ap (λ n. bits_of_number n (entry i)) (sym (bits i)) ∙ bits-number (left_behind (bits_of_number 8 i));
    }

pub tables_hold : AreTables TABLES
tables_hold = all_tables TABLES 7 refl (is_first (get_or TABLES 0 []) first_size first_checked) others_checked
