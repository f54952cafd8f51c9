-- Fields that are read one after another have the values of their runs.
use Rattle.std.proofs.Common.{◌≡◌, ℕ, suc, ◌-◌, ◌/◌, ◌%◌, ◌<◌, ◌≤◌, nat_le, Bool, true, false, cond, List, [], ◌∷◌, ◌++◌, length, take, drop, Option, Some, None, ◌⊎◌, inl, inr, refl, sym, ap, ◌∙◌, arith}
use Rattle.std.specs.Prelude.{option_map, map, ◌==◌}
use Rattle.std.specs.List.{flat_map}
use Rattle.std.specs.Int.{div_ceil}
use Rattle.std.proofs.lemmas.Bool.{le-leb, lt-leb, leb-true, leb-false, cases_Bool}
use Rattle.bml_bytes.specs.Fields.{◌>>=◌, bytes_at}
use Rattle.persistent_arrays.specs.declared.fields.Field.{Field}
use Rattle.persistent_arrays.specs.declared.fields.Field.TheVariants as fields
use Rattle.persistent_arrays.specs.declared.kinds.FieldKind.{FieldKind}
use Rattle.persistent_arrays.specs.declared.kinds.FieldKind.TheVariants.{Bit, Unsigned, Signed, Fixed, Varying}
use Rattle.persistent_arrays.specs.Fields.{field_value}
use Rattle.persistent_arrays.specs.Reading.{Run, BitRun, Single, bits_of, field_at, one_more_bit, runs, unpacked, values_of}
use Rattle.persistent_arrays.specs.devices.Unpackers.{low_bits, unpacked_behind}

-- bytes that are asked for
none-asked : (bytes : List ℕ) → bytes_at 0 bytes ≡ Some ([], bytes)
unfolding bytes_at
none-asked bytes = rw (le-leb 0 (length bytes) (omega arith)) refl

none-there : (count : ℕ) → 0 < count → bytes_at count [] ≡ None
unfolding bytes_at
none-there count h = rw (lt-leb count 0 h) refl

abbrev with_byte : ℕ → List ℕ × List ℕ → List ℕ × List ℕ
with_byte byte read = (byte ∷ read.0, read.1)

one-more : (count byte : ℕ) (bytes : List ℕ) → bytes_at (suc count) (byte ∷ bytes) ≡ option_map (with_byte byte) (bytes_at count bytes)
unfolding bytes_at
one-more count byte bytes = by (cases_Bool (nat_le count (length bytes)))
  where
    by : (nat_le count (length bytes) ≡ true) ⊎ (nat_le count (length bytes) ≡ false) → cond (nat_le (suc count) (length (byte ∷ bytes))) (Some (take (suc count) (byte ∷ bytes), drop (suc count) (byte ∷ bytes))) None ≡ option_map (with_byte byte) (cond (nat_le count (length bytes)) (Some (take count bytes, drop count bytes)) None)
    by (inl fits) =
        let short = leb-true count (length bytes) fits in
        let longer : suc count ≤ length (byte ∷ bytes) = omega arith in
        rw (fits, le-leb (suc count) (length (byte ∷ bytes)) longer) refl
    by (inr not) =
        let long = leb-false count (length bytes) not in
        let longer : length (byte ∷ bytes) < suc count = omega arith in
        rw (not, lt-leb (suc count) (length (byte ∷ bytes)) longer) refl

-- a run of bits, where some are left of an open byte
abbrev bits_then : ℕ → List Bool → List Run → Option (List ℕ × List ℕ) → Option (List Field)
bits_then count bits all found = found >>= λ read. option_map (λ values. map fields.Bit (take count (bits ++ flat_map bits_of read.0)) ++ values) (values_of all read.1)

abbrev read_behind : List Bool → List Run → List ℕ → Option (List Field)
read_behind bits [] bytes = Some []
read_behind bits (BitRun count ∷ all) bytes = bits_then count bits all (bytes_at (div_ceil (count - length bits) 8) bytes)
read_behind bits (Single kind ∷ all) bytes = values_of (Single kind ∷ all) bytes

abbrev bit_values : ℕ → List ℕ × List ℕ → List Field × List ℕ
bit_values count read = (map fields.Bit (take count (flat_map bits_of read.0)), read.1)

abbrev single_value : FieldKind → List ℕ × List ℕ → List Field × List ℕ
single_value kind read = (field_value kind read.0 ∷ [], read.1)

run-bits : (count : ℕ) (all : List Run) (found : Option (List ℕ × List ℕ))
    → (option_map (bit_values count) found >>= λ read. option_map (λ values. read.0 ++ values) (values_of all read.1)) ≡ bits_then count [] all found
run-bits count all None = refl
run-bits count all (Some read) = refl

behind-none : (all : List Run) (bytes : List ℕ) → read_behind [] all bytes ≡ values_of all bytes
behind-none [] bytes = refl
behind-none (BitRun count ∷ all) bytes =
    let same : count - 0 ≡ count = omega arith in
    ap (λ (n : ℕ). bits_then count [] all (bytes_at (div_ceil n 8) bytes)) same ∙ sym (run-bits count all (bytes_at (div_ceil count 8) bytes))
behind-none (Single kind ∷ all) bytes = refl

-- a bit of an open byte
twice : (bit : Bool) (front : List Field) (found : Option (List Field)) → option_map (λ values. fields.Bit bit ∷ values) (option_map (λ values. front ++ values) found) ≡ option_map (λ values. (fields.Bit bit ∷ front) ++ values) found
twice bit front None = refl
twice bit front (Some values) = refl

taken : (bit : Bool) (count : ℕ) (bits : List Bool) (all : List Run) (found : Option (List ℕ × List ℕ))
    → option_map (λ values. fields.Bit bit ∷ values) (bits_then count bits all found) ≡ bits_then (suc count) (bit ∷ bits) all found
taken bit count bits all None = refl
taken bit count bits all (Some read) = twice bit (map fields.Bit (take count (bits ++ flat_map bits_of read.0))) (values_of all read.1)

open-single : (bit : Bool) (bits : List Bool) (all : List Run) (bytes : List ℕ)
    → option_map (λ values. fields.Bit bit ∷ values) (values_of all bytes) ≡ bits_then 1 (bit ∷ bits) all (bytes_at (div_ceil (1 - length (bit ∷ bits)) 8) bytes)
open-single bit bits all bytes =
    let none : div_ceil (1 - length (bit ∷ bits)) 8 ≡ 0 = omega arith in
    sym (ap (λ (n : ℕ). bits_then 1 (bit ∷ bits) all (bytes_at n bytes)) none ∙ ap (bits_then 1 (bit ∷ bits) all) (none-asked bytes))

open-bit : (bit : Bool) (bits : List Bool) (all : List Run) (bytes : List ℕ)
    → option_map (λ values. fields.Bit bit ∷ values) (read_behind bits all bytes) ≡ read_behind (bit ∷ bits) (one_more_bit all) bytes
open-bit bit bits [] bytes = open-single bit bits [] bytes
open-bit bit bits (BitRun count ∷ all) bytes =
    let left : suc count - length (bit ∷ bits) ≡ count - length bits = omega arith in
    taken bit count bits all (bytes_at (div_ceil (count - length bits) 8) bytes) ∙ ap (λ (n : ℕ). bits_then (suc count) (bit ∷ bits) all (bytes_at (div_ceil n 8) bytes)) (sym left)
open-bit bit bits (Single kind ∷ all) bytes = open-single bit bits (Single kind ∷ all) bytes

-- the first bit of a byte
first-byte : (count byte : ℕ) (all : List Run) (found : Option (List ℕ × List ℕ)) → bits_then count (bits_of byte) all found ≡ bits_then count [] all (option_map (with_byte byte) found)
first-byte count byte all None = refl
first-byte count byte all (Some read) = refl

opened : (count byte : ℕ) (all : List Run) (bytes : List ℕ) → read_behind (bits_of byte) (BitRun (suc count) ∷ all) bytes ≡ read_behind [] (BitRun (suc count) ∷ all) (byte ∷ bytes)
opened count byte all bytes =
    let more : div_ceil (suc count - 0) 8 ≡ suc (div_ceil (suc count - 8) 8) = omega arith in
    first-byte (suc count) byte all (bytes_at (div_ceil (suc count - 8) 8) bytes)
    ∙ ap (bits_then (suc count) [] all) (sym (one-more (div_ceil (suc count - 8) 8) byte bytes))
    ∙ ap (λ (n : ℕ). bits_then (suc count) [] all (bytes_at n (byte ∷ bytes))) (sym more)

new-byte : (byte : ℕ) (all : List Run) (bytes : List ℕ) → read_behind (bits_of byte) (one_more_bit all) bytes ≡ read_behind [] (one_more_bit all) (byte ∷ bytes)
new-byte byte [] bytes = opened 0 byte [] bytes
new-byte byte (BitRun count ∷ all) bytes = opened count byte all bytes
new-byte byte (Single kind ∷ all) bytes = opened 0 byte (Single kind ∷ all) bytes

ended : (count : ℕ) (all : List Run) → read_behind [] (BitRun (suc count) ∷ all) [] ≡ None
ended count all =
    let some : 0 < div_ceil (suc count - 0) 8 = omega arith in
    ap (bits_then (suc count) [] all) (none-there (div_ceil (suc count - 0) 8) some)

no-byte : (all : List Run) → read_behind [] (one_more_bit all) [] ≡ None
no-byte [] = ended 0 []
no-byte (BitRun count ∷ all) = ended count all
no-byte (Single kind ∷ all) = ended 0 (Single kind ∷ all)

-- another field
single-from : (kind : FieldKind) (kinds : List FieldKind) (found : Option (List ℕ × List ℕ)) → ((bytes : List ℕ) → unpacked_behind [] kinds bytes ≡ values_of (runs kinds) bytes)
    → (found >>= λ field. option_map (λ values. field_value kind field.0 ∷ values) (unpacked_behind [] kinds field.1))
    ≡ (option_map (single_value kind) found >>= λ read. option_map (λ values. read.0 ++ values) (values_of (runs kinds) read.1))
single-from kind kinds None again = refl
single-from kind kinds (Some field) again = ap (option_map (λ values. field_value kind field.0 ∷ values)) (again field.1)

behind-is : (bits : List Bool) (kinds : List FieldKind) (bytes : List ℕ) → unpacked_behind bits kinds bytes ≡ read_behind bits (runs kinds) bytes
behind-is bits [] bytes = refl
behind-is (bit ∷ bits) (Bit ∷ kinds) bytes = ap (option_map (λ values. fields.Bit bit ∷ values)) (behind-is bits kinds bytes) ∙ open-bit bit bits (runs kinds) bytes
behind-is [] (Bit ∷ kinds) [] = sym (no-byte (runs kinds))
behind-is [] (Bit ∷ kinds) (byte ∷ bytes) =
    ap (option_map (λ values. fields.Bit (byte / 128 % 2 == 1) ∷ values)) (behind-is (low_bits byte) kinds bytes)
    ∙ open-bit (byte / 128 % 2 == 1) (low_bits byte) (runs kinds) bytes ∙ new-byte byte (runs kinds) bytes
behind-is [] (Unsigned size ∷ kinds) bytes = single-from (Unsigned size) kinds (field_at (Unsigned size) bytes) (λ b. behind-is [] kinds b ∙ behind-none (runs kinds) b)
behind-is [] (Signed size ∷ kinds) bytes = single-from (Signed size) kinds (field_at (Signed size) bytes) (λ b. behind-is [] kinds b ∙ behind-none (runs kinds) b)
behind-is [] (Fixed size ∷ kinds) bytes = single-from (Fixed size) kinds (field_at (Fixed size) bytes) (λ b. behind-is [] kinds b ∙ behind-none (runs kinds) b)
behind-is [] (Varying ∷ kinds) bytes = single-from Varying kinds (field_at Varying bytes) (λ b. behind-is [] kinds b ∙ behind-none (runs kinds) b)
behind-is (bit ∷ bits) (Unsigned size ∷ kinds) bytes = single-from (Unsigned size) kinds (field_at (Unsigned size) bytes) (λ b. behind-is [] kinds b ∙ behind-none (runs kinds) b)
behind-is (bit ∷ bits) (Signed size ∷ kinds) bytes = single-from (Signed size) kinds (field_at (Signed size) bytes) (λ b. behind-is [] kinds b ∙ behind-none (runs kinds) b)
behind-is (bit ∷ bits) (Fixed size ∷ kinds) bytes = single-from (Fixed size) kinds (field_at (Fixed size) bytes) (λ b. behind-is [] kinds b ∙ behind-none (runs kinds) b)
behind-is (bit ∷ bits) (Varying ∷ kinds) bytes = single-from Varying kinds (field_at Varying bytes) (λ b. behind-is [] kinds b ∙ behind-none (runs kinds) b)

-- what is read field by field is what is read
pub unpacked-is : (kinds : List FieldKind) (bytes : List ℕ) → unpacked_behind [] kinds bytes ≡ unpacked kinds bytes
unpacked-is kinds bytes = behind-is [] kinds bytes ∙ behind-none (runs kinds) bytes
