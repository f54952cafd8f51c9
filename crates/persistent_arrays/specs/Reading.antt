-- Which values the bytes of a persistent array have (this project's own, after ARIB STD-B24, volume 2). What is read are
-- whole runs of neighbouring bits, each from the top bit of a byte on, and other fields, each from a byte on.
use Rattle.std.specs.Prelude.{◌≡◌, ◌/◌, ◌%◌, ◌==◌, ℕ, suc, Bool, List, [], ◌∷◌, ◌++◌, map, take, Option, Some, None, option_map}
use Rattle.std.specs.List.{flat_map}
use Rattle.std.specs.Int.{div_ceil}
use Rattle.bml_bytes.specs.Fields.{◌>>=◌, byte_at, bytes_at}
use Rattle.persistent_arrays.specs.declared.fields.Field.{Field}
use Rattle.persistent_arrays.specs.declared.fields.Field.TheVariants as fields
use Rattle.persistent_arrays.specs.declared.kinds.FieldKind.{FieldKind}
use Rattle.persistent_arrays.specs.declared.kinds.FieldKind.TheVariants.{Bit, Unsigned, Signed, Fixed, Varying}
use Rattle.persistent_arrays.specs.Fields.{field_value}

-- what is read together: so many neighbouring bits, or another field
pub data Run : Type 0 where
  BitRun : ℕ → Run
  Single : FieldKind → Run

-- runs with one more bit in front, which joins the bits that they begin with
abbrev pub one_more_bit : List Run → List Run
one_more_bit [] = BitRun 1 ∷ []
one_more_bit (BitRun count ∷ runs) = BitRun (suc count) ∷ runs
one_more_bit (Single kind ∷ runs) = BitRun 1 ∷ Single kind ∷ runs

-- the runs of fields
abbrev pub runs : List FieldKind → List Run
runs [] = []
runs (Bit ∷ kinds) = one_more_bit (runs kinds)
runs (kind ∷ kinds) = Single kind ∷ runs kinds

-- the eight bits of a byte, from the top
abbrev pub bits_of : ℕ → List Bool
bits_of byte =
    (byte / 128 % 2 == 1) ∷ (byte / 64 % 2 == 1) ∷ (byte / 32 % 2 == 1) ∷ (byte / 16 % 2 == 1)
    ∷ (byte / 8 % 2 == 1) ∷ (byte / 4 % 2 == 1) ∷ (byte / 2 % 2 == 1) ∷ (byte % 2 == 1) ∷ []

-- The bytes of a field that is no bit, and those behind it; none where they end before. Those of a text of varying size
-- are as many as the byte in front of them says.
abbrev pub field_at : FieldKind → List ℕ → Option (List ℕ × List ℕ)
field_at (Unsigned size) bytes = bytes_at size bytes
field_at (Signed size) bytes = bytes_at size bytes
field_at (Fixed size) bytes = bytes_at size bytes
field_at Varying bytes = byte_at bytes >>= λ count. bytes_at count.0 count.1
field_at Bit bytes = None

-- the values of a run at the front of bytes, and the bytes behind it; none where they end before
abbrev pub run_at : Run → List ℕ → Option (List Field × List ℕ)
run_at (BitRun count) bytes =
    option_map (λ read. (map fields.Bit (take count (flat_map bits_of read.0)), read.1))
    (bytes_at (div_ceil count 8) bytes)
run_at (Single kind) bytes =
    option_map (λ read. (field_value kind read.0 ∷ [], read.1)) (field_at kind bytes)

-- the values of runs, one after another
abbrev pub values_of : List Run → List ℕ → Option (List Field)
values_of [] bytes = Some []
values_of (run ∷ runs) bytes =
    run_at run bytes >>= λ read. option_map (λ values. read.0 ++ values) (values_of runs read.1)

-- the values of fields in the bytes of an array; none where a field passes the bytes' end
abbrev pub unpacked : List FieldKind → List ℕ → Option (List Field)
unpacked kinds bytes = values_of (runs kinds) bytes

-- Bytes that spell the values of runs are those of each run, one run after another, with nothing left over. What a run of
-- bits doesn't use of its last byte may be any.
abbrev pub AreSpelled : List Run → List ℕ → List Field → Type 0
AreSpelled [] bytes values = (bytes ≡ []) × (values ≡ [])
AreSpelled (run ∷ runs) bytes values =
    (front rest : List ℕ) × (first more : List Field) × (bytes ≡ front ++ rest)
    × (values ≡ first ++ more) × (run_at run front ≡ Some (first, [])) × AreSpelled runs rest more

-- these bytes spell these values of fields
abbrev pub Spelled : List FieldKind → List ℕ → List Field → Type 0
Spelled kinds = AreSpelled (runs kinds)

-- a run with these values is read of bytes of its own, in front of the rest, whatever stands behind them
pub record HasOwnBytes (run : Run) (bytes : List ℕ) (values : List Field) (rest : List ℕ) : Type 0 where
  pub own : List ℕ
  pub whole : bytes ≡ own ++ rest
  pub read : (behind : List ℕ) → run_at run (own ++ behind) ≡ Some (values, behind)
