-- A device of the proofs: where the fields of a row stand. A field is counted from the row's first byte, or from the end of
-- the last text of varying size before it; from there on it has a fixed place.
use Rattle.std.specs.Prelude.{◌+◌, ◌/◌, ◌%◌, ◌^◌, ◌≡◌, ◌<◌, ◌≤◌, ℕ, zero, suc, List, [], ◌∷◌, ◌++◌, length}
use Rattle.std.specs.Int.{div_ceil}
use Rattle.persistent_arrays.specs.declared.kinds.FieldKind.{FieldKind}
use Rattle.persistent_arrays.specs.declared.kinds.FieldKind.TheVariants.{Bit, Unsigned, Signed, Fixed, Varying}
use Rattle.binary_table.specs.declared.columns.Column.{Column}
use Rattle.binary_table.specs.declared.layouts.Layout.{Layout}

-- the column of a bit behind so many bits that begin at an offset
abbrev pub bit_column : ℕ → ℕ → ℕ → Column
bit_column varying offset count = record { kind = Bit; varying = varying; offset = offset + count / 8; bit = count % 8 }

-- the column of another field
abbrev pub byte_column : FieldKind → ℕ → ℕ → Column
byte_column kind varying offset = record { kind = kind; varying = varying; offset = offset; bit = 0 }

-- the columns of bits that begin at an offset
abbrev pub open_bits : ℕ → ℕ → ℕ → List Column
open_bits varying offset zero = []
open_bits varying offset (suc count) = open_bits varying offset count ++ bit_column varying offset count ∷ []

-- The columns of fields behind so many texts of varying size, so many bytes behind the last of these, and so many bits.
abbrev pub columns_from : ℕ → ℕ → ℕ → List FieldKind → List Column
columns_from varying offset count [] = []
columns_from varying offset count (Bit ∷ kinds) =
    bit_column varying offset count ∷ columns_from varying offset (suc count) kinds
columns_from varying offset count (Unsigned size ∷ kinds) =
    byte_column (Unsigned size) varying (offset + div_ceil count 8) ∷ columns_from varying (offset + div_ceil count 8 + size) 0 kinds
columns_from varying offset count (Signed size ∷ kinds) =
    byte_column (Signed size) varying (offset + div_ceil count 8) ∷ columns_from varying (offset + div_ceil count 8 + size) 0 kinds
columns_from varying offset count (Fixed size ∷ kinds) =
    byte_column (Fixed size) varying (offset + div_ceil count 8) ∷ columns_from varying (offset + div_ceil count 8 + size) 0 kinds
columns_from varying offset count (Varying ∷ kinds) =
    byte_column Varying varying (offset + div_ceil count 8) ∷ columns_from (suc varying) 0 0 kinds

-- how many bytes stand before each text of varying size, behind the one before it
abbrev pub stretches_from : ℕ → ℕ → List FieldKind → List ℕ
stretches_from offset count [] = []
stretches_from offset count (Bit ∷ kinds) = stretches_from offset (suc count) kinds
stretches_from offset count (Unsigned size ∷ kinds) = stretches_from (offset + div_ceil count 8 + size) 0 kinds
stretches_from offset count (Signed size ∷ kinds) = stretches_from (offset + div_ceil count 8 + size) 0 kinds
stretches_from offset count (Fixed size ∷ kinds) = stretches_from (offset + div_ceil count 8 + size) 0 kinds
stretches_from offset count (Varying ∷ kinds) = (offset + div_ceil count 8) ∷ stretches_from 0 0 kinds

-- how many bytes stand behind the last of them
abbrev pub tail_from : ℕ → ℕ → List FieldKind → ℕ
tail_from offset count [] = offset + div_ceil count 8
tail_from offset count (Bit ∷ kinds) = tail_from offset (suc count) kinds
tail_from offset count (Unsigned size ∷ kinds) = tail_from (offset + div_ceil count 8 + size) 0 kinds
tail_from offset count (Signed size ∷ kinds) = tail_from (offset + div_ceil count 8 + size) 0 kinds
tail_from offset count (Fixed size ∷ kinds) = tail_from (offset + div_ceil count 8 + size) 0 kinds
tail_from offset count (Varying ∷ kinds) = tail_from 0 0 kinds

-- what a layout comes to with more fields
abbrev pub all_columns : Layout → List FieldKind → List Column
all_columns layout kinds = layout.columns.items ++ columns_from (length layout.stretches.items) layout.tail layout.bits kinds

abbrev pub all_stretches : Layout → List FieldKind → List ℕ
all_stretches layout kinds = layout.stretches.items ++ stretches_from layout.tail layout.bits kinds

abbrev pub last_tail : Layout → List FieldKind → ℕ
last_tail layout kinds = tail_from layout.tail layout.bits kinds

-- there is room for one more field
pub record HasRoom (layout : Layout) : Type 0 where
  pub bytes : layout.tail + layout.bits < 2 ^ 40
  pub texts : length layout.stretches.items < 2 ^ 32

-- one more field is laid
pub record Lays (kind : FieldKind) (old new : Layout) : Type 0 where
  pub columns : (kinds : List FieldKind) → all_columns new kinds ≡ all_columns old (kind ∷ kinds)
  pub stretches : (kinds : List FieldKind) → all_stretches new kinds ≡ all_stretches old (kind ∷ kinds)
  pub tail : (kinds : List FieldKind) → last_tail new kinds ≡ last_tail old (kind ∷ kinds)
  pub small : new.tail + new.bits ≤ old.tail + old.bits + 64
  pub few : length new.stretches.items ≤ length old.stretches.items + 1

-- the layout of fields
pub record IsLayoutOf (kinds : List FieldKind) (layout : Layout) : Type 0 where
  pub columns : layout.columns.items ≡ columns_from 0 0 0 kinds
  pub stretches : layout.stretches.items ≡ stretches_from 0 0 kinds
  pub tail : layout.tail ≡ tail_from 0 0 kinds
