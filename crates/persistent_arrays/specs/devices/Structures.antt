-- A device of the proofs: what a structure keeps.
use Rattle.std.specs.Prelude.{◌<◌, ◌^◌, List, length}
use Rattle.persistent_arrays.specs.declared.kinds.FieldKind.{FieldKind}
use Rattle.persistent_arrays.specs.Structures.{IsStructure}

-- the fields are those of a structure, and 32 bits have room for their number
pub record IsCounted (kinds : List FieldKind) : Type 0 where
  pub structure : IsStructure kinds
  pub few : length kinds < 2 ^ 32
