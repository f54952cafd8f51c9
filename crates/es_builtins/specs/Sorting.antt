-- A device of the proofs: by which text a value is sorted.
use Rattle.std.specs.Prelude.{ℕ, if◌then◌else◌, List, [], ◌∷◌}
use Rattle.es_values.specs.declared.values.Value.{Value}
use Rattle.es_values.specs.Conversions.{text_of}
use Rattle.es_values.specs.Objects.{ObjectState}
use Rattle.es_builtins.specs.Arrays.{is_undefined}

-- the value's own text, behind a code that is 0, and of Undefined 1
abbrev pub sort_key : List ObjectState → Value → List ℕ
sort_key heap value = if is_undefined value then 1 ∷ [] else 0 ∷ text_of heap value
