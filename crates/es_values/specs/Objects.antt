-- An object of a script (ECMA-262 second edition, 8.6 and 15.4; that properties stand in order of insertion,
-- and the greatest length, are this project's own).
use Rattle.std.specs.Prelude.{ℕ, ◌≤◌, List, Option}
use Rattle.std.specs.Option.{ForSome}
use Rattle.es_values.specs.declared.values.Value.{Value}

-- its length, where it is an array, and its properties: names with values
pub record ObjectState : Type 0 where
  pub array_length : Option ℕ
  pub properties : List (List ℕ × Value)

-- an array's length is at most the greatest number
abbrev pub IsWithinLength : Option ℕ → Type 0
IsWithinLength length = ForSome length (λ count. count ≤ 2147483647)
