-- A device of the code: leaves that are read at once, which are names and numbers. (This project's
-- own.)
use Rattle.std.specs.Prelude.{◌≡◌, Bool, true, false}
use Rattle.es_shapes.specs.declared.leaves.Leaf.{Leaf}
use Rattle.es_shapes.specs.declared.leaves.Leaf.TheVariants as leaf
use Rattle.es_shapes.specs.Syntax.{Expression}
use Rattle.es_shapes.specs.Syntax.Expression.{Name, Number}

abbrev pub is_name : Expression → Bool
is_name (Name name) = true
is_name _ = false

abbrev pub is_simple : Expression → Bool
is_simple (Name name) = true
is_simple (Number number) = true
is_simple _ = false

-- this leaf is the expression; Other is every expression that is no name and no number
abbrev pub IsLeafOf : Expression → Leaf → Type 0
IsLeafOf e (leaf.Name name) = e ≡ Name name.now
IsLeafOf e (leaf.Number number) = e ≡ Number number
IsLeafOf e leaf.Other = is_simple e ≡ false
