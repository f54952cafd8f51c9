-- Functions of programs by their numbers. (This project's own.)
use Rattle.std.specs.Prelude.{ℕ, ◌-◌, nat_le, if◌then◌else◌, List, Option, None, slice_get}
use Rattle.es_shapes.specs.Syntax.{Function as Declared}

-- the first number of a program's function; those below are built in or unused
unfoldable pub first_function : ℕ
first_function = 16

-- the function of a number among those that are declared
abbrev pub declared_function : List Declared → ℕ → Option Declared
declared_function functions number =
    if nat_le first_function number then slice_get functions (number - first_function) else None
