-- What the words of the command line ask of the program itself, of this project's own.
use Rattle.std.specs.Prelude.{ℕ, List, [], ◌∷◌, codes, nat_eq, if◌then◌else◌}
use Rattle.std.specs.Cmp.Lexicographic.{pointwise}
use Rattle.bml_replay.specs.declared.command_line.Asked.{Asked}
use Rattle.bml_replay.specs.declared.command_line.Asked.TheVariants.{Help, Version, Command}

-- the one word `--help` asks for the help, the one word `--version` for the version, and all else to run a command
abbrev pub asked_by : List (List ℕ) → Asked
asked_by (only ∷ []) = if pointwise nat_eq only (codes "--help") then Help else if pointwise nat_eq only (codes "--version") then Version else Command
asked_by _ = Command
