-- The numbers of statements in a row, and none where nothing is told. (A device of the proofs.)
use Rattle.std.specs.Prelude.{ℕ, List, [], slice_get}
use Rattle.std.specs.Option.{option_map_or}
use Rattle.es_reader.specs.Programs.{ToldProgram}

-- of a program
abbrev pub top_of : List ToldProgram → ℕ → List ℕ
top_of programs program = option_map_or (λ told. told.top) (slice_get programs program) []

-- of a function
abbrev pub body_of : List ToldProgram → ℕ → ℕ → List ℕ
body_of programs program function =
    option_map_or
    (λ told. option_map_or (λ found. found.body) (slice_get told.functions function) [])
    (slice_get programs program) []
