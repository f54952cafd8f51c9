-- How deep calls are nested. (This project's own.)
use Rattle.std.specs.Prelude.{ℕ}

-- how many calls may be open at once, the program itself not among them
abbrev pub most_calls : ℕ
most_calls = 256
