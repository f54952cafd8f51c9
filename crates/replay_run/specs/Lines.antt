-- The last line of a run, with the line feed that ends it. This project's own.
use Rattle.std.specs.Prelude.{ℕ, List, ◌++◌, codes}
use Rattle.bml_bytes.specs.Numerals.{decimal_digits}

-- how many packets were taken
abbrev pub end_line : ℕ → List ℕ
end_line packets = codes "end " ++ decimal_digits packets ++ codes "\n"
