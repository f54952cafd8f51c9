-- A device of the proofs: what the writing calls append. (This project's own.)
use Rattle.std.specs.Prelude.{ℕ, List, ◌++◌}
use Rattle.section_writer.specs.Received.{IsStreamOf}

-- the sections were appended, and the counter went on
abbrev pub AppendsSections : List ℕ → ℕ → List ℕ → ℕ → ℕ → List (List ℕ) → Type 0
AppendsSections old counter new next pid more =
    (sections : List (List ℕ)) → IsStreamOf old pid counter sections → IsStreamOf new pid next (sections ++ more)
