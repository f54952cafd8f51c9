-- A device of the proofs: what the values of the code that reads references stand for.
use Rattle.std.specs.Prelude.{ℕ, List}
use Rattle.std.specs.Borrow.{Bor}
use Rattle.bml_reader.specs.References.{Reference}

abbrev pub found_reference : ℕ × Bor (List ℕ) → Reference
found_reference p = record { character = p.0; rest = p.1.now }
