-- A device of the proofs: what the places in the code stand for.
use Rattle.std.specs.Prelude.{ℕ, List}
use Rattle.multipart_entities.specs.declared.parts.Part.{Part}

-- a part, from the entry of the map that holds its place
abbrev pub part_of_entry : List ℕ × (ℕ × ℕ) → Part
part_of_entry entry = record { name = entry.0; start = entry.1.0; end = entry.1.1 }
