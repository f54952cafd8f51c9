-- A device of the proofs: what the attributes in the code stand for.
use Rattle.std.specs.Prelude.{ℕ, List, map}
use Rattle.std.specs.HashMap.{HashMap}
use Rattle.dom_tree.specs.Items.{Attribute}

-- an attribute, from the entry of the map that holds it
abbrev pub attribute_of_entry : List ℕ × List ℕ → Attribute
attribute_of_entry entry = record { name = entry.0; value = entry.1 }

abbrev pub attributes_in_map : {S : Type 0} → HashMap (List ℕ) (List ℕ) S → List Attribute
attributes_in_map attributes = map attribute_of_entry attributes.entries
