-- A device of the proofs: what the inside of a start tag in the code stands for.
use Rattle.std.specs.Prelude.{ℕ, Bool, List}
use Rattle.std.specs.Borrow.{Bor}
use Rattle.dom_tree.specs.Items.{Attribute}
use Rattle.bml_reader.specs.devices.Lexing.{Found, found, Inner}
use Rattle.bml_reader.specs.devices.AttributeViews.{attributes_in_map}
use Rattle.bml_reader.specs.declared.tags.Inside.{Inside}

abbrev pub inner_of : Inside → Inner
inner_of i = record { attributes = attributes_in_map i.attributes; is_empty = i.is_empty }

abbrev pub found_inner : Inside × Bor (List ℕ) → Found Inner
found_inner p = found (inner_of p.0) p.1.now

-- the end of a tag with these attributes
abbrev pub found_end : List Attribute → Bool × Bor (List ℕ) → Found Inner
found_end attributes p = found (record { attributes = attributes; is_empty = p.0 }) p.1.now
