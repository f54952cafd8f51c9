-- Attributes, from the entries of the map that holds them.
use Rattle.std.proofs.Common.{◌≡◌, ℕ, Bool, true, false, cond, List, [], ◌∷◌, ◌++◌, Option, Some, None, refl, sym, ◌∙◌, ap}
use Rattle.std.specs.Prelude.{map, option_map, find}
use Rattle.indexmap.specs.IndexMap.{insert_entry}
use Rattle.indexmap.proofs.CallerLemmas.{insert_entry-new}
use Rattle.std.specs.HashMap.{HashMap, get}
use Rattle.std.specs.Map.{lookup}
use Rattle.bml_bytes.specs.Words.{is_same}
use Rattle.dom_tree.specs.Items.{Attribute, value_in}
use Rattle.bml_reader.specs.devices.AttributeViews.{attribute_of_entry, attributes_in_map}

value_in-cond : (b : Bool) (v : List ℕ) (o : Option Attribute) (a : Attribute) (p : Option (List ℕ)) → option_map (λ x. x.value) o ≡ p → option_map (λ x. x.value) (cond b (Some a) o) ≡ cond b (Some a.value) p
value_in-cond true v o a p h = refl
value_in-cond false v o a p h = h

value_in-entries : (entries : List (List ℕ × List ℕ)) (name : List ℕ) → value_in (map attribute_of_entry entries) name ≡ lookup (is_same name) entries
value_in-entries [] name = refl
value_in-entries (e ∷ entries) name = value_in-cond (is_same name e.0) e.1 (find (λ a. is_same name a.name) (map attribute_of_entry entries)) (attribute_of_entry e) (lookup (is_same name) entries) (value_in-entries entries name)

pub value_in-map : {S : Type 0} (m : HashMap (List ℕ) (List ℕ) S) (name : List ℕ) → get is_same m name ≡ value_in (attributes_in_map m) name
value_in-map m name = sym (value_in-entries m.entries name)

map-last : (entries : List (List ℕ × List ℕ)) (e : List ℕ × List ℕ) → map attribute_of_entry (entries ++ e ∷ []) ≡ map attribute_of_entry entries ++ attribute_of_entry e ∷ []
map-last [] e = refl
map-last (x ∷ entries) e = ap (λ z. attribute_of_entry x ∷ z) (map-last entries e)

-- a new attribute goes last
pub attributes-last : {S : Type 0} (old new : HashMap (List ℕ) (List ℕ) S) (name value : List ℕ) → get is_same old name ≡ None → new.entries ≡ insert_entry is_same old.entries name value → attributes_in_map new ≡ attributes_in_map old ++ record { name = name; value = value } ∷ []
attributes-last old new name value n e = ap (map attribute_of_entry) (e ∙ insert_entry-new is_same old name value n) ∙ map-last old.entries (name, value)
