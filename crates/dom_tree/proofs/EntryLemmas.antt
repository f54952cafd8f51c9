-- The attributes of an element, from the entries of the map that holds them.
use Rattle.std.proofs.Common.{◌≡◌, ℕ, Bool, true, false, cond, List, [], ◌∷◌, ◌++◌, Option, Some, None, refl, sym, ◌∙◌, ap, subst, ◌⊎◌, inl, inr}
use Rattle.std.specs.Prelude.{map, option_map, find}
use Rattle.indexmap.specs.IndexMap.{insert_entry}
use Rattle.std.specs.HashMap.{HashMap, get}
use Rattle.std.specs.Map.{lookup}
use Rattle.std.specs.Cmp.Lexicographic.{bytes_decides}
use Rattle.bml_bytes.specs.Words.{is_same}
use Rattle.dom_tree.specs.Items.{Attribute, value_in, with_value}
use Rattle.dom_tree.specs.Links.{attribute_of_entry, attributes_in_map}

value_in-cond : (b : Bool) (v : List ℕ) (o : Option Attribute) (a : Attribute) (p : Option (List ℕ)) → option_map (λ x. x.value) o ≡ p → option_map (λ x. x.value) (cond b (Some a) o) ≡ cond b (Some a.value) p
value_in-cond true v o a p h = refl
value_in-cond false v o a p h = h

pub value_in-entries : (entries : List (List ℕ × List ℕ)) (name : List ℕ) → value_in (map attribute_of_entry entries) name ≡ lookup (is_same name) entries
value_in-entries [] name = refl
value_in-entries (e ∷ entries) name = value_in-cond (is_same name e.0) e.1 (find (λ a. is_same name a.name) (map attribute_of_entry entries)) (attribute_of_entry e) (lookup (is_same name) entries) (value_in-entries entries name)

pub get-entries : {S : Type 0} (m : HashMap (List ℕ) (List ℕ) S) (name : List ℕ) → get is_same m name ≡ value_in (attributes_in_map m) name
get-entries m name = sym (value_in-entries m.entries name)

map-cond : (b : Bool) (x y : List (List ℕ × List ℕ)) → map attribute_of_entry (cond b x y) ≡ cond b (map attribute_of_entry x) (map attribute_of_entry y)
map-cond true x y = refl
map-cond false x y = refl

pub with_value-entries : (entries : List (List ℕ × List ℕ)) (name value : List ℕ) → map attribute_of_entry (insert_entry is_same entries name value) ≡ with_value (map attribute_of_entry entries) name value
with_value-entries [] name value = refl
with_value-entries (e ∷ entries) name value =
    map-cond (is_same name e.0) ((e.0, value) ∷ entries) (e ∷ insert_entry is_same entries name value)
    ∙ ap (λ w. cond (is_same name e.0) (record { name = e.0; value = value } ∷ map attribute_of_entry entries) (attribute_of_entry e ∷ w)) (with_value-entries entries name value)

pub with_value-map : {S : Type 0} (old new : HashMap (List ℕ) (List ℕ) S) (name value : List ℕ) → new.entries ≡ insert_entry is_same old.entries name value → attributes_in_map new ≡ with_value (attributes_in_map old) name value
with_value-map old new name value e = ap (map attribute_of_entry) e ∙ with_value-entries old.entries name value

-- Texts

pub is_same-true : (a b : List ℕ) → is_same a b ≡ true → a ≡ b
is_same-true a b e = (bytes_decides a b).0 e

pub is_same-refl : (a : List ℕ) → is_same a a ≡ true
is_same-refl a = (bytes_decides a a).1 refl

pub is_same-cases : (a b : List ℕ) → (a ≡ b) ⊎ (is_same a b ≡ false)
is_same-cases a b = by (is_same a b) refl
  where
    by : (t : Bool) → is_same a b ≡ t → (a ≡ b) ⊎ (is_same a b ≡ false)
    by true e = inl (is_same-true a b e)
    by false e = inr e

pub is_same-other : (a b : List ℕ) → is_same a b ≡ false → is_same b a ≡ false
is_same-other a b h = by (is_same b a) refl
  where
    by : (t : Bool) → is_same b a ≡ t → t ≡ false
    by true e = let e' : is_same a b ≡ true = subst (λ w. is_same w b ≡ true) (is_same-true b a e) (is_same-refl b) in let bad : true ≡ false = sym e' ∙ h in bad
    by false e = refl

value_in-cons : (a : Attribute) (xs ys : List Attribute) (name : List ℕ) → value_in xs name ≡ value_in ys name → value_in (a ∷ xs) name ≡ value_in (a ∷ ys) name
value_in-cons a xs ys name h = by (is_same name a.name)
  where
    by : (t : Bool) → option_map (λ x. x.value) (cond t (Some a) (find (λ x. is_same name x.name) xs)) ≡ option_map (λ x. x.value) (cond t (Some a) (find (λ x. is_same name x.name) ys))
    by true = refl
    by false = h

with_value-absent-by : (a : Attribute) (attributes : List Attribute) (name value : List ℕ) (t : Bool) → is_same name a.name ≡ t → value_in (a ∷ attributes) name ≡ None → (value_in attributes name ≡ None → with_value attributes name value ≡ attributes ++ record { name = name; value = value } ∷ []) → with_value (a ∷ attributes) name value ≡ (a ∷ attributes) ++ record { name = name; value = value } ∷ []
with_value-absent-by a attributes name value true e h more =
    let found : value_in (a ∷ attributes) name ≡ Some a.value = rw e refl in
    let bad : Some a.value ≡ None = sym found ∙ h in
    absurd (cc bad)
with_value-absent-by a attributes name value false e h more =
    let same : value_in (a ∷ attributes) name ≡ value_in attributes name = rw e refl in
    rw e (ap (λ w. a ∷ w) (more (sym same ∙ h)))

value_in-other-by : (a : Attribute) (attributes : List Attribute) (name value other : List ℕ) (t : Bool) → is_same name a.name ≡ t → is_same name other ≡ false → value_in (with_value attributes name value) other ≡ value_in attributes other → value_in (with_value (a ∷ attributes) name value) other ≡ value_in (a ∷ attributes) other
value_in-other-by a attributes name value other true e h more =
    let apart : is_same other a.name ≡ false = subst (λ w. is_same other w ≡ false) (is_same-true name a.name e) (is_same-other name other h) in
    rw (e, apart) refl
value_in-other-by a attributes name value other false e h more = rw e (value_in-cons a (with_value attributes name value) attributes other more)

value_in-given-by : (a : Attribute) (attributes : List Attribute) (name value : List ℕ) (t : Bool) → is_same name a.name ≡ t → value_in (with_value attributes name value) name ≡ Some value → value_in (with_value (a ∷ attributes) name value) name ≡ Some value
value_in-given-by a attributes name value true e more = rw (e, e) refl
value_in-given-by a attributes name value false e more = rw (e, e) more

-- An attribute more or another value

-- a new attribute goes last
pub with_value-absent : (attributes : List Attribute) (name value : List ℕ) → value_in attributes name ≡ None → with_value attributes name value ≡ attributes ++ record { name = name; value = value } ∷ []
with_value-absent [] name value h = refl
with_value-absent (a ∷ attributes) name value h = with_value-absent-by a attributes name value (is_same name a.name) refl h (with_value-absent attributes name value)

-- the value of another attribute stays
pub value_in-other : (attributes : List Attribute) (name value other : List ℕ) → is_same name other ≡ false → value_in (with_value attributes name value) other ≡ value_in attributes other
value_in-other [] name value other h = rw (is_same-other name other h) refl
value_in-other (a ∷ attributes) name value other h = value_in-other-by a attributes name value other (is_same name a.name) refl h (value_in-other attributes name value other h)

-- the value that was given
pub value_in-given : (attributes : List Attribute) (name value : List ℕ) → value_in (with_value attributes name value) name ≡ Some value
value_in-given [] name value = rw (is_same-refl name) refl
value_in-given (a ∷ attributes) name value = value_in-given-by a attributes name value (is_same name a.name) refl (value_in-given attributes name value)
