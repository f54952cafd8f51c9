-- Trees of one shape: the same parents and the same tags in the same order. Neighbours, paths and links are
-- functions of the shape.
use Rattle.std.proofs.Common.{◌≡◌, ℕ, zero, suc, ◌+◌, ◌-◌, ◌<◌, Bool, nat_eq, List, [], ◌∷◌, length, take, Option, Some, None, refl, sym, ◌∙◌, ap, subst, arith}
use Rattle.std.specs.Prelude.{slice_get, map, option_map, option_and_then, Contains, IsSome, IsSomeAnd}
use Rattle.std.specs.Option.{option_map_or, option_eq}
use Rattle.std.proofs.lemmas.List.{length-map, take-map}
use Rattle.std.proofs.lemmas.Option.{slice_get-map}
use Rattle.dom_tree.specs.Items.{Item, Content, tag_in, parent_of, tag_of, IsElement, changed_at, with_text, with_attribute}
use Rattle.dom_tree.specs.Items.Content.{Element, Text}
use Rattle.dom_tree.specs.Walks.{places_from, places, hangs_in, children_of, siblings_of, path_within, path_of, IsOpen, IsTree, KeepsPlaces}
use Rattle.dom_tree.specs.Links.{Links, links_at, AreLinked}
use Rattle.dom_tree.proofs.PlaceLemmas.{places_from-map, map-changed_at}

-- what a change of a text or of an attribute leaves as it is
abbrev pub shape : Item → Option ℕ × Option (List ℕ)
shape item = (item.parent, tag_in item.content)

-- the new items have the shape of the old ones
pub record SameShape (old new : List Item) : Type 0 where
  pub same : map shape new ≡ map shape old

parent_in : Option (Option ℕ × Option (List ℕ)) → Option ℕ
parent_in o = option_and_then (λ s. s.0) o

parent_in-shape : (o : Option Item) → option_and_then (λ item. item.parent) o ≡ parent_in (option_map shape o)
unfolding parent_in
parent_in-shape None = refl
parent_in-shape (Some item) = refl

tag_of_shape : Option (Option ℕ × Option (List ℕ)) → Option (List ℕ)
tag_of_shape o = option_and_then (λ s. s.1) o

tag_of_shape-shape : (o : Option Item) → option_and_then (λ item. tag_in item.content) o ≡ tag_of_shape (option_map shape o)
unfolding tag_of_shape
tag_of_shape-shape None = refl
tag_of_shape-shape (Some item) = refl

read-same : (old new : List Item) → SameShape old new → (n : ℕ) → option_map shape (slice_get new n) ≡ option_map shape (slice_get old n)
read-same old new h n = sym (slice_get-map shape new n) ∙ ap (λ s. slice_get s n) h.same ∙ slice_get-map shape old n

pub parent_of-same : (old new : List Item) → SameShape old new → (n : ℕ) → parent_of new n ≡ parent_of old n
parent_of-same old new h n = parent_in-shape (slice_get new n) ∙ ap parent_in (read-same old new h n) ∙ sym (parent_in-shape (slice_get old n))

pub tag_of-same : (old new : List Item) → SameShape old new → (n : ℕ) → tag_of new n ≡ tag_of old n
tag_of-same old new h n = tag_of_shape-shape (slice_get new n) ∙ ap tag_of_shape (read-same old new h n) ∙ sym (tag_of_shape-shape (slice_get old n))

pub length-same : (old new : List Item) → SameShape old new → length new ≡ length old
length-same old new h = sym (length-map new shape) ∙ ap length h.same ∙ length-map old shape

take-same : (old new : List Item) → SameShape old new → (n : ℕ) → SameShape (take n old) (take n new)
take-same old new h n = record { same = sym (take-map shape n new) ∙ ap (take n) h.same ∙ take-map shape n old }

places-same : (old new : List Item) → SameShape old new → (up : Option ℕ) → places (hangs_in up) new ≡ places (hangs_in up) old
places-same old new h up =
    let t : Option ℕ × Option (List ℕ) → Bool = λ s. option_eq nat_eq s.0 up in
    sym (places_from-map t shape 0 new) ∙ ap (places_from t 0) h.same ∙ places_from-map t shape 0 old

-- equal children and siblings make equal links
pub links_at-from : (a b : List Item) (n : ℕ) → children_of a n ≡ children_of b n → siblings_of a n ≡ siblings_of b n → links_at a n ≡ links_at b n
links_at-from a b n c s = rw (c, s) refl

pub links_at-same : (old new : List Item) → SameShape old new → (n : ℕ) → links_at new n ≡ links_at old n
links_at-same old new h n =
    let children : children_of new n ≡ children_of old n = places-same old new h (Some n) in
    let siblings : siblings_of new n ≡ siblings_of old n = ap (λ up. places (hangs_in up) new) (parent_of-same old new h n) ∙ places-same old new h (parent_of old n) in
    links_at-from new old n children siblings

path_within-up : (count : ℕ) (a b : List Item) → ((n : ℕ) → path_within count a n ≡ path_within count b n) → (o : Option ℕ) → option_map_or (path_within count a) o [] ≡ option_map_or (path_within count b) o []
path_within-up count a b h None = refl
path_within-up count a b h (Some n) = h n

pub path_within-same : (count : ℕ) (a b : List Item) → ((n : ℕ) → parent_of a n ≡ parent_of b n) → (n : ℕ) → path_within count a n ≡ path_within count b n
path_within-same zero a b h n = refl
path_within-same (suc count) a b h n = rw (h n) (ap (λ w. n ∷ w) (path_within-up count a b (path_within-same count a b h) (parent_of b n)))

pub path_of-same : (old new : List Item) → SameShape old new → (n : ℕ) → path_of new n ≡ path_of old n
path_of-same old new h n = path_within-same (n + 1) new old (parent_of-same old new h) n

pub IsOpen-same : (old new : List Item) → SameShape old new → (n : ℕ) → IsOpen old n → IsOpen new n
IsOpen-same old new h n open_old =
    let e : path_of old (length old - 1) ≡ path_of new (length new - 1) = sym (ap (λ k. path_of new (k - 1)) (length-same old new h) ∙ path_of-same old new h (length old - 1)) in
    subst (λ path. Contains path n) e open_old

pub AreLinked-same : (old new : List Item) (links : List Links) → SameShape old new → AreLinked old links → AreLinked new links
AreLinked-same old new links h linked = record { each = λ n within. linked.each n (omega (arith, within, length-same old new h)) ∙ ap Some (sym (links_at-same old new h n)) }

pub IsSomeAnd-map : (o : Option ℕ) (P Q : ℕ → Type 0) → ((n : ℕ) → P n → Q n) → IsSomeAnd o P → IsSomeAnd o Q
IsSomeAnd-map None P Q f h = absurd h
IsSomeAnd-map (Some n) P Q f h = f n h

IsElement-same : (old new : List Item) → SameShape old new → (n : ℕ) → IsElement old n → IsElement new n
IsElement-same old new h n e = subst IsSome (sym (tag_of-same old new h n)) e

pub IsTree-same : (old new : List Item) → SameShape old new → IsTree old → IsTree new
IsTree-same old new h tree = record {
  root = (IsElement-same old new h 0 tree.root.0, parent_of-same old new h 0 ∙ tree.root.1);
  others = λ n low high. subst (λ o. IsSomeAnd o (λ up. (up < n) × IsElement new up × IsOpen (take n new) up)) (sym (parent_of-same old new h n))
      (IsSomeAnd-map (parent_of old n) (λ up. (up < n) × IsElement old up × IsOpen (take n old) up) (λ up. (up < n) × IsElement new up × IsOpen (take n new) up)
      (λ up f. (f.0, IsElement-same old new h up f.1, IsOpen-same (take n old) (take n new) (take-same old new h n) up f.2))
      (tree.others n low (omega (arith, high, length-same old new h))));
  count = omega (arith, length-same old new h, tree.count);
}

pub KeepsPlaces-same : (old new : List Item) → SameShape old new → KeepsPlaces old new
KeepsPlaces-same old new h = record { count = length-same old new h; tags = tag_of-same old new h; parents = parent_of-same old new h; children = λ n. places-same old new h (Some n); paths = path_of-same old new h; open_still = IsOpen-same old new h }

-- The changes keep the shape

with_text-shape : (text : List ℕ) (parent : Option ℕ) (content : Content) → shape (with_text text (record { parent = parent; content = content })) ≡ (parent, tag_in content)
with_text-shape text parent (Element tag attributes) = refl
with_text-shape text parent (Text _) = refl

with_attribute-shape : (name value : List ℕ) (parent : Option ℕ) (content : Content) → shape (with_attribute name value (record { parent = parent; content = content })) ≡ (parent, tag_in content)
with_attribute-shape name value parent (Element tag attributes) = refl
with_attribute-shape name value parent (Text _) = refl

pub with_text-same : (text : List ℕ) (n : ℕ) (items : List Item) → SameShape items (changed_at (with_text text) n items)
with_text-same text n items = record { same = map-changed_at shape (with_text text) n items (λ item. with_text-shape text item.parent item.content) }

pub with_attribute-same : (name value : List ℕ) (n : ℕ) (items : List Item) → SameShape items (changed_at (with_attribute name value) n items)
with_attribute-same name value n items = record { same = map-changed_at shape (with_attribute name value) n items (λ item. with_attribute-shape name value item.parent item.content) }
