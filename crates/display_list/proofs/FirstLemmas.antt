-- The first node of a tag.
use Rattle.std.proofs.Common.{◌≡◌, ℕ, zero, suc, ◌+◌, ◌<◌, Bool, true, false, cond, List, [], ◌∷◌, length, Option, Some, None, ◌⊎◌, inl, inr, refl, sym, ◌∙◌, ap, arith}
use Rattle.std.proofs.lemmas.Bool.{cases_eq}
use Rattle.std.specs.Prelude.{slice_get, option_and_then}
use Rattle.std.specs.Option.{option_map_or}
use Rattle.dom_tree.specs.Items.{Item, tag_in}
use Rattle.dom_tree.specs.Walks.{first, places_from}
use Rattle.display_list.specs.Bodies.{body_of, is_body, is_body_tag}
use Rattle.display_list.specs.Places.{has_tag}

-- the test of the element at a place
abbrev passes_at : {A : Type 0} → (A → Bool) → List A → ℕ → Bool
passes_at test xs place = option_map_or test (slice_get xs place) false

first-here : (b : Bool) (k : ℕ) (q : List ℕ) → b ≡ true → first (cond b (k ∷ q) q) ≡ Some k
first-here true k q e = refl
first-here false k q e = absurd (cc e)

first-behind : (b : Bool) (k : ℕ) (q : List ℕ) → b ≡ false → first (cond b (k ∷ q) q) ≡ first q
first-behind true k q e = absurd (cc e)
first-behind false k q e = refl

first-place : {A : Type 0} (test : A → Bool) (k : ℕ) (xs : List A) (place : ℕ) → place < length xs → ((j : ℕ) → j < place → passes_at test xs j ≡ false) → passes_at test xs place ≡ true → first (places_from test k xs) ≡ Some (k + place)
first-place test k [] place h before e = absurd (omega (arith, h))
first-place test k (x ∷ xs) zero h before e = let same : k + 0 ≡ k = omega arith in first-here (test x) k (places_from test (k + 1) xs) e ∙ ap Some (sym same)
first-place test k (x ∷ xs) (suc place) h before e =
    let same : k + 1 + place ≡ k + suc place = omega arith in
    first-behind (test x) k (places_from test (k + 1) xs) (before 0 (omega arith))
    ∙ (first-place test (k + 1) xs place (omega (arith, h)) (λ j low. before (suc j) (omega arith)) e ∙ ap Some same)

no-place : {A : Type 0} (test : A → Bool) (k : ℕ) (xs : List A) → ((j : ℕ) → j < length xs → passes_at test xs j ≡ false) → first (places_from test k xs) ≡ None
no-place test k [] before = refl
no-place test k (x ∷ xs) before = first-behind (test x) k (places_from test (k + 1) xs) (before 0 (omega arith)) ∙ no-place test (k + 1) xs (λ j low. before (suc j) (omega arith))

tag-at : (test : List ℕ → Bool) (o : Option Item) → option_map_or (λ (item : Item). option_map_or test (tag_in item.content) false) o false ≡ option_map_or test (option_and_then (λ (item : Item). tag_in item.content) o) false
tag-at test None = refl
tag-at test (Some item) = refl

has_tag-at : (items : List Item) (node : ℕ) → passes_at is_body items node ≡ has_tag is_body_tag items node
has_tag-at items node = tag-at is_body_tag (slice_get items node)

-- no node before this one is a `body`
pub record NoneBefore (items : List Item) (node : ℕ) : Type 0 where
  pub none : (k : ℕ) → k < node → has_tag is_body_tag items k ≡ false

pub body_of-found : (items : List Item) (node : ℕ) → node < length items → NoneBefore items node → has_tag is_body_tag items node ≡ true → Some node ≡ body_of items
unfolding body_of
body_of-found items node h before e =
    let same : 0 + node ≡ node = omega arith in
    sym (first-place is_body 0 items node h (λ j low. has_tag-at items j ∙ before.none j low) (has_tag-at items node ∙ e) ∙ ap Some same)

pub body_of-none : (items : List Item) → NoneBefore items (length items) → None ≡ body_of items
unfolding body_of
body_of-none items before = sym (no-place is_body 0 items (λ j low. has_tag-at items j ∙ before.none j low))

pub NoneBefore-start : (items : List Item) → NoneBefore items 0
NoneBefore-start items = record { none = λ k low. absurd (omega (arith, low)) }

pub NoneBefore-more : (items : List Item) (node : ℕ) → NoneBefore items node → has_tag is_body_tag items node ≡ false → NoneBefore items (node + 1)
NoneBefore-more items node before e = record { none = λ k low. by k (cases_eq k node) low }
  where
    by : (k : ℕ) → (k ≡ node) ⊎ (k ≡ node → ⊥) → k < node + 1 → has_tag is_body_tag items k ≡ false
    by k (inl same) low = ap (has_tag is_body_tag items) same ∙ e
    by k (inr other) low = before.none k (omega arith)
