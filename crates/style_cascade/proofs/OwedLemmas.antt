-- What is owed, once more values are kept or some are forgotten.
use Rattle.std.proofs.Common.{◌≡◌, ℕ, zero, suc, ◌+◌, ◌-◌, ◌*◌, ◌<◌, ◌≤◌, List, [], ◌∷◌, length, get_or, Option, inl, inr, refl, ◌∙◌, ap, subst, arith}
use Rattle.std.proofs.lemmas.Bool.{cases_lt}
use Rattle.std.specs.Prelude.{Bool, true, false, is_some, min, if◌then◌else◌}
use Rattle.dom_tree.specs.Items.{Item, IsElement, tag_of}
use Rattle.dom_tree.specs.Walks.{KeepsPlaces}
use Rattle.style_reader.specs.Properties.{all_properties}
use Rattle.style_reader.specs.declared.properties.Property.{Property}
use Rattle.style_reader.specs.declared.properties.Property.TheVariants.{Left}
use Rattle.style_cascade.specs.Candidates.{property_place}
use Rattle.style_cascade.specs.Keeping.{StylesState, is_kept, owed, owed_at, owed_by, owed_of}
use Rattle.style_cascade.specs.declared.states.State.{State}
use Rattle.style_cascade.proofs.ChainLemmas.{below-or_at}
use Rattle.style_cascade.proofs.PlaceLemmas.{property_at-place, property_place-small}

-- ---- of an element

abbrev pub one_unless : Bool → ℕ
one_unless b = if b then 0 else 1

one-le : (one other : Bool) → (one ≡ true → other ≡ true) → one_unless other ≤ one_unless one
one-le true false h = absurd (cc (h refl))
one-le true true h = omega arith
one-le false true h = omega arith
one-le false false h = omega arith

one-few : (one : Bool) → one_unless one ≤ 1
one-few true = omega arith
one-few false = omega arith

of-le : (old new : StylesState) (node : ℕ) (before after : State) (properties : List Property) → ((p : Property) → is_kept old node before p ≡ true → is_kept new node after p ≡ true) → owed_of new node after properties ≤ owed_of old node before properties
of-le old new node before after [] h = omega arith
of-le old new node before after (p ∷ more) h = omega (arith, one-le (is_kept old node before p) (is_kept new node after p) (h p), of-le old new node before after more h)

of-few : (styles : StylesState) (node : ℕ) (state : State) (properties : List Property) → owed_of styles node state properties ≤ length properties
of-few styles node state [] = omega arith
of-few styles node state (p ∷ more) = omega (arith, one-few (is_kept styles node state p), of-few styles node state more)

of-less : (old new : StylesState) (node : ℕ) (before after : State) (properties : List Property) (k : ℕ) (d property : Property) → k < length properties → get_or properties k d ≡ property → ((p : Property) → is_kept old node before p ≡ true → is_kept new node after p ≡ true) → is_kept old node before property ≡ false → is_kept new node after property ≡ true → owed_of new node after properties + 1 ≤ owed_of old node before properties
of-less old new node before after [] k d property low at h was is = absurd (omega (arith, low))
of-less old new node before after (p ∷ more) zero d property low at h was is =
    let one : ◌≡◌ {A = ℕ} (if is_kept new node after p then 0 else 1) 0 = ap (λ (q : Property). one_unless (is_kept new node after q)) at ∙ ap one_unless is in
    let other : ◌≡◌ {A = ℕ} (if is_kept old node before p then 0 else 1) 1 = ap (λ (q : Property). one_unless (is_kept old node before q)) at ∙ ap one_unless was in
    omega (arith, one, other, of-le old new node before after more h)
of-less old new node before after (p ∷ more) (suc k) d property low at h was is =
    omega (arith, one-le (is_kept old node before p) (is_kept new node after p) (h p), of-less old new node before after more k d property (omega (arith, low)) at h was is)

-- ---- of a node

if-le : (t : Bool) (one other : ℕ) → one ≤ other → (if t then one else 0) ≤ (if t then other else 0)
if-le true one other h = h
if-le false one other h = omega arith

if-few : (t : Bool) (one bound : ℕ) → one ≤ bound → (if t then one else 0) ≤ bound
if-few true one bound h = h
if-few false one bound h = omega arith

if-less : (t : Bool) (one other : ℕ) → t ≡ true → one + 1 ≤ other → (if t then one else 0) + 1 ≤ (if t then other else 0)
if-less true one other e h = h
if-less false one other e h = absurd (cc e)

at-le : (items : List Item) (before after : ℕ → State) (old new : StylesState) (node : ℕ) → ((p : Property) → is_kept old node (before node) p ≡ true → is_kept new node (after node) p ≡ true) → owed_at items after new node ≤ owed_at items before old node
unfolding owed_at
at-le items before after old new node h = if-le (is_some (tag_of items node)) _ _ (of-le old new node (before node) (after node) all_properties h)

at-few : (items : List Item) (present : ℕ → State) (styles : StylesState) (node : ℕ) → owed_at items present styles node ≤ 17
unfolding owed_at
at-few items present styles node = if-few (is_some (tag_of items node)) _ 17 (of-few styles node (present node) all_properties)

at-less : (items : List Item) (present : ℕ → State) (old new : StylesState) (node : ℕ) (property : Property) → IsElement items node → ((p : Property) → is_kept old node (present node) p ≡ true → is_kept new node (present node) p ≡ true) → is_kept old node (present node) property ≡ false → is_kept new node (present node) property ≡ true → owed_at items present new node + 1 ≤ owed_at items present old node
unfolding owed_at
at-less items present old new node property element h was is = if-less (is_some (tag_of items node)) _ _ element (of-less old new node (present node) (present node) all_properties (property_place property) Left property (property_place-small property) (property_at-place property) h was is)

-- ---- of the first nodes

by-few : (items : List Item) (present : ℕ → State) (styles : StylesState) (count : ℕ) → owed_by items present styles count ≤ 17 * count
unfolding owed_by
by-few items present styles zero = omega arith
by-few items present styles (suc count) = omega (arith, at-few items present styles count, by-few items present styles count)

by-le : (items : List Item) (before after : ℕ → State) (old new : StylesState) (count : ℕ) → ((node : ℕ) → owed_at items after new node ≤ owed_at items before old node) → owed_by items after new count ≤ owed_by items before old count
unfolding owed_by
by-le items before after old new zero h = omega arith
by-le items before after old new (suc count) h = omega (arith, h count, by-le items before after old new count h)

by-less : (items : List Item) (present : ℕ → State) (old new : StylesState) (count node : ℕ) → node < count → ((other : ℕ) → owed_at items present new other ≤ owed_at items present old other) → owed_at items present new node + 1 ≤ owed_at items present old node → owed_by items present new count + 1 ≤ owed_by items present old count
unfolding owed_by
by-less items present old new zero node low h less = absurd (omega (arith, low))
by-less items present old new (suc count) node low h less =
    elim (below-or_at node count (omega (arith, low))) [
      | inl lt ↦ omega (arith, h count, by-less items present old new count node lt h less)
      | inr at ↦
          let here : owed_at items present new count + 1 ≤ owed_at items present old count = subst (λ (n : ℕ). owed_at items present new n + 1 ≤ owed_at items present old n) at less in
          omega (arith, here, by-le items present present old new count h)
    ]

-- more is owed of the nodes in a range at most
by-range : (items : List Item) (before after : ℕ → State) (old new : StylesState) (node end count : ℕ) → ((other : ℕ) → other < count → (node ≤ other → other < end → ⊥) → owed_at items after new other ≤ owed_at items before old other) → owed_by items after new count ≤ owed_by items before old count + 17 * (min count end - node)
unfolding owed_by
by-range items before after old new node end zero h = omega arith
by-range items before after old new node end (suc count) h =
    let rest = by-range items before after old new node end count (λ other low out. h other (omega (arith, low)) out) in
    elim (cases_lt count node) [
      | inl front ↦ omega (arith, front, rest, h count (omega arith) (λ low high. omega (arith, low, front)))
      | inr low ↦ elim (cases_lt count end) [
        | inl high ↦ omega (arith, low, high, rest, at-few items after new count)
        | inr behind ↦ omega (arith, low, behind, rest, h count (omega arith) (λ above high. omega (arith, high, behind)))
      ]
    ]

-- ---- of all

pub owed-few : (items : List Item) (present : ℕ → State) (styles : StylesState) → owed items present styles ≤ 17 * length items
unfolding owed
owed-few items present styles = by-few items present styles (length items)

-- one value more is kept
pub owed-less : (items : List Item) (present : ℕ → State) (old new : StylesState) (node : ℕ) (property : Property) → IsElement items node → node < length items → ((other : ℕ) (p : Property) → is_kept old other (present other) p ≡ true → is_kept new other (present other) p ≡ true) → is_kept old node (present node) property ≡ false → is_kept new node (present node) property ≡ true → owed items present new + 1 ≤ owed items present old
unfolding owed
owed-less items present old new node property element within h was is =
    by-less items present old new (length items) node within (λ other. at-le items present present old new other (h other)) (at-less items present old new node property element (h node) was is)

-- values of the nodes in a range are forgotten
pub owed-range : (items : List Item) (before after : ℕ → State) (old new : StylesState) (node end : ℕ) → node ≤ end → ((other : ℕ) (p : Property) → other < length items → (node ≤ other → other < end → ⊥) → is_kept old other (before other) p ≡ true → is_kept new other (after other) p ≡ true) → owed items after new ≤ owed items before old + 17 * (end - node)
unfolding owed
owed-range items before after old new node end low h =
    let all = by-range items before after old new node end (length items) (λ other within out. at-le items before after old new other (λ p. h other p within out)) in
    omega (arith, all, low)

-- ---- another tree of the same elements

at-same : (old new : List Item) → KeepsPlaces old new → (present : ℕ → State) (styles : StylesState) (node : ℕ) → owed_at new present styles node ≡ owed_at old present styles node
unfolding owed_at
at-same old new places present styles node = ap (λ (o : Option (List ℕ)). if is_some o then owed_of styles node (present node) all_properties else 0) (places.tags node)

by-same : (old new : List Item) → KeepsPlaces old new → (present : ℕ → State) (styles : StylesState) (count : ℕ) → owed_by new present styles count ≡ owed_by old present styles count
unfolding owed_by
by-same old new places present styles zero = refl
by-same old new places present styles (suc count) = omega (arith, at-same old new places present styles count, by-same old new places present styles count)

pub owed-same : (old new : List Item) → KeepsPlaces old new → (present : ℕ → State) (styles : StylesState) → owed new present styles ≡ owed old present styles
unfolding owed
owed-same old new places present styles = by-same old new places present styles (length new) ∙ ap (owed_by old present styles) places.count
