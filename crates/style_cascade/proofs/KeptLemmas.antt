-- What is kept of the elements of a tree.
use Rattle.std.proofs.Common.{◌≡◌, ◌≢◌, ℕ, zero, suc, ◌+◌, ◌*◌, ◌<◌, ◌≤◌, List, [], ◌∷◌, length, Option, Some, None, inl, inr, refl, sym, ◌∙◌, ap, subst, arith}
use Rattle.std.specs.Prelude.{option_map, option_and_then}
use Rattle.std.specs.Option.{option_or}
use Rattle.dom_tree.specs.Items.{Item, IsElement}
use Rattle.style_reader.specs.declared.properties.Property.{Property}
use Rattle.style_reader.specs.declared.properties.StyleValue.{StyleValue}
use Rattle.style_reader.specs.declared.rules.Rule.{Rule}
use Rattle.style_cascade.specs.Cascade.{own_value, said_to, said_value, write_of}
use Rattle.style_cascade.specs.Keeping.{IsRight, StylesState}
use Rattle.style_cascade.specs.devices.Kept.{kept_value, said_of, styled_by}
use Rattle.style_cascade.specs.Matching.{subject_of}
use Rattle.style_cascade.specs.Writes.{cell, written_value}
use Rattle.style_cascade.specs.devices.Tables.{cell_of}
use Rattle.style_cascade.proofs.WriteLemmas.{get-writes}
use Rattle.style_cascade.proofs.ChainLemmas.{below-or_at}
use Rattle.style_cascade.specs.declared.states.State.{State}
use Rattle.style_cascade.specs.declared.states.State.TheVariants as states
use Rattle.style_cascade.specs.declared.subjects.Subject.{Subject}

-- an element is in the tree
pub element-within : (items : List Item) (node : ℕ) → IsElement items node → node < length items
element-within [] node h = absurd (cc h)
element-within (item ∷ items) zero h = omega arith
element-within (item ∷ items) (suc node) h = omega (arith, element-within items node h)

-- what is kept is what is said of the element itself
pub kept-own : (items : List Item) (present : ℕ → State) (styles : StylesState) (node : ℕ) (state : State) (property : Property) → IsRight items present styles → node < length items → kept_value styles.kept node state property ≡ own_value items styles.sources node state property
unfolding IsRight
kept-own items present styles node state property right within =
    let written : (at : State) → cell_of styles.kept.written node at property ≡ write_of styles.sources node at property = λ at. sym (ap (written_value (cell node at property)) right.writes ∙ get-writes styles.kept.written node at property) in
    ap (λ (o : Option StyleValue). option_or o (option_or (cell_of styles.kept.written node states.Normal property) (cell_of styles.kept.said node state property))) (written state)
    ∙ (ap (λ (o : Option StyleValue). option_or (write_of styles.sources node state property) (option_or o (cell_of styles.kept.said node state property))) (written states.Normal)
    ∙ ap (λ (o : Option StyleValue). option_or (write_of styles.sources node state property) (option_or (write_of styles.sources node states.Normal property) o)) (right.said node state property within))

pub room-of : (items : List Item) (present : ℕ → State) (styles : StylesState) → IsRight items present styles → length styles.kept.written ≡ 51 * length items
unfolding IsRight
room-of items present styles right = right.room

-- ---- the nodes in turn

-- what is said of the nodes so far, and nothing of the others
pub record IsSaid (items : List Item) (rules : List Rule) (cells : List (Option StyleValue)) (count : ℕ) : Type 0 where
  pub said : (node : ℕ) (state : State) (property : Property) → node < count → cell_of cells node state property ≡ said_value items rules node state property
  pub empty : (node : ℕ) (state : State) (property : Property) → count ≤ node → cell_of cells node state property ≡ None

pub said-start : (items : List Item) (rules : List Rule) (cells : List (Option StyleValue)) → ((node : ℕ) (state : State) (property : Property) → cell_of cells node state property ≡ None) → IsSaid items rules cells 0
said-start items rules cells empty = record { said = λ node state property h. absurd (omega (arith, h)); empty = λ node state property h. empty node state property }

pub said-more : (items : List Item) (rules : List Rule) (old new : List (Option StyleValue)) (count : ℕ) → ((state : State) (property : Property) → cell_of new count state property ≡ said_value items rules count state property) → ((other : ℕ) (state : State) (property : Property) → other ≢ count → cell_of new other state property ≡ cell_of old other state property) → IsSaid items rules old count → IsSaid items rules new (count + 1)
said-more items rules old new count here others so_far =
    record {
      said = λ node state property h. elim (below-or_at node count h) [
        | inl lt ↦ others node state property (λ same. omega (arith, lt, same)) ∙ so_far.said node state property lt
        | inr at ↦ subst (λ (n : ℕ). cell_of new n state property ≡ said_value items rules n state property) (sym at) (here state property)
      ];
      empty = λ node state property h. others node state property (λ same. omega (arith, h, same)) ∙ so_far.empty node state property (omega (arith, h));
    }

-- what is said of an element, and nothing of a text
pub said-by : (items : List Item) (rules : List Rule) (node : ℕ) (state : State) (property : Property) → option_and_then (said_of rules state property) (option_map styled_by (subject_of items node)) ≡ said_value items rules node state property
unfolding said_value
said-by items rules node state property = by (subject_of items node)
  where
    by : (subject : Option Subject) → option_and_then (said_of rules state property) (option_map styled_by subject) ≡ option_and_then (said_to rules state property) subject
    by None = refl
    by (Some subject) = refl
