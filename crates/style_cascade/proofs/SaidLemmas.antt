-- What is said of an element, put into a table.
use Rattle.std.proofs.Common.{◌≡◌, ◌≢◌, ℕ, ◌+◌, ◌*◌, ◌<◌, ◌≤◌, List, length, Option, Some, None, ◌⊎◌, inl, inr, refl, sym, ◌∙◌, ap, subst, arith, length-set}
use Rattle.std.proofs.lemmas.Bool.{cases_eq}
use Rattle.std.specs.Prelude.{slice_set, IfSome, IsTrue}
use Rattle.std.specs.Option.{option_or}
use Rattle.style_reader.specs.Rules.{AreFitting}
use Rattle.style_reader.specs.Values.{fits}
use Rattle.style_reader.specs.declared.properties.Property.{Property}
use Rattle.style_reader.specs.declared.properties.StyleValue.{StyleValue}
use Rattle.style_reader.specs.declared.rules.Rule.{Rule}
use Rattle.style_cascade.specs.Candidates.{declared_value, property_place}
use Rattle.style_cascade.specs.devices.Kept.{said_of}
use Rattle.style_cascade.specs.devices.Rows.{said_in, value_at}
use Rattle.style_cascade.specs.devices.Tables.{cell_of, cell_place}
use Rattle.style_cascade.specs.declared.said.Said.{Said}
use Rattle.style_cascade.specs.declared.states.State.{State}
use Rattle.style_cascade.specs.declared.states.State.TheVariants as states
use Rattle.style_cascade.specs.declared.subjects.Styled.{Styled}
use Rattle.style_cascade.proofs.ChainLemmas.{below-or_at}
use Rattle.style_cascade.proofs.LookupLemmas.{declared-fits}
use Rattle.style_cascade.proofs.PlaceLemmas.{cell_of-others, cell_of-put, property_at, property_at-place, property_place-one}

-- ---- a state

-- what is said for a state stands in the table for the properties so far
pub record IsPut (said : Said) (node : ℕ) (state : State) (old cells : List (Option StyleValue)) (index : ℕ) : Type 0 where
  pub long : length cells ≡ length old
  pub here : (property : Property) → property_place property < index → cell_of cells node state property ≡ said_in said state property
  pub others : (other : ℕ) (at : State) (property : Property) → ((other ≡ node) × (at ≡ state) → ⊥) → cell_of cells other at property ≡ cell_of old other at property

pub put-start : (said : Said) (node : ℕ) (state : State) (old : List (Option StyleValue)) → IsPut said node state old old 0
put-start said node state old = record { long = refl; here = λ property h. absurd (omega (arith, h)); others = λ other at property ne. refl }

pub put-more : (said : Said) (node : ℕ) (state : State) (old cells new : List (Option StyleValue)) (index : ℕ) (property : Property) (value : Option StyleValue) → property ≡ property_at index → new ≡ slice_set cells (cell_place node state property) value → value ≡ said_in said state property → 51 * node + 51 ≤ length old → IsPut said node state old cells index → IsPut said node state old new (index + 1)
put-more said node state old cells new index property value is put given room so_far =
    record {
      long = ap length put ∙ length-set cells (cell_place node state property) value ∙ so_far.long;
      here = λ of h. by of h (cases_eq (property_place of) (property_place property));
      others = λ other at of ne. ap (λ (c : List (Option StyleValue)). cell_of c other at of) put ∙ cell_of-others cells node other state at property of value (λ same. ne (same.0, same.1)) ∙ so_far.others other at of ne;
    }
  where
    by : (of : Property) → property_place of < index + 1 → (property_place of ≡ property_place property) ⊎ (property_place of ≢ property_place property) → cell_of new node state of ≡ said_in said state of
    by of h (inl e) =
        subst (λ (p : Property). cell_of new node state p ≡ said_in said state p) (sym (property_place-one of property e))
        (ap (λ (c : List (Option StyleValue)). cell_of c node state property) put ∙ cell_of-put cells node state property value (omega (arith, room, so_far.long)) ∙ given)
    by of h (inr ne) =
        elim (below-or_at (property_place of) index h) [
          | inl lt ↦ ap (λ (c : List (Option StyleValue)). cell_of c node state of) put ∙ cell_of-others cells node node state state property of value (λ same. ne (ap property_place same.2)) ∙ so_far.here of lt
          | inr at ↦
              let same : of ≡ property = sym (property_at-place of) ∙ ap property_at at ∙ sym is in
              absurd (ne (ap property_place same))
        ]

-- ---- the three states

pub record IsPutFor (said : Said) (node : ℕ) (state : State) (old new : List (Option StyleValue)) : Type 0 where
  pub here : (property : Property) → cell_of new node state property ≡ said_in said state property
  pub others : (other : ℕ) (at : State) (property : Property) → ((other ≡ node) × (at ≡ state) → ⊥) → cell_of new other at property ≡ cell_of old other at property

pub put-each : (said : Said) (node : ℕ) (old one two new : List (Option StyleValue)) → IsPutFor said node states.Normal old one → IsPutFor said node states.Focus one two → IsPutFor said node states.Active two new → (state : State) (property : Property) → cell_of new node state property ≡ said_in said state property
put-each said node old one two new normal focus active states.Normal property = active.others node states.Normal property (λ same. cc same.1) ∙ focus.others node states.Normal property (λ same. cc same.1) ∙ normal.here property
put-each said node old one two new normal focus active states.Focus property = active.others node states.Focus property (λ same. cc same.1) ∙ focus.here property
put-each said node old one two new normal focus active states.Active property = active.here property

pub put-others : (said : Said) (node : ℕ) (old one two new : List (Option StyleValue)) → IsPutFor said node states.Normal old one → IsPutFor said node states.Focus one two → IsPutFor said node states.Active two new → (other : ℕ) (state : State) (property : Property) → other ≢ node → cell_of new other state property ≡ cell_of old other state property
put-others said node old one two new normal focus active other state property ne = active.others other state property (λ same. ne same.0) ∙ focus.others other state property (λ same. ne same.0) ∙ normal.others other state property (λ same. ne same.0)

-- ---- what is said

-- the best of the inline declarations and of the rules
pub record AreBest (rules : List Rule) (styled : Styled) (said : Said) : Type 0 where
  pub inline : (state : State) (property : Property) → value_at said.inline state property ≡ declared_value styled.inline styled.subject state property
  pub declared : (state : State) (property : Property) → value_at said.declared state property ≡ declared_value rules styled.subject state property

pub best-said : (rules : List Rule) (styled : Styled) (said : Said) → AreBest rules styled said → (state : State) (property : Property) → said_in said state property ≡ said_of rules state property styled
best-said rules styled said best state property =
    ap (λ (o : Option StyleValue). option_or o (value_at said.declared state property)) (best.inline state property)
    ∙ ap (option_or (declared_value styled.inline styled.subject state property)) (best.declared state property)

or-fits : (property : Property) (one other : Option StyleValue) → IfSome one (λ value. IsTrue (fits property value)) → IfSome other (λ value. IsTrue (fits property value)) → IfSome (option_or one other) (λ value. IsTrue (fits property value))
or-fits property None other h k = k
or-fits property (Some value) other h k = h

pub best-fits : (rules : List Rule) (styled : Styled) (said : Said) → AreBest rules styled said → AreFitting styled.inline → ((state : State) (property : Property) → IfSome (value_at said.declared state property) (λ value. IsTrue (fits property value))) → (state : State) (property : Property) → IfSome (said_in said state property) (λ value. IsTrue (fits property value))
best-fits rules styled said best fitting declared state property =
    or-fits property (value_at said.inline state property) (value_at said.declared state property)
    (subst (λ (o : Option StyleValue). IfSome o (λ value. IsTrue (fits property value))) (sym (best.inline state property)) (declared-fits styled.inline styled.subject state property fitting))
    (declared state property)
