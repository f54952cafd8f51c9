-- What is forgotten, and that the rest is right still.
use Rattle.std.proofs.Common.{◌≡◌, ◌≢◌, ℕ, zero, suc, ◌+◌, ◌<◌, ◌≤◌, List, [], ◌∷◌, length, Option, Some, None, ◌⊎◌, inl, inr, refl, sym, ◌∙◌, ap, subst, arith}
use Rattle.std.proofs.lemmas.Bool.{cases_eq, cases_lt, or_parts}
use Rattle.std.specs.Prelude.{Bool, true, false, ◌||◌, is_some, if◌then◌else◌, Contains, IsFalse}
use Rattle.std.specs.Option.{option_map_or, option_or}
use Rattle.dom_tree.specs.Items.{Item, parent_of}
use Rattle.dom_tree.specs.Walks.{IsEndOf, path_of, path_within}
use Rattle.style_reader.specs.Properties.{initial_of, is_inherited}
use Rattle.style_reader.specs.declared.properties.Property.{Property}
use Rattle.style_reader.specs.declared.properties.Property.TheVariants.{ColorIndex, FontSize, Visibility}
use Rattle.style_reader.specs.declared.properties.Property.TheVariants as properties
use Rattle.style_reader.specs.declared.properties.StyleValue.{StyleValue}
use Rattle.style_reader.specs.declared.rules.Rule.{Rule}
use Rattle.style_cascade.specs.Candidates.{property_place}
use Rattle.style_cascade.specs.Cascade.{Sources, own_value, said_value, write_of}
use Rattle.style_cascade.specs.Keeping.{IsRight, StylesState}
use Rattle.style_cascade.specs.devices.Kept.{ForgetsBelow, KeepsOthers, Unsets, element_around, value_around}
use Rattle.style_cascade.specs.devices.Tables.{Forgets, ForgetsIn, cell_of, has_value, writes_in}
use Rattle.style_cascade.specs.declared.states.State.{State}
use Rattle.style_cascade.specs.declared.states.State.TheVariants as states
use Rattle.style_cascade.proofs.PlaceLemmas.{property_place-one}

-- ---- a table

none-of : (o : Option StyleValue) → is_some o ≡ false → o ≡ None
none-of None e = refl
none-of (Some v) e = absurd (cc e)

pub none-by : (cells : List (Option StyleValue)) (node : ℕ) (property : Property) → has_value cells node property ≡ false → (state : State) → cell_of cells node state property ≡ None
unfolding has_value
none-by cells node property h state =
    let outer = or_parts (is_some (cell_of cells node states.Normal property) || is_some (cell_of cells node states.Focus property)) (is_some (cell_of cells node states.Active property)) h in
    let inner = or_parts (is_some (cell_of cells node states.Normal property)) (is_some (cell_of cells node states.Focus property)) outer.0 in
    by state inner.0 inner.1 outer.1
  where
    by : (state : State) → is_some (cell_of cells node states.Normal property) ≡ false → is_some (cell_of cells node states.Focus property) ≡ false → is_some (cell_of cells node states.Active property) ≡ false → cell_of cells node state property ≡ None
    by states.Normal n f a = none-of (cell_of cells node states.Normal property) n
    by states.Focus n f a = none-of (cell_of cells node states.Focus property) f
    by states.Active n f a = none-of (cell_of cells node states.Active property) a

pub forgets-states : (old one two new : List (Option StyleValue)) (property : Property) (first end : ℕ) → ForgetsIn old one states.Normal property first end → ForgetsIn one two states.Focus property first end → ForgetsIn two new states.Active property first end → Forgets old new property first end
forgets-states old one two new property first end normal focus active =
    record {
      long = active.long ∙ focus.long ∙ normal.long;
      inside = inside;
      others = λ node at of out. active.others node at of (λ same. out (same.1, same.2, same.3)) ∙ focus.others node at of (λ same. out (same.1, same.2, same.3)) ∙ normal.others node at of (λ same. out (same.1, same.2, same.3));
    }
  where
    inside : (node : ℕ) (state : State) → first ≤ node → node < end → cell_of new node state property ≡ None
    inside node states.Normal low high = active.others node states.Normal property (λ same. cc same.0) ∙ focus.others node states.Normal property (λ same. cc same.0) ∙ normal.inside node low high
    inside node states.Focus low high = active.others node states.Focus property (λ same. cc same.0) ∙ focus.inside node low high
    inside node states.Active low high = active.inside node low high

-- ---- a property

pub forgets-other : (old new : List (Option StyleValue)) (property : Property) (first end : ℕ) → Forgets old new property first end → KeepsOthers old new property
forgets-other old new property first end f = λ node state of ne. f.others node state of (λ at. ne at.0)

pub forgets-below : (items : List Item) (old new : List (Option StyleValue)) (node : ℕ) (property : Property) (first end : ℕ) → IsEndOf items node end → node < end → end ≤ length items → Forgets old new property first end → ForgetsBelow items old new node property first
forgets-below items old new node property first end is_end behind within f =
    inr (record { end = end; is_end = is_end; behind = behind; within = within; inside = f.inside; outside = λ other state out. f.others other state property (λ at. out (at.1, at.2)) })

-- another property is forgotten before, or behind
pub below-after : (items : List Item) (old mid new : List (Option StyleValue)) (node : ℕ) (property : Property) (first : ℕ) → ForgetsBelow items old mid node property first → ((other : ℕ) (state : State) → cell_of new other state property ≡ cell_of mid other state property) → ForgetsBelow items old new node property first
below-after items old mid new node property first (inl s) h = inl (record { none = s.none; same = λ other state. h other state ∙ s.same other state })
below-after items old mid new node property first (inr f) h = inr (record { end = f.end; is_end = f.is_end; behind = f.behind; within = f.within; inside = λ other state low high. h other state ∙ f.inside other state low high; outside = λ other state out. h other state ∙ f.outside other state out })

pub below-before : (items : List Item) (old mid new : List (Option StyleValue)) (node : ℕ) (property : Property) (first : ℕ) → ((other : ℕ) (state : State) → cell_of mid other state property ≡ cell_of old other state property) → ForgetsBelow items mid new node property first → ForgetsBelow items old new node property first
below-before items old mid new node property first h (inl s) = inl (record { none = λ state. sym (h node state) ∙ s.none state; same = λ other state. s.same other state ∙ h other state })
below-before items old mid new node property first h (inr f) = inr (record { end = f.end; is_end = f.is_end; behind = f.behind; within = f.within; inside = f.inside; outside = λ other state out. f.outside other state out ∙ h other state })

-- what is kept then was kept before
below-fewer : (items : List Item) (old new : List (Option StyleValue)) (node : ℕ) (property : Property) (first : ℕ) → ForgetsBelow items old new node property first → (other : ℕ) (state : State) (value : StyleValue) → cell_of new other state property ≡ Some value → cell_of old other state property ≡ Some value
below-fewer items old new node property first (inl s) other state value e = sym (s.same other state) ∙ e
below-fewer items old new node property first (inr f) other state value e =
    elim (cases_lt other first) [
      | inl low ↦ sym (f.outside other state (λ at. omega (arith, low, at.0))) ∙ e
      | inr above ↦ elim (cases_lt other f.end) [
        | inl high ↦ absurd (cc (sym (f.inside other state above high) ∙ e))
        | inr behind ↦ sym (f.outside other state (λ at. omega (arith, behind, at.1))) ∙ e
      ]
    ]

-- what isn't in the node stays kept
below-outside : (items : List Item) (old new : List (Option StyleValue)) (node : ℕ) (property : Property) (first : ℕ) → node ≤ first → ForgetsBelow items old new node property first → (other : ℕ) (state : State) → other < length items → (Contains (path_of items other) node → ⊥) → cell_of new other state property ≡ cell_of old other state property
below-outside items old new node property first le (inl s) other state within out = s.same other state
below-outside items old new node property first le (inr f) other state within out = f.outside other state (λ at. out ((f.is_end other within).1 (omega (arith, le, at.0), at.1)))

-- what a node has on its path its children have on theirs
path-up : (items : List Item) (other up node : ℕ) → path_of items other ≡ other ∷ option_map_or (path_of items) (parent_of items other) [] → parent_of items other ≡ Some up → Contains (path_of items up) node → Contains (path_of items other) node
path-up items other up node path parent c =
    subst (λ (l : List ℕ). Contains l node) (sym (path ∙ ap (λ (o : Option ℕ). other ∷ option_map_or (path_of items) o []) parent)) (suc c.0, omega (arith, c.1), c.2)

-- what is kept of a node hangs on what is kept above it: that is kept still
below-up : (items : List Item) (old new : List (Option StyleValue)) (node : ℕ) (property : Property) (first : ℕ) → first ≤ node + 1 → node ≤ first → ForgetsBelow items old new node property first → (other up : ℕ) (at before after : State) (value was : StyleValue) → path_of items other ≡ other ∷ option_map_or (path_of items) (parent_of items other) [] → parent_of items other ≡ Some up → up < other → other < length items → (up ≢ node → after ≡ before) → cell_of new other at property ≡ Some value → cell_of old up before property ≡ Some was → cell_of new up after property ≡ Some was
below-up items old new node property first high low (inl s) other up at before after value was path parent below within same e was_is =
    elim (cases_eq up node) [
      | inl here ↦ absurd (cc (sym (subst (λ (n : ℕ). cell_of old n before property ≡ None) (sym here) (s.none before)) ∙ was_is))
      | inr ne ↦ s.same up after ∙ ap (λ (k : State). cell_of old up k property) (same ne) ∙ was_is
    ]
below-up items old new node property first high low (inr f) other up at before after value was path parent below within same e was_is =
    elim (cases_lt up node) [
      | inl front ↦ outside (λ k. omega (arith, low, front, k.0)) (λ here. omega (arith, here, front))
      | inr above ↦ elim (cases_lt up f.end) [
        | inl inside ↦
            let on_path : Contains (path_of items up) node = (f.is_end up (omega (arith, below, within))).1 (above, inside) in
            let range = (f.is_end other within).0 (path-up items other up node path parent on_path) in
            absurd (cc (sym (f.inside other at (omega (arith, high, above, below)) range.1) ∙ e))
        | inr behind ↦ outside (λ k. omega (arith, behind, k.1)) (λ here. omega (arith, here, behind, f.behind))
      ]
    ]
  where
    outside : ((first ≤ up) × (up < f.end) → ⊥) → up ≢ node → cell_of new up after property ≡ Some was
    outside out ne = f.outside up after out ∙ ap (λ (k : State). cell_of old up k property) (same ne) ∙ was_is

-- ---- the styles

-- the inherited properties
abbrev pub OneOf : Property → Type 0
OneOf property = (property ≡ Visibility) ⊎ ((property ≡ ColorIndex) ⊎ (property ≡ FontSize))

inherited-one : (property : Property) → is_inherited property ≡ true → OneOf property
inherited-one Visibility e = inl refl
inherited-one ColorIndex e = inr (inl refl)
inherited-one FontSize e = inr (inr refl)
inherited-one properties.Left e = absurd (cc e)
inherited-one properties.Top e = absurd (cc e)
inherited-one properties.Width e = absurd (cc e)
inherited-one properties.Height e = absurd (cc e)
inherited-one properties.ZIndex e = absurd (cc e)
inherited-one properties.NavIndex e = absurd (cc e)
inherited-one properties.NavUp e = absurd (cc e)
inherited-one properties.NavDown e = absurd (cc e)
inherited-one properties.NavLeft e = absurd (cc e)
inherited-one properties.NavRight e = absurd (cc e)
inherited-one properties.UsedKeyList e = absurd (cc e)
inherited-one properties.BackgroundColorIndex e = absurd (cc e)
inherited-one properties.BorderWidth e = absurd (cc e)
inherited-one properties.BorderColorIndex e = absurd (cc e)

or-more : (own one other : Option StyleValue) (value : StyleValue) → ((x : StyleValue) → one ≡ Some x → other ≡ Some x) → option_or own one ≡ Some value → option_or own other ≡ Some value
or-more None one other value h e = h value e
or-more (Some o) one other value h e = e

-- what a node has from above is the same where that of the element above is
around-step : (items : List Item) (before after : ℕ → State) (old new : List (Option StyleValue)) (node : ℕ) (property : Property) → ((up : ℕ) (was : StyleValue) → is_inherited property ≡ true → parent_of items node ≡ Some up → cell_of old up (before up) property ≡ Some was → cell_of new up (after up) property ≡ Some was) → (x : StyleValue) → value_around items before old node property ≡ Some x → value_around items after new node property ≡ Some x
unfolding value_around element_around
around-step items before after old new node property h x = by (is_inherited property) refl (parent_of items node) refl
  where
    by : (t : Bool) → is_inherited property ≡ t → (o : Option ℕ) → parent_of items node ≡ o → option_map_or (λ up. cell_of old up (before up) property) (if t then o else None) (Some (initial_of property)) ≡ Some x → option_map_or (λ up. cell_of new up (after up) property) (if t then o else None) (Some (initial_of property)) ≡ Some x
    by false i o p e = e
    by true i None p e = e
    by true i (Some up) p e = h up x i p e

-- what changes of the styles and the states when values are forgotten
pub record Loses (items : List Item) (before after : ℕ → State) (old new : StylesState) : Type 0 where
  pub rules : new.sources.rules ≡ old.sources.rules
  pub said : new.kept.said ≡ old.kept.said
  pub long : length new.kept.values ≡ length old.kept.values
  pub room : length new.kept.written ≡ length old.kept.written
  pub writes : new.sources.writes ≡ writes_in new.kept.written
  pub fewer : (node : ℕ) (state : State) (property : Property) (value : StyleValue) → cell_of new.kept.values node state property ≡ Some value → cell_of old.kept.values node state property ≡ Some value
  pub own : (node : ℕ) (state : State) (property : Property) (value : StyleValue) → cell_of new.kept.values node state property ≡ Some value → own_value items new.sources node state property ≡ own_value items old.sources node state property
  pub above : (node up : ℕ) (state : State) (property : Property) (value was : StyleValue) → is_inherited property ≡ true → path_of items node ≡ node ∷ option_map_or (path_of items) (parent_of items node) [] → parent_of items node ≡ Some up → up < node → node < length items → cell_of new.kept.values node state property ≡ Some value → cell_of old.kept.values up (before up) property ≡ Some was → cell_of new.kept.values up (after up) property ≡ Some was

pub right-less : (items : List Item) (before after : ℕ → State) (old new : StylesState) → Loses items before after old new → IsRight items before old → IsRight items after new
unfolding IsRight
right-less items before after old new l right =
    record {
      room = l.room ∙ right.room;
      room_kept = l.long ∙ right.room_kept;
      writes = l.writes;
      said = λ node state property within. ap (λ (k : List (Option StyleValue)). cell_of k node state property) l.said ∙ right.said node state property within ∙ ap (λ (r : List Rule). said_value items r node state property) (sym l.rules);
      values = λ node state property value e.
          let was = right.values node state property value (l.fewer node state property value e) in
          let more = around-step items before after old.kept.values new.kept.values node property (λ up w i p k. l.above node up state property value w i (right.paths node) p (right.parents node up p).0 (right.parents node up p).1 e k) in
          ap (λ (o : Option StyleValue). option_or o (value_around items after new.kept.values node property)) (l.own node state property value e)
          ∙ or-more (own_value items old.sources node state property) _ _ value more was;
      paths = right.paths;
      parents = right.parents;
    }

-- ---- a change of state

-- the inherited properties are forgotten in the node, and nothing else
pub record Touches (items : List Item) (old new : List (Option StyleValue)) (node : ℕ) : Type 0 where
  pub long : length new ≡ length old
  pub visibility : ForgetsBelow items old new node Visibility (node + 1)
  pub colour : ForgetsBelow items old new node ColorIndex (node + 1)
  pub font : ForgetsBelow items old new node FontSize (node + 1)
  pub others : (other : ℕ) (state : State) (property : Property) → (OneOf property → ⊥) → cell_of new other state property ≡ cell_of old other state property

of-one : (items : List Item) (old new : List (Option StyleValue)) (node : ℕ) → Touches items old new node → (property : Property) → OneOf property → ForgetsBelow items old new node property (node + 1)
of-one items old new node t property (inl e) = subst (λ (p : Property). ForgetsBelow items old new node p (node + 1)) (sym e) t.visibility
of-one items old new node t property (inr (inl e)) = subst (λ (p : Property). ForgetsBelow items old new node p (node + 1)) (sym e) t.colour
of-one items old new node t property (inr (inr e)) = subst (λ (p : Property). ForgetsBelow items old new node p (node + 1)) (sym e) t.font

one-or-not : (property : Property) → OneOf property ⊎ (OneOf property → ⊥)
one-or-not property =
    elim (cases_eq (property_place property) (property_place Visibility)) [
      | inl e ↦ inl (inl (property_place-one property Visibility e))
      | inr v ↦ elim (cases_eq (property_place property) (property_place ColorIndex)) [
        | inl e ↦ inl (inr (inl (property_place-one property ColorIndex e)))
        | inr c ↦ elim (cases_eq (property_place property) (property_place FontSize)) [
          | inl e ↦ inl (inr (inr (property_place-one property FontSize e)))
          | inr f ↦ inr (none v c f)
        ]
      ]
    ]
  where
    none : property_place property ≢ property_place Visibility → property_place property ≢ property_place ColorIndex → property_place property ≢ property_place FontSize → OneOf property → ⊥
    none v c f (inl e) = v (ap property_place e)
    none v c f (inr (inl e)) = c (ap property_place e)
    none v c f (inr (inr e)) = f (ap property_place e)

pub touches : (items : List Item) (old one two new : List (Option StyleValue)) (node : ℕ) → (length one ≡ length old) → (length two ≡ length one) → (length new ≡ length two) → ForgetsBelow items old one node Visibility (node + 1) → ForgetsBelow items one two node ColorIndex (node + 1) → ForgetsBelow items two new node FontSize (node + 1) → KeepsOthers old one Visibility → KeepsOthers one two ColorIndex → KeepsOthers two new FontSize → Touches items old new node
touches items old one two new node l1 l2 l3 v c f ov oc of =
    record {
      long = l3 ∙ l2 ∙ l1;
      visibility = below-after items old one new node Visibility (node + 1) v (λ other state. of other state Visibility (λ e. cc e) ∙ oc other state Visibility (λ e. cc e));
      colour = below-before items old one new node ColorIndex (node + 1) (λ other state. ov other state ColorIndex (λ e. cc e)) (below-after items one two new node ColorIndex (node + 1) c (λ other state. of other state ColorIndex (λ e. cc e)));
      font = below-before items old two new node FontSize (node + 1) (λ other state. oc other state FontSize (λ e. cc e) ∙ ov other state FontSize (λ e. cc e)) f;
      others = λ other state property out. of other state property (λ e. out (inr (inr e))) ∙ oc other state property (λ e. out (inr (inl e))) ∙ ov other state property (λ e. out (inl e));
    }

pub touch-fewer : (items : List Item) (old new : List (Option StyleValue)) (node : ℕ) → Touches items old new node → (other : ℕ) (state : State) (property : Property) (value : StyleValue) → cell_of new other state property ≡ Some value → cell_of old other state property ≡ Some value
touch-fewer items old new node t other state property value e =
    elim (one-or-not property) [
      | inl one ↦ below-fewer items old new node property (node + 1) (of-one items old new node t property one) other state value e
      | inr out ↦ sym (t.others other state property out) ∙ e
    ]

pub touch-outside : (items : List Item) (old new : List (Option StyleValue)) (node : ℕ) → Touches items old new node → (other : ℕ) (state : State) (property : Property) → other < length items → (Contains (path_of items other) node → ⊥) → cell_of new other state property ≡ cell_of old other state property
touch-outside items old new node t other state property within out =
    elim (one-or-not property) [
      | inl one ↦ below-outside items old new node property (node + 1) (omega arith) (of-one items old new node t property one) other state within out
      | inr others ↦ t.others other state property others
    ]

below-front : (items : List Item) (old new : List (Option StyleValue)) (node : ℕ) (property : Property) → ForgetsBelow items old new node property (node + 1) → (state : State) → cell_of new node state property ≡ cell_of old node state property
below-front items old new node property (inl s) state = s.same node state
below-front items old new node property (inr f) state = f.outside node state (λ at. omega (arith, at.0))

pub touch-here : (items : List Item) (old new : List (Option StyleValue)) (node : ℕ) → Touches items old new node → (state : State) (property : Property) → cell_of new node state property ≡ cell_of old node state property
touch-here items old new node t state property =
    elim (one-or-not property) [
      | inl one ↦ below-front items old new node property (of-one items old new node t property one) state
      | inr out ↦ t.others node state property out
    ]

one-inherited : (property : Property) → OneOf property → is_inherited property ≡ true
one-inherited property (inl e) = ap is_inherited e
one-inherited property (inr (inl e)) = ap is_inherited e
one-inherited property (inr (inr e)) = ap is_inherited e

pub touch-others : (items : List Item) (old new : List (Option StyleValue)) (node : ℕ) → Touches items old new node → (other : ℕ) (state : State) (property : Property) → IsFalse (is_inherited property) → cell_of new other state property ≡ cell_of old other state property
touch-others items old new node t other state property h = t.others other state property (λ one. let is : is_inherited property ≡ true = one-inherited property one in cc (sym is ∙ h))

pub touch-above : (items : List Item) (before after : ℕ → State) (old new : List (Option StyleValue)) (node : ℕ) → Touches items old new node → ((other : ℕ) → other ≢ node → after other ≡ before other) → (other up : ℕ) (state : State) (property : Property) (value was : StyleValue) → is_inherited property ≡ true → path_of items other ≡ other ∷ option_map_or (path_of items) (parent_of items other) [] → parent_of items other ≡ Some up → up < other → other < length items → cell_of new other state property ≡ Some value → cell_of old up (before up) property ≡ Some was → cell_of new up (after up) property ≡ Some was
touch-above items before after old new node t same other up state property value was inherits path parent below within e was_is =
    below-up items old new node property (node + 1) (omega arith) (omega arith) (of-one items old new node t property (inherited-one property inherits)) other up state (before up) (after up) value was path parent below within (same up) e was_is

-- ---- a write

below-here : (items : List Item) (old new : List (Option StyleValue)) (node : ℕ) (property : Property) → ForgetsBelow items old new node property node → (state : State) → cell_of new node state property ≡ None
below-here items old new node property (inl s) state = s.same node state ∙ s.none state
below-here items old new node property (inr f) state = f.inside node state (omega arith) f.behind

pub unsets-below : (items : List Item) (old new : List (Option StyleValue)) (node : ℕ) (property : Property) → length new ≡ length old → ForgetsBelow items old new node property node → KeepsOthers old new property → Unsets items old new node property
unsets-below items old new node property long f others =
    record {
      long = long;
      others = others;
      fewer = below-fewer items old new node property node f;
      here = below-here items old new node property f;
      outside = below-outside items old new node property node (omega arith) f;
      above = λ inherits other up at before value was path parent below within e was_is. below-up items old new node property node (omega arith) (omega arith) f other up at before before value was path parent below within (λ ne. refl) e was_is;
    }

pub unsets-here : (items : List Item) (old new : List (Option StyleValue)) (node : ℕ) (property : Property) → Contains (path_of items node) node → is_inherited property ≡ false → Forgets old new property node (node + 1) → Unsets items old new node property
unsets-here items old new node property first alone f =
    record {
      long = f.long;
      others = forgets-other old new property node (node + 1) f;
      fewer = λ other state value e. elim (cases_eq other node) [
        | inl same ↦ absurd (cc (sym (f.inside other state (omega (arith, same)) (omega (arith, same))) ∙ e))
        | inr ne ↦ sym (f.others other state property (λ at. ne (omega (arith, at.1)))) ∙ e
      ];
      here = λ state. f.inside node state (omega arith) (omega arith);
      outside = λ other state within out. f.others other state property (λ at. out (subst (λ (n : ℕ). Contains (path_of items n) node) (omega (arith, at.1)) first));
      above = λ inherits. absurd (cc (sym inherits ∙ alone));
    }

pub path-first : (items : List Item) (node : ℕ) → Contains (path_of items node) node
path-first items node = first (node + 1) (omega arith)
  where
    first : (count : ℕ) → 0 < count → Contains (path_within count items node) node
    first zero h = absurd (omega (arith, h))
    first (suc count) h = (0, omega arith, refl)

same-or-not : (property of : Property) → (of ≡ property) ⊎ (of ≢ property)
same-or-not property of = elim (cases_eq (property_place of) (property_place property)) [ inl e ↦ inl (property_place-one of property e) | inr ne ↦ inr (λ e. ne (ap property_place e)) ]

pub unset-fewer : (items : List Item) (old new : List (Option StyleValue)) (node : ℕ) (property : Property) → Unsets items old new node property → (other : ℕ) (state : State) (of : Property) (value : StyleValue) → cell_of new other state of ≡ Some value → cell_of old other state of ≡ Some value
unset-fewer items old new node property u other state of value e =
    elim (same-or-not property of) [
      | inl same ↦ subst (λ (p : Property). cell_of old other state p ≡ Some value) (sym same) (u.fewer other state value (subst (λ (p : Property). cell_of new other state p ≡ Some value) same e))
      | inr ne ↦ sym (u.others other state of ne) ∙ e
    ]

pub unset-outside : (items : List Item) (old new : List (Option StyleValue)) (node : ℕ) (property : Property) → Unsets items old new node property → (other : ℕ) (state : State) (of : Property) → other < length items → (Contains (path_of items other) node → ⊥) → cell_of new other state of ≡ cell_of old other state of
unset-outside items old new node property u other state of within out =
    elim (same-or-not property of) [
      | inl same ↦ subst (λ (p : Property). cell_of new other state p ≡ cell_of old other state p) (sym same) (u.outside other state within out)
      | inr ne ↦ u.others other state of ne
    ]

pub unset-above : (items : List Item) (present : ℕ → State) (old new : List (Option StyleValue)) (node : ℕ) (property : Property) → Unsets items old new node property → (other up : ℕ) (state : State) (of : Property) (value was : StyleValue) → is_inherited of ≡ true → path_of items other ≡ other ∷ option_map_or (path_of items) (parent_of items other) [] → parent_of items other ≡ Some up → up < other → other < length items → cell_of new other state of ≡ Some value → cell_of old up (present up) of ≡ Some was → cell_of new up (present up) of ≡ Some was
unset-above items present old new node property u other up state of value was inherits path parent below within e was_is =
    elim (same-or-not property of) [
      | inl same ↦ subst (λ (p : Property). cell_of new up (present up) p ≡ Some was) (sym same) (u.above (ap is_inherited (sym same) ∙ inherits) other up state (present up) value was path parent below within (subst (λ (p : Property). cell_of new other state p ≡ Some value) same e) (subst (λ (p : Property). cell_of old up (present up) p ≡ Some was) same was_is))
      | inr ne ↦ u.others up (present up) of ne ∙ was_is
    ]

-- what is kept then isn't said of the property at the node
pub unset-own : (items : List Item) (before after : Sources) (old new : List (Option StyleValue)) (node : ℕ) (property : Property) → Unsets items old new node property → before.rules ≡ after.rules → ((other : ℕ) (at : State) (of : Property) → ((other ≡ node) × (of ≡ property) → ⊥) → write_of after other at of ≡ write_of before other at of) → (other : ℕ) (state : State) (of : Property) (value : StyleValue) → cell_of new other state of ≡ Some value → own_value items after other state of ≡ own_value items before other state of
unset-own items before after old new node property u rules writes other state of value e =
    ap (λ (o : Option StyleValue). option_or o (option_or (write_of after other states.Normal of) (said_value items after.rules other state of))) (writes other state of out)
    ∙ ap (λ (o : Option StyleValue). option_or (write_of before other state of) (option_or o (said_value items after.rules other state of))) (writes other states.Normal of out)
    ∙ ap (λ (r : List Rule). option_or (write_of before other state of) (option_or (write_of before other states.Normal of) (said_value items r other state of))) (sym rules)
  where
    out : (other ≡ node) × (of ≡ property) → ⊥
    out same = cc (sym (subst (λ (n : ℕ). cell_of new n state of ≡ None) (sym same.0) (subst (λ (p : Property). cell_of new node state p ≡ None) (sym same.1) (u.here state))) ∙ e)
