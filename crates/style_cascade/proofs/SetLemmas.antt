-- What writes and changes of state leave of what is kept.
use Rattle.std.proofs.Common.{◌≡◌, ◌≢◌, ℕ, ◌+◌, ◌-◌, ◌*◌, ◌<◌, ◌≤◌, List, length, Some, sym, ◌∙◌, ap, arith}
use Rattle.std.specs.Prelude.{true, Contains, IsFalse}
use Rattle.dom_tree.specs.Items.{Item, IsElement}
use Rattle.dom_tree.specs.Walks.{IsEndOf, path_of}
use Rattle.style_reader.specs.Properties.{is_inherited}
use Rattle.style_reader.specs.declared.properties.Property.{Property}
use Rattle.style_reader.specs.declared.properties.StyleValue.{StyleValue}
use Rattle.style_cascade.specs.Cascade.{Sources, own_value, with_write, write_of}
use Rattle.style_cascade.specs.Keeping.{IsRight, StylesState, is_kept, owed}
use Rattle.style_cascade.specs.devices.Kept.{Unsets}
use Rattle.style_cascade.specs.devices.Tables.{cell_of, writes_in}
use Rattle.style_cascade.specs.declared.states.State.{State}
use Rattle.style_cascade.proofs.ForgetLemmas.{Touches, path-first, right-less, touch-above, touch-fewer, touch-here, touch-others, touch-outside, unset-above, unset-fewer, unset-outside, unset-own}
use Rattle.style_cascade.proofs.GetLemmas.{kept-cell, kept-same, kept-some}
use Rattle.style_cascade.proofs.KeptLemmas.{element-within}
use Rattle.style_cascade.proofs.OwedLemmas.{owed-range}
use Rattle.style_cascade.proofs.WriteLemmas.{write-others}

-- what is kept was kept before
pub kept-fewer : (old new : StylesState) → ((other : ℕ) (state : State) (property : Property) (value : StyleValue) → cell_of new.kept.values other state property ≡ Some value → cell_of old.kept.values other state property ≡ Some value) → (other : ℕ) (state : State) (property : Property) → is_kept new other state property ≡ true → is_kept old other state property ≡ true
kept-fewer old new fewer other state property k = let found = kept-cell new other state property k in kept-some old other state property found.0 (fewer other state property found.0 found.1)

-- only values in the node are forgotten
pub owed-more : (items : List Item) (before after : ℕ → State) (old new : StylesState) (node : ℕ) → IsElement items node → ((other : ℕ) → other ≢ node → after other ≡ before other) → ((other : ℕ) (state : State) (property : Property) → other < length items → (Contains (path_of items other) node → ⊥) → is_kept new other state property ≡ is_kept old other state property) → (end : ℕ) → IsEndOf items node end → owed items after new ≤ owed items before old + 17 * (end - node)
owed-more items before after old new node element same kept end is_end =
    let range = (is_end node (element-within items node element)).0 (path-first items node) in
    owed-range items before after old new node end (omega (arith, range.1)) (λ other property within out k.
    kept other (after other) property within (λ c. out ((is_end other within).0 c).0 ((is_end other within).0 c).1)
    ∙ ap (λ (s : State). is_kept old other s property) (same other (λ e. out (omega (arith, e)) (omega (arith, e, range.1))))
    ∙ k)

-- ---- a write

pub set-kept : (items : List Item) (old new : StylesState) (node : ℕ) (property : Property) → Unsets items old.kept.values new.kept.values node property → (other : ℕ) (state : State) (of : Property) → other < length items → (Contains (path_of items other) node → ⊥) → is_kept new other state of ≡ is_kept old other state of
set-kept items old new node property u other state of within out = kept-same new old other state of (unset-outside items old.kept.values new.kept.values node property u other state of within out)

pub set-others : (items : List Item) (old new : StylesState) (node : ℕ) (property : Property) → Unsets items old.kept.values new.kept.values node property → (other : ℕ) (state : State) (of : Property) → of ≢ property → is_kept new other state of ≡ is_kept old other state of
set-others items old new node property u other state of ne = kept-same new old other state of (u.others other state of ne)

pub set-only : (items : List Item) (old new : StylesState) (node : ℕ) (property : Property) → Unsets items old.kept.values new.kept.values node property → (other : ℕ) (state : State) (of : Property) → is_kept new other state of ≡ true → is_kept old other state of ≡ true
set-only items old new node property u = kept-fewer old new (unset-fewer items old.kept.values new.kept.values node property u)

pub set-right : (items : List Item) (present : ℕ → State) (old new : StylesState) (node : ℕ) (state : State) (property : Property) (value : StyleValue) → Unsets items old.kept.values new.kept.values node property → new.kept.said ≡ old.kept.said → length new.kept.written ≡ length old.kept.written → new.sources.writes ≡ writes_in new.kept.written → new.sources ≡ with_write node state property value old.sources → IsRight items present old → IsRight items present new
set-right items present old new node state property value u said room writes sources right =
    let rules : new.sources.rules ≡ old.sources.rules = ap (λ (s : Sources). s.rules) sources in
    right-less items present present old new (record {
      rules = rules;
      said = said;
      long = u.long;
      room = room;
      writes = writes;
      fewer = unset-fewer items old.kept.values new.kept.values node property u;
      own = unset-own items old.sources new.sources old.kept.values new.kept.values node property u (sym rules) (λ other at of out. ap (λ (s : Sources). write_of s other at of) sources ∙ write-others old.sources node other state at property of value (λ same. out (same.0, same.2)));
      above = λ other up at of w was inherits path parent below within e was_is. unset-above items present old.kept.values new.kept.values node property u other up at of w was inherits path parent below within e was_is;
    }) right

-- ---- a change of state

pub touch-kept : (items : List Item) (old new : StylesState) (node : ℕ) → Touches items old.kept.values new.kept.values node → (other : ℕ) (state : State) (of : Property) → other < length items → (Contains (path_of items other) node → ⊥) → is_kept new other state of ≡ is_kept old other state of
touch-kept items old new node t other state of within out = kept-same new old other state of (touch-outside items old.kept.values new.kept.values node t other state of within out)

pub touched-here : (items : List Item) (old new : StylesState) (node : ℕ) → Touches items old.kept.values new.kept.values node → (state : State) (of : Property) → is_kept new node state of ≡ is_kept old node state of
touched-here items old new node t state of = kept-same new old node state of (touch-here items old.kept.values new.kept.values node t state of)

pub touched-others : (items : List Item) (old new : StylesState) (node : ℕ) → Touches items old.kept.values new.kept.values node → (other : ℕ) (state : State) (of : Property) → IsFalse (is_inherited of) → is_kept new other state of ≡ is_kept old other state of
touched-others items old new node t other state of h = kept-same new old other state of (touch-others items old.kept.values new.kept.values node t other state of h)

pub touch-only : (items : List Item) (old new : StylesState) (node : ℕ) → Touches items old.kept.values new.kept.values node → (other : ℕ) (state : State) (of : Property) → is_kept new other state of ≡ true → is_kept old other state of ≡ true
touch-only items old new node t = kept-fewer old new (touch-fewer items old.kept.values new.kept.values node t)

writes-of : (items : List Item) (present : ℕ → State) (styles : StylesState) → IsRight items present styles → styles.sources.writes ≡ writes_in styles.kept.written
unfolding IsRight
writes-of items present styles right = right.writes

pub touch-right : (items : List Item) (before after : ℕ → State) (old new : StylesState) (node : ℕ) → Touches items old.kept.values new.kept.values node → new.kept.said ≡ old.kept.said → new.kept.written ≡ old.kept.written → new.sources ≡ old.sources → ((other : ℕ) → other ≢ node → after other ≡ before other) → IsRight items before old → IsRight items after new
touch-right items before after old new node t said written sources same right =
    right-less items before after old new (record {
      rules = ap (λ (s : Sources). s.rules) sources;
      said = said;
      long = t.long;
      room = ap length written;
      writes = ap (λ (s : Sources). s.writes) sources ∙ writes-of items before old right ∙ ap writes_in (sym written);
      fewer = touch-fewer items old.kept.values new.kept.values node t;
      own = λ other state property value e. ap (λ (s : Sources). own_value items s other state property) sources;
      above = λ other up state property value was inherits path parent below within e was_is. touch-above items before after old.kept.values new.kept.values node t same other up state property value was inherits path parent below within e was_is;
    }) right
