-- The chain of a value, what is kept of it, and one value more that is kept.
use Rattle.std.proofs.Common.{◌≡◌, ℕ, zero, suc, ◌+◌, ◌-◌, ◌*◌, ◌^◌, ◌<◌, ◌≤◌, List, [], ◌∷◌, length, Option, Some, None, ◌⊎◌, inl, inr, refl, sym, ◌∙◌, ap, subst, arith, length-set}
use Rattle.std.proofs.lemmas.Bool.{cases_eq}
use Rattle.std.specs.Prelude.{Bool, true, false, is_some, map, min, slice_set, unwrap_or, if◌then◌else◌, Contains, IsTrue}
use Rattle.std.specs.Option.{option_map_or, option_or}
use Rattle.dom_tree.specs.Items.{Item, IsElement, parent_of}
use Rattle.dom_tree.specs.Walks.{path_of}
use Rattle.style_reader.specs.Properties.{initial_of, is_inherited}
use Rattle.style_reader.specs.Values.{fits}
use Rattle.style_reader.specs.declared.properties.Property.{Property}
use Rattle.style_reader.specs.declared.properties.StyleValue.{StyleValue}
use Rattle.style_cascade.specs.Cascade.{Place, Sources, chain_of, own_value, place, places_above, style_value, up_to_said}
use Rattle.style_cascade.specs.Keeping.{IsRight, StylesState, is_kept, owed, unkept, unkept_among}
use Rattle.style_cascade.specs.devices.Getting.{Gets, with_kept}
use Rattle.style_cascade.specs.devices.Kept.{IsKept, element_around, value_around}
use Rattle.style_cascade.specs.devices.Tables.{cell_of, cell_place}
use Rattle.style_cascade.specs.declared.states.State.{State}
use Rattle.style_cascade.proofs.CascadeLaws.{value-above, value-others, value-own, value-root}
use Rattle.style_cascade.proofs.KeptLemmas.{element-within}
use Rattle.style_cascade.proofs.OwedLemmas.{one_unless, owed-less}
use Rattle.style_cascade.proofs.PlaceLemmas.{cell_of-others, cell_of-put, cell_place-one}

-- ---- lists

contains-first : (x : Place) (xs : List Place) → Contains (x ∷ xs) x
contains-first x xs = (0, omega arith, refl)

contains-more : (x y : Place) (xs : List Place) → Contains xs y → Contains (x ∷ xs) y
contains-more x y xs c = (suc c.0, omega (arith, c.1), c.2)

contains-cases : (x y : Place) (xs : List Place) → Contains (x ∷ xs) y → (x ≡ y) ⊎ Contains xs y
contains-cases x y xs (zero, h, e) = inl e
contains-cases x y xs (suc k, h, e) = inr (k, omega (arith, h), e)

contains-none : (y : Place) → Contains [] y → ⊥
contains-none y (k, h, e) = omega (arith, h)

some-one : (one other : StyleValue) → Some one ≡ Some other → one ≡ other
some-one one other e = ap (λ (o : Option StyleValue). unwrap_or o one) e

-- ---- chains

abbrev above_if : List Item → (ℕ → State) → ℕ → Bool → List Place
above_if items present node t = if t then places_above items present node else []

abbrev said_above : List Item → Sources → (ℕ → State) → ℕ → Property → List Place
said_above items sources present node property =
    up_to_said items sources property (above_if items present node (is_inherited property))

chain-own : (items : List Item) (sources : Sources) (present : ℕ → State) (node : ℕ) (state : State) (property : Property) (value : StyleValue) → own_value items sources node state property ≡ Some value → chain_of items sources present node state property ≡ place node state ∷ []
unfolding chain_of
chain-own items sources present node state property value e = ap (λ (o : Option StyleValue). place node state ∷ (if is_some o then [] else said_above items sources present node property)) e

chain-unsaid : (items : List Item) (sources : Sources) (present : ℕ → State) (node : ℕ) (state : State) (property : Property) → own_value items sources node state property ≡ None → chain_of items sources present node state property ≡ place node state ∷ said_above items sources present node property
unfolding chain_of
chain-unsaid items sources present node state property e = ap (λ (o : Option StyleValue). place node state ∷ (if is_some o then [] else said_above items sources present node property)) e

nothing-above : (items : List Item) (sources : Sources) (present : ℕ → State) (node : ℕ) (property : Property) → element_around items node property ≡ None → said_above items sources present node property ≡ []
unfolding element_around
nothing-above items sources present node property = by (is_inherited property)
  where
    by : (t : Bool) → (if t then parent_of items node else None) ≡ None → up_to_said items sources property (above_if items present node t) ≡ []
    by false e = refl
    by true e = ap (λ (o : Option ℕ). up_to_said items sources property (map (λ at. place at (present at)) (option_map_or (path_of items) o []))) e

chain-above : (items : List Item) (sources : Sources) (present : ℕ → State) (node up : ℕ) (property : Property) → element_around items node property ≡ Some up → path_of items up ≡ up ∷ option_map_or (path_of items) (parent_of items up) [] → said_above items sources present node property ≡ chain_of items sources present up (present up) property
unfolding element_around chain_of
chain-above items sources present node up property around path = by (is_inherited property) refl around
  where
    by : (t : Bool) → is_inherited property ≡ t → (if t then parent_of items node else None) ≡ Some up → up_to_said items sources property (above_if items present node t) ≡ up_to_said items sources property (place up (present up) ∷ above_if items present up (is_inherited property))
    by false i e = absurd (cc e)
    by true i e =
        ap (λ (o : Option ℕ). up_to_said items sources property (map (λ at. place at (present at)) (option_map_or (path_of items) o []))) e
        ∙ ap (λ (l : List ℕ). up_to_said items sources property (map (λ at. place at (present at)) l)) path
        ∙ ap (λ (t : Bool). up_to_said items sources property (place up (present up) ∷ above_if items present up t)) (sym i)

-- ---- values

value-initial : (items : List Item) (sources : Sources) (present : ℕ → State) (node : ℕ) (state : State) (property : Property) → own_value items sources node state property ≡ None → element_around items node property ≡ None → style_value items sources present node state property ≡ initial_of property
unfolding element_around
value-initial items sources present node state property own around = by (is_inherited property) refl around
  where
    by : (t : Bool) → is_inherited property ≡ t → (if t then parent_of items node else None) ≡ None → style_value items sources present node state property ≡ initial_of property
    by false i e = value-others items sources present node state property own i
    by true i e = value-root items sources present node state property own e

value-up : (items : List Item) (sources : Sources) (present : ℕ → State) (node up : ℕ) (state : State) (property : Property) → path_of items up ≡ up ∷ option_map_or (path_of items) (parent_of items up) [] → own_value items sources node state property ≡ None → element_around items node property ≡ Some up → style_value items sources present node state property ≡ style_value items sources present up (present up) property
unfolding element_around
value-up items sources present node up state property path own around = by (is_inherited property) refl around
  where
    by : (t : Bool) → is_inherited property ≡ t → (if t then parent_of items node else None) ≡ Some up → style_value items sources present node state property ≡ style_value items sources present up (present up) property
    by false i e = absurd (cc e)
    by true i e = value-above items sources present node up state property path own i e

around-below : (items : List Item) (node up : ℕ) (property : Property) → ((at from : ℕ) → parent_of items at ≡ Some from → (from < at) × (at < length items)) → element_around items node property ≡ Some up → up < node
unfolding element_around
around-below items node up property parents = by (is_inherited property)
  where
    by : (t : Bool) → (if t then parent_of items node else None) ≡ Some up → up < node
    by false e = absurd (cc e)
    by true e = (parents node up e).0

around-some : (items : List Item) (present : ℕ → State) (values : List (Option StyleValue)) (node up : ℕ) (property : Property) → element_around items node property ≡ Some up → value_around items present values node property ≡ cell_of values up (present up) property
unfolding value_around
around-some items present values node up property e = ap (λ (o : Option ℕ). option_map_or (λ at. cell_of values at (present at) property) o (Some (initial_of property))) e

around-none : (items : List Item) (present : ℕ → State) (values : List (Option StyleValue)) (node : ℕ) (property : Property) → element_around items node property ≡ None → value_around items present values node property ≡ Some (initial_of property)
unfolding value_around
around-none items present values node property e = ap (λ (o : Option ℕ). option_map_or (λ at. cell_of values at (present at) property) o (Some (initial_of property))) e

-- ---- what is kept

pub kept-some : (styles : StylesState) (node : ℕ) (state : State) (property : Property) (value : StyleValue) → cell_of styles.kept.values node state property ≡ Some value → is_kept styles node state property ≡ true
unfolding is_kept
kept-some styles node state property value e = ap (λ (o : Option StyleValue). is_some o) e

pub kept-none : (styles : StylesState) (node : ℕ) (state : State) (property : Property) → cell_of styles.kept.values node state property ≡ None → is_kept styles node state property ≡ false
unfolding is_kept
kept-none styles node state property e = ap (λ (o : Option StyleValue). is_some o) e

pub kept-cell : (styles : StylesState) (node : ℕ) (state : State) (property : Property) → is_kept styles node state property ≡ true → (value : StyleValue) × (cell_of styles.kept.values node state property ≡ Some value)
unfolding is_kept
kept-cell styles node state property = by (cell_of styles.kept.values node state property)
  where
    by : (o : Option StyleValue) → is_some o ≡ true → (value : StyleValue) × (o ≡ Some value)
    by None e = absurd (cc e)
    by (Some value) e = (value, refl)

pub kept-same : (one other : StylesState) (node : ℕ) (state : State) (property : Property) → cell_of one.kept.values node state property ≡ cell_of other.kept.values node state property → is_kept one node state property ≡ is_kept other node state property
unfolding is_kept
kept-same one other node state property e = ap (λ (o : Option StyleValue). is_some o) e

-- it is the value, and all of its chain is kept
pub record IsGood (items : List Item) (present : ℕ → State) (styles : StylesState) (node : ℕ) (state : State) (property : Property) (value : StyleValue) : Type 0 where
  pub value_is : value ≡ style_value items styles.sources present node state property
  pub all_kept : (at : Place) → Contains (chain_of items styles.sources present node state property) at → is_kept styles at.node at.state property ≡ true

kept-chain : (styles : StylesState) (node : ℕ) (state : State) (property : Property) (value : StyleValue) (chain rest : List Place) → chain ≡ place node state ∷ rest → cell_of styles.kept.values node state property ≡ Some value → ((at : Place) → Contains rest at → is_kept styles at.node at.state property ≡ true) → (at : Place) → Contains chain at → is_kept styles at.node at.state property ≡ true
kept-chain styles node state property value chain rest is e more at c = by (contains-cases (place node state) at rest (subst (λ (l : List Place). Contains l at) is c))
  where
    by : (place node state ≡ at) ⊎ Contains rest at → is_kept styles at.node at.state property ≡ true
    by (inl same) = subst (λ (p : Place). is_kept styles p.node p.state property ≡ true) same (kept-some styles node state property value e)
    by (inr k) = more at k

abbrev Kept : List Item → (ℕ → State) → StylesState → Type 0
Kept items present styles = IsKept items present styles.sources styles.kept

good-around : (items : List Item) (present : ℕ → State) (styles : StylesState) → Kept items present styles → (node : ℕ) (state : State) (property : Property) (value : StyleValue) → cell_of styles.kept.values node state property ≡ Some value → ((up : ℕ) → up < node → cell_of styles.kept.values up (present up) property ≡ Some value → IsGood items present styles up (present up) property value) → own_value items styles.sources node state property ≡ None → value_around items present styles.kept.values node property ≡ Some value → (o : Option ℕ) → element_around items node property ≡ o → IsGood items present styles node state property value
good-around items present styles right node state property value e more own l None around =
    record {
      value_is = some-one value (initial_of property) (sym l ∙ around-none items present styles.kept.values node property around) ∙ sym (value-initial items styles.sources present node state property own around);
      all_kept = kept-chain styles node state property value (chain_of items styles.sources present node state property) [] (chain-unsaid items styles.sources present node state property own ∙ ap (λ (r : List Place). place node state ∷ r) (nothing-above items styles.sources present node property around)) e (λ at c. absurd (contains-none at c));
    }
good-around items present styles right node state property value e more own l (Some up) around =
    let above = more up (around-below items node up property right.parents around) (sym (around-some items present styles.kept.values node up property around) ∙ l) in
    record {
      value_is = above.value_is ∙ sym (value-up items styles.sources present node up state property (right.paths up) own around);
      all_kept = kept-chain styles node state property value (chain_of items styles.sources present node state property) (chain_of items styles.sources present up (present up) property) (chain-unsaid items styles.sources present node state property own ∙ ap (λ (r : List Place). place node state ∷ r) (chain-above items styles.sources present node up property around (right.paths up))) e above.all_kept;
    }

good-own : (items : List Item) (present : ℕ → State) (styles : StylesState) → Kept items present styles → (node : ℕ) (state : State) (property : Property) (value : StyleValue) → cell_of styles.kept.values node state property ≡ Some value → ((up : ℕ) → up < node → cell_of styles.kept.values up (present up) property ≡ Some value → IsGood items present styles up (present up) property value) → (own : Option StyleValue) → own_value items styles.sources node state property ≡ own → option_or own (value_around items present styles.kept.values node property) ≡ Some value → IsGood items present styles node state property value
good-own items present styles right node state property value e more (Some w) own l =
    record {
      value_is = some-one value w (sym l) ∙ sym (value-own items styles.sources present node state property w own);
      all_kept = kept-chain styles node state property value (chain_of items styles.sources present node state property) [] (chain-own items styles.sources present node state property w own) e (λ at c. absurd (contains-none at c));
    }
good-own items present styles right node state property value e more None own l = good-around items present styles right node state property value e more own l (element_around items node property) refl

good : (items : List Item) (present : ℕ → State) (styles : StylesState) → Kept items present styles → (count node : ℕ) → node < count → (state : State) (property : Property) (value : StyleValue) → cell_of styles.kept.values node state property ≡ Some value → IsGood items present styles node state property value
good items present styles right zero node h state property value e = absurd (omega (arith, h))
good items present styles right (suc count) node h state property value e = good-own items present styles right node state property value e (λ up low k. good items present styles right count up (omega (arith, h, low)) (present up) property value k) (own_value items styles.sources node state property) refl (right.values node state property value e)

good-right : (items : List Item) (present : ℕ → State) (styles : StylesState) → IsRight items present styles → (node : ℕ) (state : State) (property : Property) (value : StyleValue) → cell_of styles.kept.values node state property ≡ Some value → IsGood items present styles node state property value
unfolding IsRight
good-right items present styles right node state property value e = good items present styles right (node + 1) node (omega arith) state property value e

-- what is kept is the value, and its chain is kept
pub kept-value : (items : List Item) (present : ℕ → State) (styles : StylesState) (node : ℕ) (state : State) (property : Property) → IsRight items present styles → is_kept styles node state property ≡ true → cell_of styles.kept.values node state property ≡ Some (style_value items styles.sources present node state property)
kept-value items present styles node state property right k =
    let found = kept-cell styles node state property k in
    found.1 ∙ ap (λ (v : StyleValue). Some v) (good-right items present styles right node state property found.0 found.1).value_is

pub kept-all : (items : List Item) (present : ℕ → State) (styles : StylesState) (node : ℕ) (state : State) (property : Property) (at : Place) → IsRight items present styles → is_kept styles node state property ≡ true → Contains (chain_of items styles.sources present node state property) at → is_kept styles at.node at.state property ≡ true
kept-all items present styles node state property at right k c =
    let found = kept-cell styles node state property k in
    (good-right items present styles right node state property found.0 found.1).all_kept at c

unkept-none : (styles : StylesState) (property : Property) (places : List Place) → ((at : Place) → Contains places at → is_kept styles at.node at.state property ≡ true) → unkept_among styles property places ≡ 0
unkept-none styles property [] h = refl
unkept-none styles property (at ∷ more) h =
    let one : ◌≡◌ {A = ℕ} (one_unless (is_kept styles at.node at.state property)) 0 = ap one_unless (h at (contains-first at more)) in
    let rest : unkept_among styles property more ≡ 0 = unkept-none styles property more (λ other c. h other (contains-more at other more c)) in
    omega (arith, one, rest)

-- where the value is kept, nothing changes
pub gets-kept : (items : List Item) (present : ℕ → State) (old : StylesState) (node : ℕ) (state : State) (property : Property) (value : StyleValue) → IsRight items present old → old.worked ≤ 2 ^ 64 - 1 → IsTrue (fits property value) → cell_of old.kept.values node state property ≡ Some value → Gets items present old old (place node state) property value
unfolding unkept
gets-kept items present old node state property value right room fitting e =
    let is_good = good-right items present old right node state property value e in
    let none : unkept_among old property (chain_of items old.sources present node state property) ≡ 0 = unkept-none old property (chain_of items old.sources present node state property) is_good.all_kept in
    record {
      sources = refl;
      value_is = is_good.value_is;
      fitting = fitting;
      right = right;
      here = e;
      worked = omega (arith, none, room);
      all_kept = is_good.all_kept;
      still = λ n s p w h. h;
      only = λ n s p h. inl h;
      behind = λ n s p h. refl;
      owes = λ h. omega arith;
    }

-- ---- one value more

or-more : (own one other : Option StyleValue) (value : StyleValue) → ((x : StyleValue) → one ≡ Some x → other ≡ Some x) → option_or own one ≡ Some value → option_or own other ≡ Some value
or-more None one other value h e = h value e
or-more (Some o) one other value h e = e

pub around-more : (items : List Item) (present : ℕ → State) (old new : List (Option StyleValue)) (node : ℕ) (property : Property) → ((up : ℕ) (value : StyleValue) → cell_of old up (present up) property ≡ Some value → cell_of new up (present up) property ≡ Some value) → (x : StyleValue) → value_around items present old node property ≡ Some x → value_around items present new node property ≡ Some x
unfolding value_around
around-more items present old new node property h x = by (element_around items node property)
  where
    by : (o : Option ℕ) → option_map_or (λ at. cell_of old at (present at) property) o (Some (initial_of property)) ≡ Some x → option_map_or (λ at. cell_of new at (present at) property) o (Some (initial_of property)) ≡ Some x
    by None e = e
    by (Some up) e = h up x e

put-cases : (cells : List (Option StyleValue)) (node other : ℕ) (state at : State) (property of : Property) (value : Option StyleValue) → (cell_of (slice_set cells (cell_place node state property) value) other at of ≡ cell_of cells other at of) ⊎ ((other ≡ node) × (at ≡ state) × (of ≡ property))
put-cases cells node other state at property of value =
    elim (cases_eq (cell_place other at of) (cell_place node state property)) [
      | inl e ↦ inr (cell_place-one other node at state of property e)
      | inr ne ↦ inl (cell_of-others cells node other state at property of value (λ same. ne (ap (λ (n : ℕ). cell_place n at of) same.0 ∙ ap (λ (s : State). cell_place node s of) same.1 ∙ ap (cell_place node state) same.2)))
    ]

-- what stands when the values above are kept, and the element's own is about to be
pub record Midway (items : List Item) (present : ℕ → State) (old mid : StylesState) (node : ℕ) (state : State) (property : Property) (value : StyleValue) (rest : List Place) : Type 0 where
  pub element : IsElement items node
  pub chain : chain_of items old.sources present node state property ≡ place node state ∷ rest
  pub sources : mid.sources ≡ old.sources
  pub value_is : value ≡ style_value items old.sources present node state property
  pub fitting : IsTrue (fits property value)
  pub right : IsRight items present mid
  pub here : option_or (own_value items old.sources node state property) (value_around items present mid.kept.values node property) ≡ Some value
  pub none : cell_of old.kept.values node state property ≡ None
  pub worked : mid.worked ≡ min (old.worked + unkept_among old property rest) (2 ^ 64 - 1)
  pub all_kept : (at : Place) → Contains rest at → is_kept mid at.node at.state property ≡ true
  pub still : (other : ℕ) (at : State) (of : Property) (was : StyleValue) → cell_of old.kept.values other at of ≡ Some was → cell_of mid.kept.values other at of ≡ Some was
  pub only : (other : ℕ) (at : State) (of : Property) → is_kept mid other at of ≡ true → (is_kept old other at of ≡ true) ⊎ ((of ≡ property) × Contains rest (place other at))
  pub behind : (other : ℕ) (at : State) (of : Property) → node ≤ other → cell_of mid.kept.values other at of ≡ cell_of old.kept.values other at of
  pub owes : mid.worked + owed items present mid ≤ old.worked + owed items present old

pub room-kept : (items : List Item) (present : ℕ → State) (styles : StylesState) → IsRight items present styles → length styles.kept.values ≡ 51 * length items
unfolding IsRight
room-kept items present styles right = right.room_kept

-- what was kept before is kept when one value more is
more-still : (cells : List (Option StyleValue)) (node other : ℕ) (state at : State) (property of : Property) (value was : StyleValue) → cell_of cells node state property ≡ None → cell_of cells other at of ≡ Some was → cell_of (slice_set cells (cell_place node state property) (Some value)) other at of ≡ Some was
more-still cells node other state at property of value was none e = by (put-cases cells node other state at property of (Some value))
  where
    by : (cell_of (slice_set cells (cell_place node state property) (Some value)) other at of ≡ cell_of cells other at of) ⊎ ((other ≡ node) × (at ≡ state) × (of ≡ property)) → cell_of (slice_set cells (cell_place node state property) (Some value)) other at of ≡ Some was
    by (inl same) = same ∙ e
    by (inr (n, s, p)) = absurd (cc (sym none ∙ sym (ap (λ (k : ℕ). cell_of cells k at of) n ∙ ap (λ (k : State). cell_of cells node k of) s ∙ ap (cell_of cells node state) p) ∙ e))

abbrev cells_with : StylesState → ℕ → State → Property → StyleValue → List (Option StyleValue)
cells_with mid node state property value = slice_set mid.kept.values (cell_place node state property) (Some value)

around-with : (items : List Item) (present : ℕ → State) (mid : StylesState) (node : ℕ) (state : State) (property : Property) (value : StyleValue) → cell_of mid.kept.values node state property ≡ None → (other : ℕ) (of : Property) (x : StyleValue) → value_around items present mid.kept.values other of ≡ Some x → value_around items present (cells_with mid node state property value) other of ≡ Some x
around-with items present mid node state property value none other of = around-more items present mid.kept.values (cells_with mid node state property value) other of (λ up w k. more-still mid.kept.values node up state (present up) property of value w none k)

local-with : (items : List Item) (present : ℕ → State) (mid : StylesState) (node : ℕ) (state : State) (property : Property) (value : StyleValue) → Kept items present mid → 51 * node + 51 ≤ length mid.kept.values → cell_of mid.kept.values node state property ≡ None → option_or (own_value items mid.sources node state property) (value_around items present mid.kept.values node property) ≡ Some value → (other : ℕ) (at : State) (of : Property) (was : StyleValue) → cell_of (cells_with mid node state property value) other at of ≡ Some was → (cell_of (cells_with mid node state property value) other at of ≡ cell_of mid.kept.values other at of) ⊎ ((other ≡ node) × (at ≡ state) × (of ≡ property)) → option_or (own_value items mid.sources other at of) (value_around items present (cells_with mid node state property value) other of) ≡ Some was
local-with items present mid node state property value right room none local other at of was e (inl same) = or-more (own_value items mid.sources other at of) (value_around items present mid.kept.values other of) (value_around items present (cells_with mid node state property value) other of) was (around-with items present mid node state property value none other of) (right.values other at of was (sym same ∙ e))
local-with items present mid node state property value right room none local other at of was e (inr (n, s, p)) =
    let here : cell_of (cells_with mid node state property value) node state property ≡ Some was = sym (ap (λ (k : ℕ). cell_of (cells_with mid node state property value) k at of) n ∙ ap (λ (k : State). cell_of (cells_with mid node state property value) node k of) s ∙ ap (cell_of (cells_with mid node state property value) node state) p) ∙ e in
    let is : value ≡ was = some-one value was (sym (cell_of-put mid.kept.values node state property (Some value) room) ∙ here) in
    let there : option_or (own_value items mid.sources node state property) (value_around items present (cells_with mid node state property value) node property) ≡ Some value = or-more (own_value items mid.sources node state property) (value_around items present mid.kept.values node property) (value_around items present (cells_with mid node state property value) node property) value (around-with items present mid node state property value none node property) local in
    ap (λ (k : ℕ). option_or (own_value items mid.sources k at of) (value_around items present (cells_with mid node state property value) k of)) n
    ∙ ap (λ (k : State). option_or (own_value items mid.sources node k of) (value_around items present (cells_with mid node state property value) node of)) s
    ∙ ap (λ (k : Property). option_or (own_value items mid.sources node state k) (value_around items present (cells_with mid node state property value) node k)) p
    ∙ there ∙ ap (λ (v : StyleValue). Some v) is

right-more : (items : List Item) (present : ℕ → State) (mid : StylesState) (node : ℕ) (state : State) (property : Property) (value : StyleValue) → IsRight items present mid → 51 * node + 51 ≤ length mid.kept.values → cell_of mid.kept.values node state property ≡ None → option_or (own_value items mid.sources node state property) (value_around items present mid.kept.values node property) ≡ Some value → IsRight items present (with_kept mid (place node state) property value)
unfolding IsRight
right-more items present mid node state property value right room none local =
    record {
      room = right.room;
      room_kept = length-set mid.kept.values (cell_place node state property) (Some value) ∙ right.room_kept;
      writes = right.writes;
      said = right.said;
      values = λ other at of was e. local-with items present mid node state property value right room none local other at of was e (put-cases mid.kept.values node other state at property of (Some value));
      paths = right.paths;
      parents = right.parents;
    }

mid-room : (items : List Item) (present : ℕ → State) (old mid : StylesState) (node : ℕ) (state : State) (property : Property) (value : StyleValue) (rest : List Place) → Midway items present old mid node state property value rest → 51 * node + 51 ≤ length mid.kept.values
mid-room items present old mid node state property value rest m = omega (arith, room-kept items present mid m.right, element-within items node m.element)

mid-none : (items : List Item) (present : ℕ → State) (old mid : StylesState) (node : ℕ) (state : State) (property : Property) (value : StyleValue) (rest : List Place) → Midway items present old mid node state property value rest → cell_of mid.kept.values node state property ≡ None
mid-none items present old mid node state property value rest m = m.behind node state property (omega arith) ∙ m.none

mid-here : (items : List Item) (present : ℕ → State) (old mid : StylesState) (node : ℕ) (state : State) (property : Property) (value : StyleValue) (rest : List Place) → Midway items present old mid node state property value rest → cell_of (with_kept mid (place node state) property value).kept.values node state property ≡ Some value
mid-here items present old mid node state property value rest m = cell_of-put mid.kept.values node state property (Some value) (mid-room items present old mid node state property value rest m)

mid-still : (items : List Item) (present : ℕ → State) (old mid : StylesState) (node : ℕ) (state : State) (property : Property) (value : StyleValue) (rest : List Place) → Midway items present old mid node state property value rest → (other : ℕ) (at : State) (of : Property) (was : StyleValue) → cell_of mid.kept.values other at of ≡ Some was → cell_of (with_kept mid (place node state) property value).kept.values other at of ≡ Some was
mid-still items present old mid node state property value rest m other at of was e = more-still mid.kept.values node other state at property of value was (mid-none items present old mid node state property value rest m) e

mid-kept : (items : List Item) (present : ℕ → State) (old mid : StylesState) (node : ℕ) (state : State) (property : Property) (value : StyleValue) (rest : List Place) → Midway items present old mid node state property value rest → (other : ℕ) (at : State) (of : Property) → is_kept mid other at of ≡ true → is_kept (with_kept mid (place node state) property value) other at of ≡ true
mid-kept items present old mid node state property value rest m other at of k = let found = kept-cell mid other at of k in kept-some (with_kept mid (place node state) property value) other at of found.0 (mid-still items present old mid node state property value rest m other at of found.0 found.1)

mid-count : (items : List Item) (present : ℕ → State) (old mid : StylesState) (node : ℕ) (state : State) (property : Property) (value : StyleValue) (rest : List Place) → Midway items present old mid node state property value rest → (with_kept mid (place node state) property value).worked ≡ min (old.worked + unkept_among old property (chain_of items old.sources present node state property)) (2 ^ 64 - 1)
mid-count items present old mid node state property value rest m =
    let one : ◌≡◌ {A = ℕ} (one_unless (is_kept old node state property)) 1 = ap one_unless (kept-none old node state property m.none) in
    let all : unkept_among old property (chain_of items old.sources present node state property) ≡ one_unless (is_kept old node state property) + unkept_among old property rest = ap (unkept_among old property) m.chain in
    omega (arith, one, all, m.worked)

mid-only : (items : List Item) (present : ℕ → State) (old mid : StylesState) (node : ℕ) (state : State) (property : Property) (value : StyleValue) (rest : List Place) → Midway items present old mid node state property value rest → (other : ℕ) (at : State) (of : Property) → is_kept (with_kept mid (place node state) property value) other at of ≡ true → (cell_of (with_kept mid (place node state) property value).kept.values other at of ≡ cell_of mid.kept.values other at of) ⊎ ((other ≡ node) × (at ≡ state) × (of ≡ property)) → (is_kept old other at of ≡ true) ⊎ ((of ≡ property) × Contains (chain_of items old.sources present node state property) (place other at))
mid-only items present old mid node state property value rest m other at of k (inl same) = elim (m.only other at of (sym (kept-same (with_kept mid (place node state) property value) mid other at of same) ∙ k)) [
  | inl before ↦ inl before
  | inr found ↦ inr (found.0, subst (λ (l : List Place). Contains l (place other at)) (sym m.chain) (contains-more (place node state) (place other at) rest found.1))
]
mid-only items present old mid node state property value rest m other at of k (inr (n, s, p)) =
    let one : Contains (chain_of items old.sources present node state property) (place node state) = subst (λ (l : List Place). Contains l (place node state)) (sym m.chain) (contains-first (place node state) rest) in
    inr (p, subst (λ (q : Place). Contains (chain_of items old.sources present node state property) q) (sym (ap (λ (j : ℕ). place j at) n ∙ ap (place node) s)) one)

mid-less : (items : List Item) (present : ℕ → State) (old mid : StylesState) (node : ℕ) (state : State) (property : Property) (value : StyleValue) (rest : List Place) → Midway items present old mid node state property value rest → state ≡ present node → owed items present (with_kept mid (place node state) property value) + 1 ≤ owed items present mid
mid-less items present old mid node state property value rest m e =
    let unkept_here : is_kept mid node (present node) property ≡ false = ap (λ (s : State). is_kept mid node s property) (sym e) ∙ kept-none mid node state property (mid-none items present old mid node state property value rest m) in
    let kept_here : is_kept (with_kept mid (place node state) property value) node (present node) property ≡ true = ap (λ (s : State). is_kept (with_kept mid (place node state) property value) node s property) (sym e) ∙ kept-some (with_kept mid (place node state) property value) node state property value (mid-here items present old mid node state property value rest m) in
    owed-less items present mid (with_kept mid (place node state) property value) node property m.element (element-within items node m.element) (λ other of k. mid-kept items present old mid node state property value rest m other (present other) of k) unkept_here kept_here

pub gets-more : (items : List Item) (present : ℕ → State) (old mid : StylesState) (node : ℕ) (state : State) (property : Property) (value : StyleValue) (rest : List Place) → Midway items present old mid node state property value rest → Gets items present old (with_kept mid (place node state) property value) (place node state) property value
unfolding unkept
gets-more items present old mid node state property value rest m =
    record {
      sources = m.sources;
      value_is = m.value_is;
      fitting = m.fitting;
      right = right-more items present mid node state property value m.right (mid-room items present old mid node state property value rest m) (mid-none items present old mid node state property value rest m) (subst (λ (s : Sources). option_or (own_value items s node state property) (value_around items present mid.kept.values node property) ≡ Some value) (sym m.sources) m.here);
      here = mid-here items present old mid node state property value rest m;
      worked = mid-count items present old mid node state property value rest m;
      all_kept = kept-chain (with_kept mid (place node state) property value) node state property value (chain_of items old.sources present node state property) rest m.chain (mid-here items present old mid node state property value rest m) (λ at c. mid-kept items present old mid node state property value rest m at.node at.state property (m.all_kept at c));
      still = λ other at of was e. mid-still items present old mid node state property value rest m other at of was (m.still other at of was e);
      only = λ other at of k. mid-only items present old mid node state property value rest m other at of k (put-cases mid.kept.values node other state at property of (Some value));
      behind = λ other at of low. cell_of-others mid.kept.values node other state at property of (Some value) (λ same. omega (arith, low, same.0)) ∙ m.behind other at of (omega (arith, low));
      owes = λ e. let less = mid-less items present old mid node state property value rest m e in omega (arith, m.owes, less);
    }

-- ---- the three cases

-- of the element itself something is said
pub gets-own : (items : List Item) (present : ℕ → State) (old : StylesState) (node : ℕ) (state : State) (property : Property) (value : StyleValue) → IsRight items present old → IsElement items node → old.worked ≤ 2 ^ 64 - 1 → IsTrue (fits property value) → cell_of old.kept.values node state property ≡ None → own_value items old.sources node state property ≡ Some value → Gets items present old (with_kept old (place node state) property value) (place node state) property value
gets-own items present old node state property value right element room fitting none own =
    gets-more items present old old node state property value [] (record {
      element = element;
      chain = chain-own items old.sources present node state property value own;
      sources = refl;
      value_is = sym (value-own items old.sources present node state property value own);
      fitting = fitting;
      right = right;
      here = ap (λ (o : Option StyleValue). option_or o (value_around items present old.kept.values node property)) own;
      none = none;
      worked = omega (arith, room);
      all_kept = λ at c. absurd (contains-none at c);
      still = λ other at of was e. e;
      only = λ other at of k. inl k;
      behind = λ other at of low. refl;
      owes = omega arith;
    })

-- nothing is said, and nothing is above
pub gets-initial : (items : List Item) (present : ℕ → State) (old : StylesState) (node : ℕ) (state : State) (property : Property) (value : StyleValue) → IsRight items present old → IsElement items node → old.worked ≤ 2 ^ 64 - 1 → IsTrue (fits property value) → cell_of old.kept.values node state property ≡ None → own_value items old.sources node state property ≡ None → element_around items node property ≡ None → value ≡ initial_of property → Gets items present old (with_kept old (place node state) property value) (place node state) property value
gets-initial items present old node state property value right element room fitting none own around is =
    gets-more items present old old node state property value [] (record {
      element = element;
      chain = chain-unsaid items old.sources present node state property own ∙ ap (λ (r : List Place). place node state ∷ r) (nothing-above items old.sources present node property around);
      sources = refl;
      value_is = is ∙ sym (value-initial items old.sources present node state property own around);
      fitting = fitting;
      right = right;
      here = ap (λ (o : Option StyleValue). option_or o (value_around items present old.kept.values node property)) own ∙ around-none items present old.kept.values node property around ∙ ap (λ (v : StyleValue). Some v) (sym is);
      none = none;
      worked = omega (arith, room);
      all_kept = λ at c. absurd (contains-none at c);
      still = λ other at of was e. e;
      only = λ other at of k. inl k;
      behind = λ other at of low. refl;
      owes = omega arith;
    })

path-at : (items : List Item) (present : ℕ → State) (styles : StylesState) → IsRight items present styles → (up : ℕ) → path_of items up ≡ up ∷ option_map_or (path_of items) (parent_of items up) []
unfolding IsRight
path-at items present styles right up = right.paths up

-- it is that of the element above
pub gets-above : (items : List Item) (present : ℕ → State) (old mid : StylesState) (node up : ℕ) (state : State) (property : Property) (value : StyleValue) → IsRight items present old → IsElement items node → cell_of old.kept.values node state property ≡ None → own_value items old.sources node state property ≡ None → element_around items node property ≡ Some up → up < node → Gets items present old mid (place up (present up)) property value → Gets items present old (with_kept mid (place node state) property value) (place node state) property value
unfolding unkept
gets-above items present old mid node up state property value right element none own around low g =
    gets-more items present old mid node state property value (chain_of items old.sources present up (present up) property) (record {
      element = element;
      chain = chain-unsaid items old.sources present node state property own ∙ ap (λ (r : List Place). place node state ∷ r) (chain-above items old.sources present node up property around (path-at items present old right up));
      sources = g.sources;
      value_is = g.value_is ∙ sym (value-up items old.sources present node up state property (path-at items present old right up) own around);
      fitting = g.fitting;
      right = g.right;
      here = ap (λ (o : Option StyleValue). option_or o (value_around items present mid.kept.values node property)) own ∙ around-some items present mid.kept.values node up property around ∙ g.here;
      none = none;
      worked = g.worked;
      all_kept = g.all_kept;
      still = g.still;
      only = g.only;
      behind = λ other at of h. g.behind other at of (omega (arith, low, h));
      owes = g.owes refl;
    })
