-- The finite map of what was written, and the table that stands for it.
use Rattle.std.proofs.Common.{◌≡◌, ℕ, zero, suc, ◌+◌, ◌*◌, ◌<◌, ◌≤◌, ◌⊎◌, inl, inr, Bool, true, false, cond, List, [], ◌∷◌, ◌++◌, length, get_or, Option, Some, None, refl, sym, ◌∙◌, ap, subst, arith}
use Rattle.std.specs.Prelude.{◌||◌, IsTrue, T, map, replicate, slice_set}
use Rattle.std.specs.Cmp.{Equal-is, IsTotalOrder, nat_cmp_total, tied_itself}
use Rattle.std.specs.FinMap.{IsAntisymmetric, nat_cmp-IsAntisymmetric}
use Rattle.std.specs.FinMap.Entries.{find-put, is_sorted-put, same_entries}
use Rattle.std.specs.List.{list_any}
use Rattle.std.specs.Option.{option_flatten}
use Rattle.std.specs.Ordering.{eq_by_cmp, is_eq, ordering_then}
use Rattle.std.specs.declared.cmp.Ordering.{Ordering}
use Rattle.std.specs.declared.cmp.Ordering.TheVariants.{Equal, Greater, Less}
use Rattle.std.proofs.lemmas.Cmp.{on_total, then_total}
use Rattle.std.proofs.lemmas.List.Folds.{list_any-append}
use Rattle.std.proofs.lemmas.Option.{slice_get_past}
use Rattle.style_reader.specs.Properties.{all_properties}
use Rattle.style_reader.specs.declared.properties.Property.{Property}
use Rattle.style_reader.specs.declared.properties.Property.TheVariants.{Left}
use Rattle.style_reader.specs.declared.properties.StyleValue.{StyleValue}
use Rattle.style_reader.specs.declared.rules.Rule.{Rule}
use Rattle.style_cascade.specs.Candidates.{property_place}
use Rattle.style_cascade.specs.Cascade.{Sources, unwritten, with_write, write_of}
use Rattle.style_cascade.specs.Writes.{Cell, StyleWrites, are_in_order, cell, cell_cmp, state_place, written_value, with_value}
use Rattle.style_cascade.specs.devices.Tables.{cell_of, cell_place, first_cells, node_cells, with_read, writes_among, writes_in}
use Rattle.style_cascade.specs.declared.states.State.{State}
use Rattle.style_cascade.specs.declared.states.State.TheVariants as states
use Rattle.style_cascade.proofs.ChainLemmas.{below-or_at}
use Rattle.style_cascade.proofs.PlaceLemmas.{cell_of-empty, cell_of-others, cell_of-put, property_at-place, property_place-one, property_place-small, state_place-one}

-- ---- the order of the cells

cells_total : IsTotalOrder cell_cmp
cells_total =
    then_total (on_total (λ (c : Cell). c.node) nat_cmp_total)
    (then_total (on_total (λ (c : Cell). state_place c.state) nat_cmp_total)
    (on_total (λ (c : Cell). property_place c.property) nat_cmp_total))

then-equal : (first second : Ordering) → ordering_then first second ≡ Equal → (first ≡ Equal) × (second ≡ Equal)
then-equal Less second e = absurd (cc e)
then-equal Equal second e = (refl, e)
then-equal Greater second e = absurd (cc e)

-- cells that tie are one
exact_cells : IsAntisymmetric cell_cmp
exact_cells one other e =
    let nodes = then-equal _ _ e in
    let rest = then-equal _ _ nodes.1 in
    let node : one.node ≡ other.node = nat_cmp-IsAntisymmetric one.node other.node nodes.0 in
    let state : one.state ≡ other.state = state_place-one one.state other.state (nat_cmp-IsAntisymmetric _ _ rest.0) in
    let property : one.property ≡ other.property = property_place-one one.property other.property (nat_cmp-IsAntisymmetric _ _ rest.1) in
    ap (λ (n : ℕ). cell n one.state one.property) node ∙ ap (λ (s : State). cell other.node s one.property) state ∙ ap (cell other.node other.state) property

abbrev is_cell : Cell → Cell → Bool
is_cell one other = eq_by_cmp cell_cmp one other

is_cell-same : (one other : Cell) → is_cell one other ≡ true → one ≡ other
is_cell-same one other e = exact_cells one other ((Equal-is (cell_cmp one other)).0 e)

is_cell-itself : (one : Cell) → is_cell one one ≡ true
is_cell-itself one = ap is_eq (tied_itself cells_total one)

if-true : (b : Bool) → IsTrue b → T b
if-true true h = tt
if-true false h = absurd (cc h)

true-if : (b : Bool) → T b → IsTrue b
true-if true h = refl
true-if false h = absurd h

-- ---- what a table has

abbrev value_in : List (Option StyleValue) → Cell → Option StyleValue
value_in cells at = cell_of cells at.node at.state at.property

-- what is found among some cells
abbrev found_if : Bool → Option StyleValue → Option StyleValue
found_if among value = cond among value None

nothing-found : (among : Bool) → None ≡ found_if among None
nothing-found true = refl
nothing-found false = refl

get-step : (here among : Bool) (value all : Option StyleValue) (writes : StyleWrites) (at asked : Cell) → is_cell asked at ≡ here → (here ≡ true → value ≡ all) → written_value asked writes ≡ found_if among all → written_value asked (with_read value at writes) ≡ found_if (here || among) all
get-step true among (Some value) all writes at asked is same rest = find-put cell_cmp cells_total asked at value writes ∙ ap (λ (t : Bool). cond t (Some value) (written_value asked writes)) is ∙ same refl
get-step true among None all writes at asked is same rest = rest ∙ ap (found_if among) (sym (same refl)) ∙ sym (nothing-found among) ∙ same refl
get-step false among (Some value) all writes at asked is same rest = find-put cell_cmp cells_total asked at value writes ∙ ap (λ (t : Bool). cond t (Some value) (written_value asked writes)) is ∙ rest
get-step false among None all writes at asked is same rest = rest

get-among : (cells : List (Option StyleValue)) (places : List Cell) (asked : Cell) → written_value asked (writes_among cells places) ≡ found_if (list_any (is_cell asked) places) (value_in cells asked)
unfolding writes_among
get-among cells [] asked = refl
get-among cells (at ∷ more) asked =
    get-step (is_cell asked at) (list_any (is_cell asked) more) (value_in cells at) (value_in cells asked) (writes_among cells more) at asked refl (λ is. ap (value_in cells) (sym (is_cell-same asked at is))) (get-among cells more asked)

-- ---- all cells of the first nodes

any-at : {A : Type 0} (test : A → Bool) (xs : List A) (k : ℕ) (d : A) → k < length xs → test (get_or xs k d) ≡ true → list_any test xs ≡ true
any-at test [] k d h e = absurd (omega (arith, h))
any-at test (x ∷ xs) zero d h e = ap (λ (b : Bool). b || list_any test xs) e
any-at test (x ∷ xs) (suc k) d h e = ap (λ (b : Bool). test x || b) (any-at test xs k d (omega (arith, h)) e) ∙ or-true (test x)
  where
    or-true : (b : Bool) → (b || true) ≡ true
    or-true true = refl
    or-true false = refl

any-map : {A B : Type 0} (f : A → B) (test : B → Bool) (xs : List A) → list_any test (map f xs) ≡ list_any (λ x. test (f x)) xs
any-map f test [] = refl
any-map f test (x ∷ xs) = ap (λ (b : Bool). test (f x) || b) (any-map f test xs)

in-state : (asked : Cell) → list_any (is_cell asked) (map (cell asked.node asked.state) all_properties) ≡ true
in-state asked =
    any-map (cell asked.node asked.state) (is_cell asked) all_properties
    ∙ any-at (λ (p : Property). is_cell asked (cell asked.node asked.state p)) all_properties (property_place asked.property) Left (property_place-small asked.property)
    (ap (λ (p : Property). is_cell asked (cell asked.node asked.state p)) (property_at-place asked.property) ∙ is_cell-itself asked)

one-of : (a b c : Bool) → (a ≡ true) ⊎ ((b ≡ true) ⊎ (c ≡ true)) → (a || (b || c)) ≡ true
one-of true b c h = refl
one-of false true c h = refl
one-of false false true h = refl
one-of false false false (inl e) = absurd (cc e)
one-of false false false (inr (inl e)) = absurd (cc e)
one-of false false false (inr (inr e)) = absurd (cc e)

in-node : (node : ℕ) (state : State) (property : Property) → list_any (is_cell (cell node state property)) (node_cells node) ≡ true
in-node node state property =
    let asked = cell node state property in
    let test : Cell → Bool = is_cell asked in
    list_any-append test (map (cell node states.Normal) all_properties) (map (cell node states.Focus) all_properties ++ map (cell node states.Active) all_properties)
    ∙ ap (λ (b : Bool). list_any test (map (cell node states.Normal) all_properties) || b) (list_any-append test (map (cell node states.Focus) all_properties) (map (cell node states.Active) all_properties))
    ∙ one-of _ _ _ (by state)
  where
    by : (at : State) → (list_any (is_cell (cell node at property)) (map (cell node states.Normal) all_properties) ≡ true) ⊎ ((list_any (is_cell (cell node at property)) (map (cell node states.Focus) all_properties) ≡ true) ⊎ (list_any (is_cell (cell node at property)) (map (cell node states.Active) all_properties) ≡ true))
    by states.Normal = inl (in-state (cell node states.Normal property))
    by states.Focus = inr (inl (in-state (cell node states.Focus property)))
    by states.Active = inr (inr (in-state (cell node states.Active property)))

in-first : (count node : ℕ) (state : State) (property : Property) → node < count → list_any (is_cell (cell node state property)) (first_cells count) ≡ true
unfolding first_cells
in-first zero node state property h = absurd (omega (arith, h))
in-first (suc count) node state property h =
    list_any-append (is_cell (cell node state property)) (node_cells count) (first_cells count)
    ∙ by (below-or_at node count (omega (arith, h))) (λ below. in-first count node state property below)
  where
    or-true : (b : Bool) → (b || true) ≡ true
    or-true true = refl
    or-true false = refl

    by : (node < count) ⊎ (node ≡ count) → (node < count → list_any (is_cell (cell node state property)) (first_cells count) ≡ true) → (list_any (is_cell (cell node state property)) (node_cells count) || list_any (is_cell (cell node state property)) (first_cells count)) ≡ true
    by (inl below) before = ap (λ (b : Bool). list_any (is_cell (cell node state property)) (node_cells count) || b) (before below) ∙ or-true _
    by (inr is) before = ap (λ (b : Bool). b || list_any (is_cell (cell node state property)) (first_cells count)) (subst (λ (n : ℕ). list_any (is_cell (cell node state property)) (node_cells n) ≡ true) is (in-node node state property))

none-past : (cells : List (Option StyleValue)) (node : ℕ) (state : State) (property : Property) → length cells ≤ node → cell_of cells node state property ≡ None
unfolding cell_of cell_place
none-past cells node state property h = ap option_flatten (slice_get_past cells (51 * node + (17 * state_place state + property_place property)) (omega (arith, h)))

-- the map has what the table has
pub get-writes : (cells : List (Option StyleValue)) (node : ℕ) (state : State) (property : Property) → written_value (cell node state property) (writes_in cells) ≡ cell_of cells node state property
unfolding writes_in
get-writes cells node state property =
    get-among cells (first_cells (length cells)) (cell node state property) ∙ by (within (length cells) node)
  where
    within : (count node : ℕ) → (node < count) ⊎ (count ≤ node)
    within zero node = inr (omega arith)
    within (suc count) zero = inl (omega arith)
    within (suc count) (suc node) = elim (within count node) [
      | inl below ↦ inl (omega (arith, below))
      | inr past ↦ inr (omega (arith, past))
    ]

    by : (node < length cells) ⊎ (length cells ≤ node) → found_if (list_any (is_cell (cell node state property)) (first_cells (length cells))) (cell_of cells node state property) ≡ cell_of cells node state property
    by (inl below) = ap (λ (b : Bool). found_if b (cell_of cells node state property)) (in-first (length cells) node state property below)
    by (inr past) =
        let none = none-past cells node state property past in
        ap (found_if (list_any (is_cell (cell node state property)) (first_cells (length cells)))) none ∙ sym (nothing-found _) ∙ sym none

-- ---- a write

cell-of : (asked : Cell) (node : ℕ) (state : State) (property : Property) → asked.node ≡ node → asked.state ≡ state → asked.property ≡ property → asked ≡ cell node state property
cell-of asked node state property n s p =
    ap (λ (k : ℕ). cell k asked.state asked.property) n ∙ ap (λ (t : State). cell node t asked.property) s ∙ ap (cell node state) p

both_ways : (b : Bool) → b ≡ true → b ≡ false → ⊥
both_ways b yes_ no_ = absurd (cc (sym yes_ ∙ no_))

table-put : (cells : List (Option StyleValue)) (node : ℕ) (state : State) (property : Property) (value : StyleValue) → 51 * node + 51 ≤ length cells → (asked : Cell) (here : Bool) → is_cell asked (cell node state property) ≡ here → value_in (slice_set cells (cell_place node state property) (Some value)) asked ≡ cond here (Some value) (value_in cells asked)
table-put cells node state property value room asked true is =
    ap (value_in (slice_set cells (cell_place node state property) (Some value))) (is_cell-same asked (cell node state property) is)
    ∙ cell_of-put cells node state property (Some value) room
table-put cells node state property value room asked false is =
    cell_of-others cells node asked.node state asked.state property asked.property (Some value)
    (λ same. both_ways (is_cell asked (cell node state property)) (ap (λ (c : Cell). is_cell c (cell node state property)) (cell-of asked node state property same.0 same.1 same.2) ∙ is_cell-itself (cell node state property)) is)

in-order-by : (value : Option StyleValue) (at : Cell) (writes : StyleWrites) → T (are_in_order writes) → T (are_in_order (with_read value at writes))
in-order-by None at writes h = h
in-order-by (Some value) at writes h = is_sorted-put cell_cmp cells_total at value writes h

in-order : (cells : List (Option StyleValue)) (places : List Cell) → T (are_in_order (writes_among cells places))
unfolding writes_among
in-order cells [] = tt
in-order cells (at ∷ more) = in-order-by (value_in cells at) at (writes_among cells more) (in-order cells more)

in-order-all : (cells : List (Option StyleValue)) → T (are_in_order (writes_in cells))
unfolding writes_in
in-order-all cells = in-order cells (first_cells (length cells))

same-writes : (one other : StyleWrites) → T (are_in_order one) → T (are_in_order other) → ((asked : Cell) → written_value asked one ≡ written_value asked other) → one ≡ other
same-writes one other = same_entries cell_cmp cells_total exact_cells one other

writes-put : (cells : List (Option StyleValue)) (node : ℕ) (state : State) (property : Property) (value : StyleValue) → 51 * node + 51 ≤ length cells → writes_in (slice_set cells (cell_place node state property) (Some value)) ≡ with_value (cell node state property) value (writes_in cells)
writes-put cells node state property value room =
    same-writes (writes_in (slice_set cells (cell_place node state property) (Some value))) (with_value (cell node state property) value (writes_in cells))
    (in-order-all _) (is_sorted-put cell_cmp cells_total (cell node state property) value (writes_in cells) (in-order-all cells))
    (λ asked.
    get-writes (slice_set cells (cell_place node state property) (Some value)) asked.node asked.state asked.property
    ∙ table-put cells node state property value room asked (is_cell asked (cell node state property)) refl
    ∙ sym (find-put cell_cmp cells_total asked (cell node state property) value (writes_in cells)
    ∙ ap (cond (is_cell asked (cell node state property)) (Some value)) (get-writes cells asked.node asked.state asked.property)))

writes-empty : (n : ℕ) (cells : List (Option StyleValue)) → cells ≡ replicate n None → writes_in cells ≡ []
writes-empty n cells e = same-writes (writes_in cells) [] (in-order-all cells) tt
    (λ asked. get-writes cells asked.node asked.state asked.property ∙ cell_of-empty n cells e asked.node asked.state asked.property)

-- ---- sources

abbrev sources_with : List Rule → List (Option StyleValue) → Sources
sources_with rules cells = record { rules = rules; writes = writes_in cells }

pub sources-put : (rules : List Rule) (cells new : List (Option StyleValue)) (old : Sources) (node : ℕ) (state : State) (property : Property) (value : StyleValue) → 51 * node + 51 ≤ length cells → new ≡ slice_set cells (cell_place node state property) (Some value) → sources_with rules cells ≡ old → sources_with rules new ≡ with_write node state property value old
sources-put rules cells new old node state property value room is same =
    ap (sources_with rules) is
    ∙ ap (λ (w : StyleWrites). (let s : Sources = record { rules = rules; writes = w } in s)) (writes-put cells node state property value room)
    ∙ ap (with_write node state property value) same

pub sources-unwritten : (rules given : List Rule) (cells : List (Option StyleValue)) (n : ℕ) → rules ≡ given → cells ≡ replicate n None → sources_with rules cells ≡ unwritten given
sources-unwritten rules given cells n same e =
    ap (λ (w : StyleWrites). (let s : Sources = record { rules = rules; writes = w } in s)) (writes-empty n cells e) ∙ ap unwritten same

pub write-here : (sources : Sources) (node : ℕ) (state : State) (property : Property) (value : StyleValue) → write_of (with_write node state property value sources) node state property ≡ Some value
write-here sources node state property value =
    find-put cell_cmp cells_total (cell node state property) (cell node state property) value sources.writes
    ∙ ap (λ (t : Bool). cond t (Some value) (write_of sources node state property)) (is_cell-itself (cell node state property))

pub write-others : (sources : Sources) (node other : ℕ) (state at : State) (property of : Property) (value : StyleValue) → ((other ≡ node) × (at ≡ state) × (of ≡ property) → ⊥) → write_of (with_write node state property value sources) other at of ≡ write_of sources other at of
write-others sources node other state at property of value different =
    find-put cell_cmp cells_total (cell other at of) (cell node state property) value sources.writes ∙ by (is_cell (cell other at of) (cell node state property)) refl
  where
    by : (here : Bool) → is_cell (cell other at of) (cell node state property) ≡ here → cond here (Some value) (write_of sources other at of) ≡ write_of sources other at of
    by true is =
        let same = is_cell-same (cell other at of) (cell node state property) is in
        absurd (different (ap (λ (c : Cell). c.node) same, ap (λ (c : Cell). c.state) same, ap (λ (c : Cell). c.property) same))
    by false is = refl

pub write-order : (sources : Sources) (node : ℕ) (state : State) (property : Property) (value : StyleValue) → IsTrue (are_in_order sources.writes) → IsTrue (are_in_order (with_write node state property value sources).writes)
write-order sources node state property value h =
    true-if _ (is_sorted-put cell_cmp cells_total (cell node state property) value sources.writes (if-true _ h))

pub sources-same : (one other : Sources) → IsTrue (are_in_order one.writes) → IsTrue (are_in_order other.writes) → one.rules ≡ other.rules → ((node : ℕ) (state : State) (property : Property) → write_of one node state property ≡ write_of other node state property) → one ≡ other
sources-same one other first second rules writes =
    ap (λ (r : List Rule). (let s : Sources = record { rules = r; writes = one.writes } in s)) rules
    ∙ ap (λ (w : StyleWrites). (let s : Sources = record { rules = other.rules; writes = w } in s)) (same-writes one.writes other.writes (if-true _ first) (if-true _ second) (λ asked. writes asked.node asked.state asked.property))
