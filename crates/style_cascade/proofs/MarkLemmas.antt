-- The values that are marked: one more, and fewer.
use Rattle.std.proofs.Common.{◌≡◌, ◌≢◌, ℕ, zero, suc, ◌+◌, ◌-◌, ◌*◌, ◌<◌, ◌≤◌, List, [], ◌∷◌, length, get_or, Option, Some, None, ◌⊎◌, inl, inr, refl, sym, ◌∙◌, ap, subst, arith, length-set}
use Rattle.std.proofs.Math.Nat.{mul-le-mul_right, suc-mul}
use Rattle.std.proofs.lemmas.Bool.{cases_eq, cases_lt}
use Rattle.std.proofs.lemmas.List.{get_or-set_other, get_or-set_same, same_lists}
use Rattle.std.proofs.lemmas.Option.{slice_get-get_or, slice_get_past}
use Rattle.std.specs.Prelude.{◌/◌, ◌%◌, Bool, true, false, min, slice_get, slice_set}
use Rattle.std.specs.Option.{option_flatten}
use Rattle.style_reader.specs.declared.properties.Property.{Property}
use Rattle.style_reader.specs.declared.properties.StyleValue.{StyleValue}
use Rattle.style_cascade.specs.devices.Marks.{AreMarked, Unmarks, has_mark, mark_of, mark_place, marked_cells, marked_from, value_if}
use Rattle.style_cascade.specs.devices.Tables.{ForgetsIn, cell_of, cell_place}
use Rattle.style_cascade.specs.declared.states.State.{State}
use Rattle.style_cascade.proofs.PlaceLemmas.{cell_place-one, cell_place-within}

-- ---- places

-- a place in columns is that of one column and one node
pub columns-apart : (nodes column other node at : ℕ) → node < nodes → at < nodes → column * nodes + node ≡ other * nodes + at → (column ≡ other) × (node ≡ at)
columns-apart nodes zero zero node at n a e = (refl, omega (arith, e))
columns-apart nodes zero (suc other) node at n a e = absurd (omega (arith, e, suc-mul other nodes, n))
columns-apart nodes (suc column) zero node at n a e = absurd (omega (arith, e, suc-mul column nodes, a))
columns-apart nodes (suc column) (suc other) node at n a e =
    let one = columns-apart nodes column other node at n a (omega (arith, e, suc-mul column nodes, suc-mul other nodes)) in
    (ap (λ (k : ℕ). suc k) one.0, one.1)

column-short : (nodes column : ℕ) → column < 51 → column * nodes + nodes ≤ 51 * nodes
column-short nodes column h = omega (arith, suc-mul column nodes, mul-le-mul_right {m = suc column} {n = 51} nodes (omega (arith, h)))

-- the cells of the first node are in the first 51 places
row-small : (state : State) (property : Property) → cell_place 0 state property < 51
row-small state property = omega (arith, cell_place-within 0 state property)

pub mark-short : (nodes node : ℕ) (state : State) (property : Property) → mark_place nodes node state property + nodes ≤ 51 * nodes + node
unfolding mark_place
mark-short nodes node state property = omega (arith, column-short nodes (cell_place 0 state property) (row-small state property))

cell-row : (node : ℕ) (state : State) (property : Property) → cell_place node state property ≡ 51 * node + cell_place 0 state property
unfolding cell_place
cell-row node state property = omega arith

pub mark-cell : (nodes node : ℕ) (state : State) (property : Property) → mark_of nodes (cell_place node state property) ≡ mark_place nodes node state property
unfolding mark_of mark_place
mark-cell nodes node state property =
    let rest : cell_place node state property % 51 ≡ cell_place 0 state property = omega (arith, cell-row node state property, row-small state property) in
    let whole : cell_place node state property / 51 ≡ node = omega (arith, cell-row node state property, row-small state property) in
    ap (λ (k : ℕ). k * nodes + cell_place node state property / 51) rest ∙ ap (λ (k : ℕ). cell_place 0 state property * nodes + k) whole

-- two cells have two marks
mark-one : (nodes place other : ℕ) → place < 51 * nodes → other < 51 * nodes → mark_of nodes place ≡ mark_of nodes other → place ≡ other
unfolding mark_of
mark-one nodes place other p o e =
    let low : place / 51 < nodes = omega (arith, p) in
    let high : other / 51 < nodes = omega (arith, o) in
    let parts = columns-apart nodes (place % 51) (other % 51) (place / 51) (other / 51) low high e in
    omega (arith, parts.0, parts.1)

-- ---- the cells

pub length-marked : (nodes : ℕ) (marks : List Bool) (place : ℕ) (cells : List (Option StyleValue)) → length (marked_from nodes marks place cells) ≡ length cells
unfolding marked_from
length-marked nodes marks place [] = refl
length-marked nodes marks place (value ∷ more) = ap (λ (n : ℕ). suc n) (length-marked nodes marks (place + 1) more)

get_or-marked : (nodes : ℕ) (marks : List Bool) (place : ℕ) (cells : List (Option StyleValue)) (k : ℕ) (d : Option StyleValue) → k < length cells → get_or (marked_from nodes marks place cells) k d ≡ value_if (has_mark marks (mark_of nodes (place + k))) (get_or cells k d)
unfolding marked_from
get_or-marked nodes marks place [] k d h = absurd (omega (arith, h))
get_or-marked nodes marks place (value ∷ more) zero d h =
    let same : place ≡ place + 0 = omega arith in
    ap (λ (n : ℕ). value_if (has_mark marks (mark_of nodes n)) value) same
get_or-marked nodes marks place (value ∷ more) (suc k) d h =
    let same : place + 1 + k ≡ place + suc k = omega arith in
    get_or-marked nodes marks (place + 1) more k d (omega (arith, h)) ∙ ap (λ (n : ℕ). value_if (has_mark marks (mark_of nodes n)) (get_or more k d)) same

value_if-none : (marked : Bool) → value_if marked None ≡ None
value_if-none true = refl
value_if-none false = refl

-- a cell has its value if it has its mark
pub cell-marked : (nodes : ℕ) (marks : List Bool) (cells : List (Option StyleValue)) (node : ℕ) (state : State) (property : Property) → cell_of (marked_cells nodes marks cells) node state property ≡ value_if (has_mark marks (mark_place nodes node state property)) (cell_of cells node state property)
unfolding cell_of
cell-marked nodes marks cells node state property = by (cases_lt (cell_place node state property) (length cells))
  where
    place : ℕ
    place = cell_place node state property

    by : (place < length cells) ⊎ (length cells ≤ place) → option_flatten (slice_get (marked_cells nodes marks cells) place) ≡ value_if (has_mark marks (mark_place nodes node state property)) (option_flatten (slice_get cells place))
    by (inl h) =
        let within : place < length (marked_cells nodes marks cells) = omega (arith, h, length-marked nodes marks 0 cells) in
        let same : 0 + place ≡ place = omega arith in
        ap option_flatten (slice_get-get_or (marked_cells nodes marks cells) place None within)
        ∙ get_or-marked nodes marks 0 cells place None h
        ∙ ap (λ (k : ℕ). value_if (has_mark marks (mark_of nodes k)) (get_or cells place None)) same
        ∙ ap (λ (k : ℕ). value_if (has_mark marks k) (get_or cells place None)) (mark-cell nodes node state property)
        ∙ ap (λ (o : Option (Option StyleValue)). value_if (has_mark marks (mark_place nodes node state property)) (option_flatten o)) (sym (slice_get-get_or cells place None h))
    by (inr h) =
        ap option_flatten (slice_get_past (marked_cells nodes marks cells) place (omega (arith, h, length-marked nodes marks 0 cells)))
        ∙ sym (value_if-none (has_mark marks (mark_place nodes node state property)))
        ∙ ap (λ (o : Option (Option StyleValue)). value_if (has_mark marks (mark_place nodes node state property)) (option_flatten o)) (sym (slice_get_past cells place h))

pub cell-empty : (nodes : ℕ) (marks : List Bool) (cells : List (Option StyleValue)) → ((node : ℕ) (state : State) (property : Property) → cell_of cells node state property ≡ None) → (node : ℕ) (state : State) (property : Property) → cell_of (marked_cells nodes marks cells) node state property ≡ None
cell-empty nodes marks cells empty node state property = cell-marked nodes marks cells node state property ∙ ap (value_if (has_mark marks (mark_place nodes node state property))) (empty node state property) ∙ value_if-none (has_mark marks (mark_place nodes node state property))

-- what is read where the mark is set, and where it isn't
pub cell-set : (nodes : ℕ) (marks : List Bool) (cells : List (Option StyleValue)) (node : ℕ) (state : State) (property : Property) (place : ℕ) → place ≡ mark_place nodes node state property → has_mark marks place ≡ true → cell_of cells node state property ≡ cell_of (marked_cells nodes marks cells) node state property
cell-set nodes marks cells node state property place is h = sym (cell-marked nodes marks cells node state property ∙ ap (λ (k : ℕ). value_if (has_mark marks k) (cell_of cells node state property)) (sym is) ∙ ap (λ (b : Bool). value_if b (cell_of cells node state property)) h)

pub cell-unset : (nodes : ℕ) (marks : List Bool) (cells : List (Option StyleValue)) (node : ℕ) (state : State) (property : Property) (place : ℕ) → place ≡ mark_place nodes node state property → has_mark marks place ≡ false → None ≡ cell_of (marked_cells nodes marks cells) node state property
cell-unset nodes marks cells node state property place is h = sym (cell-marked nodes marks cells node state property ∙ ap (λ (k : ℕ). value_if (has_mark marks k) (cell_of cells node state property)) (sym is) ∙ ap (λ (b : Bool). value_if b (cell_of cells node state property)) h)

-- ---- one value more

pub marked-put : (nodes : ℕ) (marks : List Bool) (cells : List (Option StyleValue)) (node : ℕ) (state : State) (property : Property) (value : StyleValue) → AreMarked nodes marks cells → 51 * node + 51 ≤ length cells → marked_cells nodes (slice_set marks (mark_place nodes node state property) true) (slice_set cells (cell_place node state property) (Some value)) ≡ slice_set (marked_cells nodes marks cells) (cell_place node state property) (Some value)
marked-put nodes marks cells node state property value room h =
    same_lists new_cells put_cells (long ∙ sym (length-set (marked_cells nodes marks cells) place (Some value) ∙ length-marked nodes marks 0 cells))
    (λ k d low. by k d (omega (arith, low, long)) (cases_eq k place))
  where
    place : ℕ
    place = cell_place node state property

    mark : ℕ
    mark = mark_place nodes node state property

    within : place < length cells
    within = omega (arith, h, cell_place-within node state property)

    has_room : mark < length marks
    has_room = omega (arith, mark-short nodes node state property, h, room.cell_count, room.mark_count)

    new_cells : List (Option StyleValue)
    new_cells = marked_cells nodes (slice_set marks mark true) (slice_set cells place (Some value))

    put_cells : List (Option StyleValue)
    put_cells = slice_set (marked_cells nodes marks cells) place (Some value)

    long : length new_cells ≡ length cells
    long = length-marked nodes (slice_set marks mark true) 0 (slice_set cells place (Some value)) ∙ length-set cells place (Some value)

    read : (k : ℕ) (d : Option StyleValue) → k < length cells → get_or new_cells k d ≡ value_if (has_mark (slice_set marks mark true) (mark_of nodes k)) (get_or (slice_set cells place (Some value)) k d)
    read k d low =
        let same : 0 + k ≡ k = omega arith in
        get_or-marked nodes (slice_set marks mark true) 0 (slice_set cells place (Some value)) k d (omega (arith, low, length-set cells place (Some value)))
        ∙ ap (λ (n : ℕ). value_if (has_mark (slice_set marks mark true) (mark_of nodes n)) (get_or (slice_set cells place (Some value)) k d)) same

    here : (d : Option StyleValue) → get_or new_cells place d ≡ get_or put_cells place d
    here d =
        read place d within
        ∙ ap (λ (n : ℕ). value_if (has_mark (slice_set marks mark true) n) (get_or (slice_set cells place (Some value)) place d)) (mark-cell nodes node state property)
        ∙ ap (λ (b : Bool). value_if b (get_or (slice_set cells place (Some value)) place d)) (get_or-set_same marks mark true false has_room)
        ∙ get_or-set_same cells place (Some value) d within
        ∙ sym (get_or-set_same (marked_cells nodes marks cells) place (Some value) d (omega (arith, within, length-marked nodes marks 0 cells)))

    by : (k : ℕ) (d : Option StyleValue) → k < length cells → (k ≡ place) ⊎ (k ≢ place) → get_or new_cells k d ≡ get_or put_cells k d
    by k d low (inl same) = subst (λ (n : ℕ). get_or new_cells n d ≡ get_or put_cells n d) (sym same) (here d)
    by k d low (inr ne) =
        let apart : mark_of nodes k ≢ mark = λ e. ne (mark-one nodes k place (omega (arith, low, room.cell_count)) (omega (arith, within, room.cell_count)) (e ∙ sym (mark-cell nodes node state property))) in
        let same : 0 + k ≡ k = omega arith in
        read k d low
        ∙ ap (λ (b : Bool). value_if b (get_or (slice_set cells place (Some value)) k d)) (get_or-set_other marks mark (mark_of nodes k) true false apart)
        ∙ ap (value_if (has_mark marks (mark_of nodes k))) (get_or-set_other cells place k (Some value) d ne)
        ∙ sym (ap (λ (n : ℕ). value_if (has_mark marks (mark_of nodes n)) (get_or cells k d)) same)
        ∙ sym (get_or-marked nodes marks 0 cells k d low)
        ∙ sym (get_or-set_other (marked_cells nodes marks cells) place k (Some value) d ne)

-- ---- fewer

-- of cells past the end nothing is kept
cell-past : (cells : List (Option StyleValue)) (node : ℕ) (state : State) (property : Property) → length cells ≤ 51 * node → cell_of cells node state property ≡ None
unfolding cell_of
cell-past cells node state property h = ap option_flatten (slice_get_past cells (cell_place node state property) (omega (arith, h, cell-row node state property)))

-- where no mark of the nodes in question changes, no cell does
same-mark : (nodes : ℕ) (old new : List Bool) (cells : List (Option StyleValue)) (node : ℕ) (state : State) (property : Property) → has_mark new (mark_place nodes node state property) ≡ has_mark old (mark_place nodes node state property) → cell_of (marked_cells nodes new cells) node state property ≡ cell_of (marked_cells nodes old cells) node state property
same-mark nodes old new cells node state property e = cell-marked nodes new cells node state property ∙ ap (λ (b : Bool). value_if b (cell_of cells node state property)) e ∙ sym (cell-marked nodes old cells node state property)

-- a mark between those of two nodes in a column is one of that column
in-column : (nodes first last node : ℕ) (state at : State) (property of : Property) → node < nodes → last ≤ nodes → mark_place nodes first state property ≤ mark_place nodes node at of → mark_place nodes node at of < mark_place nodes first state property + (last - first) → first < last → (at ≡ state) × (of ≡ property) × (first ≤ node) × (node < last)
unfolding mark_place
in-column nodes first last node state at property of within room low high order =
    let start : ℕ = cell_place 0 state property * nodes in
    let here : ℕ = cell_place 0 at of * nodes in
    let found : here + node ≡ start + (here + node - start) = omega (arith, low) in
    let parts = columns-apart nodes (cell_place 0 at of) (cell_place 0 state property) node (here + node - start) within (omega (arith, low, high, room, order)) found in
    let same = cell_place-one 0 0 at state of property parts.0 in
    (same.1, same.2, omega (arith, parts.1, low, high, order), omega (arith, parts.1, low, high, order))

marked-past : (nodes : ℕ) (marks : List Bool) (cells : List (Option StyleValue)) (node : ℕ) (state : State) (property : Property) → length cells ≤ 51 * node → cell_of (marked_cells nodes marks cells) node state property ≡ None
marked-past nodes marks cells node state property h = cell-past (marked_cells nodes marks cells) node state property (omega (arith, h, length-marked nodes marks 0 cells))

mark-range : (nodes first last node : ℕ) (state : State) (property : Property) → first ≤ node → node < last → (mark_place nodes first state property ≤ mark_place nodes node state property) × (mark_place nodes node state property < mark_place nodes first state property + (last - first))
unfolding mark_place
mark-range nodes first last node state property low high = (omega (arith, low), omega (arith, low, high))

pub forgets-in : (nodes : ℕ) (old new : List Bool) (cells : List (Option StyleValue)) (state : State) (property : Property) (first end last : ℕ) → length cells ≡ 51 * nodes → last ≡ min end nodes → first < last → Unmarks old new (mark_place nodes first state property) (mark_place nodes first state property + (last - first)) → ForgetsIn (marked_cells nodes old cells) (marked_cells nodes new cells) state property first end
forgets-in nodes old new cells state property first end last room is order u =
    record {
      long = length-marked nodes new 0 cells ∙ sym (length-marked nodes old 0 cells);
      inside = λ node low high. inside node low high (cases_lt node nodes);
      others = λ node at of out. others node at of out (cases_lt node nodes);
    }
  where
    inside : (node : ℕ) → first ≤ node → node < end → (node < nodes) ⊎ (nodes ≤ node) → cell_of (marked_cells nodes new cells) node state property ≡ None
    inside node low high (inl within) =
        let range = mark-range nodes first last node state property low (omega (arith, within, high, is)) in
        sym (cell-unset nodes new cells node state property (mark_place nodes node state property) refl (u.inside (mark_place nodes node state property) range.0 range.1))
    inside node low high (inr past) = marked-past nodes new cells node state property (omega (arith, past, room))

    others : (node : ℕ) (at : State) (of : Property) → ((at ≡ state) × (of ≡ property) × (first ≤ node) × (node < end) → ⊥) → (node < nodes) ⊎ (nodes ≤ node) → cell_of (marked_cells nodes new cells) node at of ≡ cell_of (marked_cells nodes old cells) node at of
    others node at of out (inl within) =
        same-mark nodes old new cells node at of (u.outside (mark_place nodes node at of) (λ range.
        let found = in-column nodes first last node state at property of within (omega (arith, is)) range.0 range.1 order in
        out (found.0, found.1, found.2, omega (arith, found.3, is))))
    others node at of out (inr past) = marked-past nodes new cells node at of (omega (arith, past, room)) ∙ sym (marked-past nodes old cells node at of (omega (arith, past, room)))

pub forgets-none : (nodes : ℕ) (marks : List Bool) (cells : List (Option StyleValue)) (state : State) (property : Property) (first end last : ℕ) → length cells ≡ 51 * nodes → last ≡ min end nodes → last ≤ first → ForgetsIn (marked_cells nodes marks cells) (marked_cells nodes marks cells) state property first end
forgets-none nodes marks cells state property first end last room is order =
    record {
      long = refl;
      inside = λ node low high. marked-past nodes marks cells node state property (omega (arith, room, is, order, low, high));
      others = λ node at of out. refl;
    }
