-- What a frame more, a frame less and a change of the last frame make of the lists that hold all frames.
use Rattle.std.proofs.Common.{◌≡◌, ◌∙◌, ◌+◌, ◌-◌, ◌<◌, ◌≤◌, ℕ, suc, List, [], ◌∷◌, ◌++◌, length, take, drop, ap, sym, subst, refl, arith}
use Rattle.std.specs.Prelude.{Option, Some, None, reverse, slice_get, slice_set, IsSome}
use Rattle.std.specs.Option.{option_to_list}
use Rattle.std.proofs.lemmas.List.{reverse-append, length-append, take_at, drop_at, take_all, drop_all, take_more, take-append-le, drop-append-le, drop-set-add}
use Rattle.std.proofs.lemmas.Option.{slice_get_within, get_or_from_slice_get, slice_get-get_or, none-some}
use Rattle.es_values.specs.declared.values.Value.{Value}
use Rattle.es_frames.specs.declared.control_stack.Mark.{Mark}
use Rattle.es_frames.specs.Depth.{most_calls}
use Rattle.es_frames.specs.Frames.{next_item, with_item, with_value, with_value_in, without_item}
use Rattle.es_frames.specs.Nested.{AreNested, IsStack, IsWithin, frames_in}

-- the last element is the first of the reversed list
pub reverse-push : {X : Type 0} (xs : List X) (x : X) → reverse (xs ++ x ∷ []) ≡ x ∷ reverse xs
reverse-push xs x = reverse-append xs (x ∷ [])

pub push-from_last : {X : Type 0} (xs : List X) (x : X) → slice_get xs (length xs - 1) ≡ Some x → xs ≡ take (length xs - 1) xs ++ x ∷ []
push-from_last xs x h =
    let inside : length xs - 1 < length xs = slice_get_within xs (length xs - 1) x h in
    let whole : length xs - 1 + 1 ≡ length xs = omega arith in
    sym (take_all (length xs) xs (omega arith))
    ∙ (ap (λ n. take n xs) (sym whole)
    ∙ (take_more xs (length xs - 1) x inside ∙ ap (λ y. take (length xs - 1) xs ++ y ∷ []) (get_or_from_slice_get xs (length xs - 1) x x h)))

pub reverse-from_last : {X : Type 0} (xs : List X) (x : X) → slice_get xs (length xs - 1) ≡ Some x → reverse xs ≡ x ∷ reverse (take (length xs - 1) xs)
reverse-from_last xs x h = ap reverse (push-from_last xs x h) ∙ reverse-push (take (length xs - 1) xs) x

pub nothing-from_last : {X : Type 0} (xs : List X) → slice_get xs (length xs - 1) ≡ None → xs ≡ []
nothing-from_last [] h = refl
nothing-from_last (x ∷ xs) h =
    let all : List _ = x ∷ xs in
    let at_last : slice_get all (length all - 1) ≡ Some _ = slice_get-get_or all (length all - 1) x (omega arith) in
    absurd (none-some _ (sym h ∙ at_last))

pub length-frames : {W : Type 0} (marks : List Mark) (values : List Value) (items : List W) → length (frames_in marks values items) ≡ length marks
length-frames [] values items = refl
length-frames (mark ∷ below) values items = ap suc (length-frames below (take mark.first_value values) (take mark.first_item items))

-- a frame more
pub frames-push : {W : Type 0} (marks : List Mark) (mark : Mark) (values new : List Value) (items : List W) → mark.first_value ≡ length values → mark.first_item ≡ length items → frames_in (reverse (marks ++ mark ∷ [])) (values ++ new) items ≡ record { this = mark.this; values = new; items = [] } ∷ frames_in (reverse marks) values items
frames-push marks mark values new items e f =
    let behind = drop_at values new mark.first_value (sym e) in
    let front = take_at values new mark.first_value (sym e) in
    let none = drop_all mark.first_item items (omega (arith, f)) in
    let all = take_all mark.first_item items (omega (arith, f)) in
    rw (reverse-push marks mark, behind, front, none, all)

pub stack-push : {W : Type 0} (marks marks' : List Mark) (mark : Mark) (values new values' : List Value) (items : List W) → IsStack marks values items → mark.first_value ≡ length values → mark.first_item ≡ length items → length marks ≤ most_calls → marks' ≡ marks ++ mark ∷ [] → values' ≡ values ++ new → IsStack marks' values' items
stack-push marks marks' mark values new values' items stack e f shallow pushed added =
    let longer : length values' ≡ length values + length new = ap length added ∙ length-append values new in
    let deeper : length marks' ≡ length marks + 1 = ap length pushed ∙ length-append marks (mark ∷ []) in
    let top : IsWithin mark (length values') (length items) = record { value = omega arith; item = omega arith } in
    let rest : AreNested (reverse marks) mark.first_value mark.first_item = rw (e, f) stack.nested in
    record {
      nested = rw (pushed, reverse-push marks mark) (top, rest);
      depth = omega arith;
    }

-- an item more
pub frames-put : {W : Type 0} (marks : List Mark) (values : List Value) (items : List W) (item : W) → AreNested marks (length values) (length items) → frames_in marks values (items ++ item ∷ []) ≡ with_item (frames_in marks values items) item
frames-put [] values items item nested = refl
frames-put (mark ∷ below) values items item nested =
    let behind = drop-append-le mark.first_item items (item ∷ []) nested.0.item in
    let front = take-append-le mark.first_item items (item ∷ []) nested.0.item in
    rw (behind, front, reverse-push (drop mark.first_item items) item)

pub nested-put : (marks : List Mark) (values items : ℕ) → AreNested marks values items → AreNested marks values (items + 1)
nested-put [] values items nested = tt
nested-put (mark ∷ below) values items nested =
    (record { value = nested.0.value; item = omega (arith, nested.0.item) }, nested.1)

-- an item less
pub frames-take : {W : Type 0} (mark : Mark) (below : List Mark) (values : List Value) (items : List W) (item : W) → AreNested (mark ∷ below) (length values) (length items) → frames_in (mark ∷ below) values items ≡ without_item (frames_in (mark ∷ below) values (items ++ item ∷ []))
frames-take mark below values items item nested = sym (ap without_item (frames-put (mark ∷ below) values items item nested))

pub next-frames : {W : Type 0} (mark : Mark) (below : List Mark) (values : List Value) (items : List W) (item : W) → AreNested (mark ∷ below) (length values) (length items) → next_item (frames_in (mark ∷ below) values (items ++ item ∷ [])) ≡ Some item
next-frames mark below values items item nested = ap next_item (frames-put (mark ∷ below) values items item nested)

-- no item of the last frame
pub frames-no_item : {W : Type 0} (mark : Mark) (below : List Mark) (values : List Value) (items : List W) → length items ≤ mark.first_item → frames_in (mark ∷ below) values items ≡ without_item (frames_in (mark ∷ below) values items)
frames-no_item mark below values items h = let none = drop_all mark.first_item items h in rw none

pub next-no_item : {W : Type 0} (mark : Mark) (below : List Mark) (values : List Value) (items : List W) → length items ≤ mark.first_item → next_item (frames_in (mark ∷ below) values items) ≡ None
next-no_item mark below values items h = let none = drop_all mark.first_item items h in rw none

-- another value in the last frame
pub frames-set : {W : Type 0} (mark : Mark) (below : List Mark) (old new : List Value) (items : List W) (place : ℕ) (value : Value) → take mark.first_value new ≡ take mark.first_value old → drop mark.first_value new ≡ with_value_in (drop mark.first_value old) place value → frames_in (mark ∷ below) new items ≡ with_value (frames_in (mark ∷ below) old items) place value
frames-set mark below old new items place value front behind = rw (front, behind)

-- the item that is taken off the end, where one of the last frame is there
pub frames-taken : {W : Type 0} (marks : List Mark) (mark : Mark) (below : List Mark) (values : List Value) (items rest : List W) (taken : Option W) → reverse marks ≡ mark ∷ below → items ≡ rest ++ option_to_list taken → IsSome taken → mark.first_item < length items → AreNested (reverse marks) (length values) (length items)
    → (taken ≡ next_item (frames_in (reverse marks) values items)) × (frames_in (reverse marks) values rest ≡ without_item (frames_in (reverse marks) values items))
frames-taken marks mark below values items rest None e pushed some inside nested = absurd (cc)
frames-taken marks mark below values items rest (Some item) e pushed some inside nested =
    let longer : length items ≡ length rest + 1 = ap length pushed ∙ length-append rest (item ∷ []) in
    let at : AreNested (mark ∷ below) (length values) (length items) = subst (λ ms. AreNested ms (length values) (length items)) e nested in
    let shorter : AreNested (mark ∷ below) (length values) (length rest) = (record { value = at.0.value; item = omega arith }, at.1) in
    rw (e, pushed) (sym (next-frames mark below values rest item shorter), frames-take mark below values rest item shorter)

-- a place behind the first of a frame with another value
pub set-behind : (values : List Value) (first place : ℕ) (value : Value) → drop first (slice_set values (first + place) value) ≡ with_value_in (drop first values) place value
set-behind values first place value = drop-set-add first values place value
