-- The needs of a document, node by node.
use Rattle.std.proofs.Common.{◌≡◌, ℕ, ◌+◌, ◌<◌, ◌≤◌, Bool, true, false, List, [], ◌∷◌, ◌++◌, length, take, Option, Some, None, option_to_list, refl, sym, ap, ◌∙◌, zero, suc, add-one, add-zero, append-nil, arith}
use Rattle.std.specs.Prelude.{option_and_then, slice_get, if◌then◌else◌}
use Rattle.std.specs.List.{cons_option, filter_map}
use Rattle.std.specs.Option.{is_some}
use Rattle.std.proofs.lemmas.List.Elements.{filter_map-append}
use Rattle.dom_tree.specs.Items.{Item}
use Rattle.multipart_entities.specs.declared.paths.Path.{Path}
use Rattle.dom_tree.specs.Walks.{places_from}
use Rattle.document_load.specs.Needs.{need_in, named_by, needs_of}
use Rattle.document_load.specs.GiftViews.{AscendsFrom}

pub needs_of-none : (base : Path) → needs_of base [] ≡ []
unfolding needs_of
needs_of-none base = refl

pub needs_of-one : (base : Path) (item : Item) → needs_of base (item ∷ []) ≡ option_to_list (need_in base item)
unfolding needs_of
needs_of-one base item = one (need_in base item)
  where
    one : (o : Option Path) → cons_option o [] ≡ option_to_list o
    one None = refl
    one (Some need) = refl

pub needs_of-order : (base : Path) (before behind : List Item) → needs_of base (before ++ behind) ≡ needs_of base before ++ needs_of base behind
unfolding needs_of
needs_of-order base before behind = filter_map-append (need_in base) before behind

-- ---- one node more

item_at : (items : List Item) (place : ℕ) → place < length items → (item : Item) × (slice_get items place ≡ Some item)
item_at [] place h = absurd (omega arith)
item_at (item ∷ items) zero h = (item, refl)
item_at (item ∷ items) (suc place) h = item_at items place (omega arith)

take_one_more : (items : List Item) (place : ℕ) (item : Item) → slice_get items place ≡ Some item → take (place + 1) items ≡ take place items ++ item ∷ []
take_one_more [] place item e = absurd (cc e)
take_one_more (first ∷ items) zero item e = let same : first ≡ item = cc in ap (λ z. z ∷ []) same
take_one_more (first ∷ items) (suc place) item e = rw (add-one) (ap (λ z. first ∷ z) (sym (rw (add-one) refl) ∙ take_one_more items place item e))

needs_at : (base : Path) (items : List Item) (place : ℕ) (item : Item) → slice_get items place ≡ Some item → needs_of base (take (place + 1) items) ≡ needs_of base (take place items) ++ option_to_list (need_in base item)
needs_at base items place item e =
    ap (needs_of base) (take_one_more items place item e)
    ∙ (needs_of-order base (take place items) (item ∷ []) ∙ ap (λ (needs : List Path). needs_of base (take place items) ++ needs) (needs_of-one base item))

more : (base : Path) (items : List Item) (place : ℕ) (needs : List Path) (o : Option Path) → place < length items → needs ≡ needs_of base (take place items) → o ≡ option_and_then (need_in base) (slice_get items place) → needs ++ option_to_list o ≡ needs_of base (take (place + 1) items)
more base items place needs o within so_far is =
    let here = item_at items place within in
    let same : o ≡ need_in base here.0 = is ∙ ap (option_and_then (need_in base)) here.1 in
    rw (same, so_far) (sym (needs_at base items place here.0 here.1))

pub more_some : (base : Path) (items : List Item) (place : ℕ) (needs : List Path) (need : Path) → place < length items → needs ≡ needs_of base (take place items) → Some need ≡ option_and_then (need_in base) (slice_get items place) → needs ++ need ∷ [] ≡ needs_of base (take (place + 1) items)
more_some base items place needs need within so_far is = more base items place needs (Some need) within so_far is

pub more_none : (base : Path) (items : List Item) (place : ℕ) (needs : List Path) → place < length items → needs ≡ needs_of base (take place items) → None ≡ option_and_then (need_in base) (slice_get items place) → needs ≡ needs_of base (take (place + 1) items)
more_none base items place needs within so_far is = sym (append-nil needs) ∙ more base items place needs None within so_far is

-- ---- the nodes that name them

pub named_by-none : (base : Path) → named_by base [] ≡ []
unfolding named_by
named_by-none base = refl

abbrev names : Path → Item → Bool
names base item = is_some (need_in base item)

pub places_from-append : {A : Type 0} (test : A → Bool) (place : ℕ) (xs ys : List A) → places_from test place (xs ++ ys) ≡ places_from test place xs ++ places_from test (place + length xs) ys
places_from-append test place [] ys = ap (λ (p : ℕ). places_from test p ys) (sym (add-zero place))
places_from-append test place (x ∷ xs) ys =
    let shift : place + 1 + length xs ≡ place + suc (length xs) = omega arith in
    one (test x) place _ _ _ (places_from-append test (place + 1) xs ys ∙ ap (λ (p : ℕ). places_from test (place + 1) xs ++ places_from test p ys) shift)
  where
    one : (b : Bool) (place : ℕ) (all front behind : List ℕ) → all ≡ front ++ behind → (if b then place ∷ all else all) ≡ (if b then place ∷ front else front) ++ behind
    one true place all front behind e = ap (λ l. place ∷ l) e
    one false place all front behind e = e

length-take-of_some : (items : List Item) (place : ℕ) (item : Item) → slice_get items place ≡ Some item → length (take place items) ≡ place
length-take-of_some [] place item e = absurd (cc e)
length-take-of_some (first ∷ items) zero item e = refl
length-take-of_some (first ∷ items) (suc place) item e = ap suc (length-take-of_some items place item e)

named_at : (base : Path) (items : List Item) (place : ℕ) (item : Item) → slice_get items place ≡ Some item → named_by base (take (place + 1) items) ≡ named_by base (take place items) ++ (if names base item then place ∷ [] else [])
unfolding named_by
named_at base items place item e =
    let taken = length-take-of_some items place item e in
    let end : 0 + length (take place items) ≡ place = omega (arith, taken) in
    ap (places_from (names base) 0) (take_one_more items place item e)
    ∙ (places_from-append (names base) 0 (take place items) (item ∷ []) ∙ ap (λ (p : ℕ). places_from (names base) 0 (take place items) ++ places_from (names base) p (item ∷ [])) end)

named_more : (base : Path) (items : List Item) (place : ℕ) (named : List ℕ) (o : Option Path) → place < length items → named ≡ named_by base (take place items) → o ≡ option_and_then (need_in base) (slice_get items place) → named ++ (if is_some o then place ∷ [] else []) ≡ named_by base (take (place + 1) items)
named_more base items place named o within so_far is =
    let here = item_at items place within in
    let same : o ≡ need_in base here.0 = is ∙ ap (option_and_then (need_in base)) here.1 in
    rw (same, so_far) (sym (named_at base items place here.0 here.1))

pub named_more_some : (base : Path) (items : List Item) (place : ℕ) (named : List ℕ) (need : Path) → place < length items → named ≡ named_by base (take place items) → Some need ≡ option_and_then (need_in base) (slice_get items place) → named ++ place ∷ [] ≡ named_by base (take (place + 1) items)
named_more_some base items place named need within so_far is = named_more base items place named (Some need) within so_far is

pub named_more_none : (base : Path) (items : List Item) (place : ℕ) (named : List ℕ) → place < length items → named ≡ named_by base (take place items) → None ≡ option_and_then (need_in base) (slice_get items place) → named ≡ named_by base (take (place + 1) items)
named_more_none base items place named within so_far is = sym (append-nil named) ∙ named_more base items place named None within so_far is

pub named_by-more : (base : Path) (before : List Item) (item : Item) → named_by base (before ++ item ∷ []) ≡ named_by base before ++ (if names base item then length before ∷ [] else [])
unfolding named_by
named_by-more base before item =
    let end : 0 + length before ≡ length before = omega arith in
    places_from-append (names base) 0 before (item ∷ []) ∙ ap (λ (p : ℕ). places_from (names base) 0 before ++ places_from (names base) p (item ∷ [])) end

-- each need is named by one node

same_count : (base : Path) (place : ℕ) (items : List Item) → length (places_from (names base) place items) ≡ length (filter_map (need_in base) items)
same_count base place [] = refl
same_count base place (item ∷ items) = one (need_in base item) place _ _ (same_count base (place + 1) items)
  where
    one : (o : Option Path) (place : ℕ) (named : List ℕ) (needs : List Path) → length named ≡ length needs → length (if is_some o then place ∷ named else named) ≡ length (cons_option o needs)
    one None place named needs e = e
    one (Some need) place named needs e = ap suc e

pub length-named_by : (base : Path) (items : List Item) → length (named_by base items) ≡ length (needs_of base items)
unfolding named_by needs_of
length-named_by base items = same_count base 0 items

AscendsFrom-lower : (low high : ℕ) (numbers : List ℕ) → low ≤ high → AscendsFrom high numbers → AscendsFrom low numbers
AscendsFrom-lower low high [] h a = tt
AscendsFrom-lower low high (number ∷ numbers) h a = (omega (arith, a.0), a.1)

AscendsFrom-places : {A : Type 0} (test : A → Bool) (place : ℕ) (xs : List A) → AscendsFrom place (places_from test place xs)
AscendsFrom-places test place [] = tt
AscendsFrom-places test place (x ∷ xs) = one (test x) place _ (AscendsFrom-places test (place + 1) xs)
  where
    one : (b : Bool) (place : ℕ) (numbers : List ℕ) → AscendsFrom (place + 1) numbers → AscendsFrom place (if b then place ∷ numbers else numbers)
    one true place numbers a = (omega arith, a)
    one false place numbers a = AscendsFrom-lower place (place + 1) numbers (omega arith) a

pub AscendsFrom-named_by : (base : Path) (items : List Item) → AscendsFrom 0 (named_by base items)
unfolding named_by
AscendsFrom-named_by base items = AscendsFrom-places (names base) 0 items
