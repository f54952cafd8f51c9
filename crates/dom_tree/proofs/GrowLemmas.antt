-- A tree with one node more, the last child of an element.
use Rattle.std.proofs.Common.{◌≡◌, ◌≢◌, ℕ, zero, suc, ◌+◌, ◌-◌, ◌<◌, ◌≤◌, Bool, true, false, cond, nat_eq, List, [], ◌∷◌, ◌++◌, length, take, Option, Some, None, ◌⊎◌, inl, inr, refl, sym, ◌∙◌, ap, subst, arith, add-one, length-append}
use Rattle.std.specs.Prelude.{slice_get, option_map, option_and_then, unwrap_or, Contains, IsSome, IsSomeAnd}
use Rattle.std.specs.Option.{option_map_or, option_eq}
use Rattle.std.proofs.lemmas.List.{append-nil, take-append-le}
use Rattle.std.proofs.lemmas.Bool.{cases_eq, eq-eqb, eqb-true}
use Rattle.dom_tree.specs.Items.{Item, Content, tag_in, parent_of, tag_of, IsElement, changed_at}
use Rattle.dom_tree.specs.Walks.{places, first, last, after, before, hangs_in, children_of, siblings_of, path_within, path_of, most_nodes, IsOpen, IsTree, Extends}
use Rattle.dom_tree.specs.Links.{Links, links_at, AreLinked, with_last_child, with_next_sibling, hung_last}
use Rattle.dom_tree.proofs.PlaceLemmas.{slice_get-append, slice_get-append-last, slice_get-some, slice_get-changed_at-each, places_from-append, In, In-last, In-places_from, IsPlace, IsPlace-from, Ascends, Ascends-places_from, empty-In, eqb_false, eqb-same, first-append, last-append, after-last, after-append, after-new, before-append, before-new}
use Rattle.dom_tree.proofs.PathLemmas.{Falls, path_within-of, Contains-behind, Contains-here, parent_of-within}
use Rattle.dom_tree.proofs.ShapeLemmas.{IsSomeAnd-map}
use Rattle.std.proofs.Math.Seq.{take-length}

-- the tree with one node more in an element
abbrev pub grown : List Item → ℕ → Content → List Item
grown items up content = items ++ record { parent = Some up; content = content } ∷ []

parent_of-grown : (items : List Item) (up : ℕ) (content : Content) (n : ℕ) → n < length items → parent_of (grown items up content) n ≡ parent_of items n
parent_of-grown items up content n h = ap (λ o. option_and_then (λ i. i.parent) o) (slice_get-append items (record { parent = Some up; content = content } ∷ []) n h)

parent_of-grown-new : (items : List Item) (up : ℕ) (content : Content) → parent_of (grown items up content) (length items) ≡ Some up
parent_of-grown-new items up content = ap (λ o. option_and_then (λ i. i.parent) o) (slice_get-append-last items (record { parent = Some up; content = content }))

-- Children and siblings

places-grown : (items : List Item) (up : ℕ) (content : Content) (where_it_hangs : Option ℕ) → places (hangs_in where_it_hangs) (grown items up content) ≡ places (hangs_in where_it_hangs) items ++ cond (option_eq nat_eq (Some up) where_it_hangs) (length items ∷ []) []
places-grown items up content o =
    let e : 0 + length items ≡ length items = omega arith in
    subst (λ k. places (hangs_in o) (grown items up content) ≡ places (hangs_in o) items ++ cond (option_eq nat_eq (Some up) o) (k ∷ []) []) e
    (places_from-append (hangs_in o) 0 items (record { parent = Some up; content = content }))

option_eq-some : (o : Option ℕ) (n : ℕ) → option_eq nat_eq o (Some n) ≡ true → o ≡ Some n
option_eq-some None n e = absurd (cc e)
option_eq-some (Some k) n e = ap Some (eqb-true k n e)

-- what hangs in a node is in the tree, behind that node
pub parent_of-place : (items : List Item) (o : Option ℕ) (n : ℕ) → In (places (hangs_in o) items) n → (i : Item) × (slice_get items n ≡ Some i) × (option_eq nat_eq i.parent o ≡ true)
parent_of-place items o n h =
    let p : IsPlace (hangs_in o) 0 items n = IsPlace-from (hangs_in o) 0 items n h in
    let e : p.index ≡ n = omega (arith, p.is) in
    (p.element, ap (slice_get items) (sym e) ∙ p.got, p.passes)

pub parent_of-child : (items : List Item) (up n : ℕ) → In (children_of items up) n → parent_of items n ≡ Some up
parent_of-child items up n h =
    let p = parent_of-place items (Some up) n h in
    ap (λ o. option_and_then (λ i. i.parent) o) p.1 ∙ option_eq-some p.0.parent up p.2

child-within : (items : List Item) (up n : ℕ) → In (children_of items up) n → n < length items
child-within items up n h = parent_of-within items n up (parent_of-child items up n h)

-- the last child is a node of the tree
pub last-child-within : (items : List Item) (up n : ℕ) → last (children_of items up) ≡ Some n → n < length items
last-child-within items up n h = child-within items up n (In-last (children_of items up) n h)

not-child : (items : List Item) (up : ℕ) → In (children_of items up) (length items) → ⊥
not-child items up h = omega (arith, child-within items up (length items) h)

children_of-new : (items : List Item) → Falls items → children_of items (length items) ≡ []
children_of-new items f = empty-In (children_of items (length items)) (λ n h. let up : parent_of items n ≡ Some (length items) = parent_of-child items (length items) n h in omega (arith, f.falls n (length items) up, parent_of-within items n (length items) up))

-- The links of the old nodes

links : Option ℕ → Option ℕ → Option ℕ → Option ℕ → Links
links a b c d = record { first_child = a; last_child = b; next_sibling = c; previous_sibling = d }

links-same : (a b c d a' b' c' d' : Option ℕ) → a ≡ a' → b ≡ b' → c ≡ c' → d ≡ d' → links a b c d ≡ links a' b' c' d'
links-same a b c d a' b' c' d' p q r s = ap (λ w. links w b c d) p ∙ (ap (λ w. links a' w c d) q ∙ (ap (λ w. links a' b' w d) r ∙ ap (λ w. links a' b' c' w) s))

first-grown : (c : List ℕ) (m : ℕ) (b : Bool) → first (c ++ cond b (m ∷ []) []) ≡ cond b (Some (unwrap_or (first c) m)) (first c)
first-grown c m true = first-append c m
first-grown c m false = ap first (append-nil c)

last-grown : (c : List ℕ) (m : ℕ) (b : Bool) → last (c ++ cond b (m ∷ []) []) ≡ cond b (Some m) (last c)
last-grown c m true = last-append c m
last-grown c m false = ap last (append-nil c)

-- whom a sibling is followed by, where the new one is its sibling too
after-sibling : (c : List ℕ) (n m : ℕ) → Ascends 0 c → In c n → after (c ++ m ∷ []) n ≡ cond (option_eq nat_eq (last c) (Some n)) (Some m) (after c n)
after-sibling c n m a h = by (last c) refl
  where
    by : (o : Option ℕ) → last c ≡ o → after (c ++ m ∷ []) n ≡ cond (option_eq nat_eq (last c) (Some n)) (Some m) (after c n)
    by None e = rw e (after-append c n m h (λ k. let bad : None ≡ Some n = sym e ∙ k in cc bad))
    by (Some l) e = by_place l e (cases_eq l n)
      where
        by_place : (l : ℕ) → last c ≡ Some l → (l ≡ n) ⊎ (l ≡ n → ⊥) → after (c ++ m ∷ []) n ≡ cond (option_eq nat_eq (last c) (Some n)) (Some m) (after c n)
        by_place l e (inl same) = rw (e, eq-eqb l n same) (after-last 0 c n m a (e ∙ ap Some same))
        by_place l e (inr ne) = rw (e, eqb_false l n ne) (after-append c n m h (λ k. ne (let both : Some l ≡ Some n = sym e ∙ k in cc both)))

option_eq-same : (o : Option ℕ) → option_eq nat_eq o o ≡ true
option_eq-same None = refl
option_eq-same (Some n) = eqb-same n

-- a node is among its siblings
sibling : (items : List Item) (n : ℕ) → n < length items → In (siblings_of items n) n
sibling items n h =
    let here = slice_get-some items n h in
    let up : parent_of items n ≡ here.0.parent = ap (λ o. option_and_then (λ i. i.parent) o) here.1 in
    let e : 0 + n ≡ n = omega arith in
    subst (λ k. In (siblings_of items n) k) e (In-places_from (hangs_in (parent_of items n)) 0 items n here.0 here.1 (rw up (option_eq-same here.0.parent)))

-- the new one's sibling before it, and all others
next-here : (items : List Item) (up n : ℕ) → n < length items → parent_of items n ≡ Some up → after (children_of items up ++ length items ∷ []) n ≡ cond (option_eq nat_eq (last (children_of items up)) (Some n)) (Some (length items)) (after (children_of items up) n)
next-here items up n h e = after-sibling (children_of items up) n (length items) (Ascends-places_from (hangs_in (Some up)) 0 items) (subst (λ o. In (places (hangs_in o) items) n) e (sibling items n h))

option_eq-from : (up : ℕ) (o : Option ℕ) → option_eq nat_eq (Some up) o ≡ true → Some up ≡ o
option_eq-from up None e = absurd (cc e)
option_eq-from up (Some k) e = ap Some (eqb-true up k e)

option_eq-to : (up : ℕ) (o : Option ℕ) → o ≡ Some up → option_eq nat_eq (Some up) o ≡ true
option_eq-to up o e = rw e (eqb-same up)

not-last : (items : List Item) (up n : ℕ) → option_eq nat_eq (Some up) (parent_of items n) ≡ false → option_eq nat_eq (last (children_of items up)) (Some n) ≡ false
not-last items up n h = by (option_eq nat_eq (last (children_of items up)) (Some n)) refl
  where
    by : (b : Bool) → option_eq nat_eq (last (children_of items up)) (Some n) ≡ b → b ≡ false
    by true e =
        let is : last (children_of items up) ≡ Some n = option_eq-some (last (children_of items up)) n e in
        let hangs : parent_of items n ≡ Some up = parent_of-child items up n (In-last (children_of items up) n is) in
        let bad : true ≡ false = sym (option_eq-to up (parent_of items n) hangs) ∙ h in
        bad
    by false e = refl

next-there : (items : List Item) (up n : ℕ) (b : Bool) → n < length items → option_eq nat_eq (Some up) (parent_of items n) ≡ b → after (siblings_of items n ++ cond b (length items ∷ []) []) n ≡ cond (option_eq nat_eq (last (children_of items up)) (Some n)) (Some (length items)) (after (siblings_of items n) n)
next-there items up n true h e =
    let same : Some up ≡ parent_of items n = option_eq-from up (parent_of items n) e in
    subst (λ o. after (places (hangs_in o) items ++ length items ∷ []) n ≡ cond (option_eq nat_eq (last (children_of items up)) (Some n)) (Some (length items)) (after (places (hangs_in o) items) n)) same (next-here items up n h (sym same))
next-there items up n false h e = rw (not-last items up n e, append-nil (siblings_of items n)) refl

-- whom an old node is followed by, and whom it follows
siblings_of-grown : (items : List Item) (up : ℕ) (content : Content) (n : ℕ) → n < length items → siblings_of (grown items up content) n ≡ siblings_of items n ++ cond (option_eq nat_eq (Some up) (parent_of items n)) (length items ∷ []) []
siblings_of-grown items up content n h = ap (λ o. places (hangs_in o) (grown items up content)) (parent_of-grown items up content n h) ∙ places-grown items up content (parent_of items n)

next-grown : (items : List Item) (up : ℕ) (content : Content) (n : ℕ) → n < length items → after (siblings_of (grown items up content) n) n ≡ cond (option_eq nat_eq (last (children_of items up)) (Some n)) (Some (length items)) (after (siblings_of items n) n)
next-grown items up content n h = ap (λ c. after c n) (siblings_of-grown items up content n h) ∙ next-there items up n (option_eq nat_eq (Some up) (parent_of items n)) h refl

before-cond : (c : List ℕ) (n m : ℕ) (b : Bool) → m ≢ n → before (c ++ cond b (m ∷ []) []) n ≡ before c n
before-cond c n m true h = before-append c n m h
before-cond c n m false h = ap (λ w. before w n) (append-nil c)

previous-grown : (items : List Item) (up : ℕ) (content : Content) (n : ℕ) → n < length items → before (siblings_of (grown items up content) n) n ≡ before (siblings_of items n) n
previous-grown items up content n h = ap (λ c. before c n) (siblings_of-grown items up content n h) ∙ before-cond (siblings_of items n) n (length items) (option_eq nat_eq (Some up) (parent_of items n)) (let ne : length items ≢ n = omega arith in ne)

-- the links of an old node, where the one is what the new one hangs in, and the other its last child so far
changed : Bool → Bool → ℕ → Links → Links
changed is_up is_last m old = cond is_last (with_next_sibling m (cond is_up (with_last_child m old) old)) (cond is_up (with_last_child m old) old)

changed-links : (is_up is_last : Bool) (m : ℕ) (a b c d : Option ℕ) → changed is_up is_last m (links a b c d) ≡ links (cond is_up (Some (unwrap_or a m)) a) (cond is_up (Some m) b) (cond is_last (Some m) c) d
unfolding changed links
changed-links true true m a b c d = refl
changed-links true false m a b c d = refl
changed-links false true m a b c d = refl
changed-links false false m a b c d = refl

links_at-grown : (items : List Item) (up : ℕ) (content : Content) (n : ℕ) → n < length items → links_at (grown items up content) n ≡ changed (nat_eq up n) (option_eq nat_eq (last (children_of items up)) (Some n)) (length items) (links_at items n)
unfolding links
links_at-grown items up content n h =
    let m = length items in
    let c = children_of items n in
    links-same _ _ _ _ _ _ _ _
    (ap first (places-grown items up content (Some n)) ∙ first-grown c m (nat_eq up n))
    (ap last (places-grown items up content (Some n)) ∙ last-grown c m (nat_eq up n))
    (next-grown items up content n h)
    (previous-grown items up content n h)
    ∙ sym (changed-links (nat_eq up n) (option_eq nat_eq (last (children_of items up)) (Some n)) m (first c) (last c) (after (siblings_of items n) n) (before (siblings_of items n) n))

-- the links of the new node
links_at-grown-new : (items : List Item) (up : ℕ) (content : Content) → Falls items → up < length items → links_at (grown items up content) (length items) ≡ links None None None (last (children_of items up))
unfolding links
links_at-grown-new items up content f h =
    let m = length items in
    let ne : up ≢ m = omega arith in
    let none : children_of (grown items up content) m ≡ [] = places-grown items up content (Some m) ∙ (rw (eqb_false up m ne) (append-nil (children_of items m)) ∙ children_of-new items f) in
    let siblings : siblings_of (grown items up content) m ≡ children_of items up ++ m ∷ [] = ap (λ o. places (hangs_in o) (grown items up content)) (parent_of-grown-new items up content) ∙ (places-grown items up content (Some up) ∙ rw (eqb-same up) refl) in
    links-same _ _ _ _ _ _ _ _
    (ap first none)
    (ap last none)
    (ap (λ c. after c m) siblings ∙ after-new (children_of items up) m (not-child items up))
    (ap (λ c. before c m) siblings ∙ before-new (children_of items up) m (not-child items up))

option_map-twice : {A B C : Type 0} (g : B → C) (f : A → B) (o : Option A) → option_map g (option_map f o) ≡ option_map (λ x. g (f x)) o
option_map-twice g f None = refl
option_map-twice g f (Some x) = refl

-- what a node's links are once the new one was hung up
slice_get-hung_last : (m up : ℕ) (previous : Option ℕ) (base : List Links) (n : ℕ) → slice_get (hung_last m up previous base) n ≡ option_map (λ old. changed (nat_eq up n) (option_eq nat_eq previous (Some n)) m old) (slice_get base n)
unfolding changed
slice_get-hung_last m up None base n = slice_get-changed_at-each (with_last_child m) up base n
slice_get-hung_last m up (Some l) base n =
    slice_get-changed_at-each (with_next_sibling m) l (changed_at (with_last_child m) up base) n
    ∙ (ap (λ o. option_map (λ old. cond (nat_eq l n) (with_next_sibling m old) old) o) (slice_get-changed_at-each (with_last_child m) up base n)
    ∙ option_map-twice (λ old. cond (nat_eq l n) (with_next_sibling m old) old) (λ old. cond (nat_eq up n) (with_last_child m old) old) (slice_get base n))

no-last : (items : List Item) (up : ℕ) → option_eq nat_eq (last (children_of items up)) (Some (length items)) ≡ false
no-last items up = by (option_eq nat_eq (last (children_of items up)) (Some (length items))) refl
  where
    by : (b : Bool) → option_eq nat_eq (last (children_of items up)) (Some (length items)) ≡ b → b ≡ false
    by true e = absurd (not-child items up (In-last (children_of items up) (length items) (option_eq-some (last (children_of items up)) (length items) e)))
    by false e = refl

unchanged : (m : ℕ) (l : Links) → option_map (λ old. changed false false m old) (Some l) ≡ Some l
unfolding changed
unchanged m l = refl

each-new : (items : List Item) (up : ℕ) (content : Content) (old : List Links) → Falls items → up < length items → length old ≡ length items → slice_get (hung_last (length items) up (last (children_of items up)) (old ++ links None None None (last (children_of items up)) ∷ [])) (length items) ≡ Some (links_at (grown items up content) (length items))
each-new items up content old f h count =
    let m = length items in
    let base = old ++ links None None None (last (children_of items up)) ∷ [] in
    let ne : up ≢ m = omega arith in
    let read : slice_get base m ≡ Some (links None None None (last (children_of items up))) = subst (λ k. slice_get base k ≡ Some (links None None None (last (children_of items up)))) count (slice_get-append-last old (links None None None (last (children_of items up)))) in
    slice_get-hung_last m up (last (children_of items up)) base m
    ∙ rw (read, eqb_false up m ne, no-last items up) (unchanged m (links None None None (last (children_of items up))) ∙ ap Some (sym (links_at-grown-new items up content f h)))

each-old : (items : List Item) (up : ℕ) (content : Content) (old : List Links) → length old ≡ length items → AreLinked items old → (n : ℕ) → n < length items → slice_get (hung_last (length items) up (last (children_of items up)) (old ++ links None None None (last (children_of items up)) ∷ [])) n ≡ Some (links_at (grown items up content) n)
each-old items up content old count linked n h =
    let m = length items in
    let base = old ++ links None None None (last (children_of items up)) ∷ [] in
    let inside : n < length old = omega (arith, h, count) in
    let read : slice_get base n ≡ Some (links_at items n) = slice_get-append old (links None None None (last (children_of items up)) ∷ []) n inside ∙ linked.each n h in
    slice_get-hung_last m up (last (children_of items up)) base n
    ∙ (ap (λ o. option_map (λ l. changed (nat_eq up n) (option_eq nat_eq (last (children_of items up)) (Some n)) m l) o) read
    ∙ ap Some (sym (links_at-grown items up content n h)))

-- the links, once a new node hangs last in an element
pub AreLinked-grown : (items : List Item) (up : ℕ) (content : Content) (old : List Links) → Falls items → up < length items → length old ≡ length items → AreLinked items old → AreLinked (grown items up content) (hung_last (length items) up (last (children_of items up)) (old ++ record { first_child = None; last_child = None; next_sibling = None; previous_sibling = last (children_of items up) } ∷ []))
unfolding links
AreLinked-grown items up content old f h count linked = record { each = λ n within. by n (omega (arith, within, length-append items (record { parent = Some up; content = content } ∷ []))) (cases_eq n (length items)) }
  where
    by : (n : ℕ) → n < length items + 1 → (n ≡ length items) ⊎ (n ≡ length items → ⊥) → slice_get (hung_last (length items) up (last (children_of items up)) (old ++ record { first_child = None; last_child = None; next_sibling = None; previous_sibling = last (children_of items up) } ∷ [])) n ≡ Some (links_at (grown items up content) n)
    by n le (inl e) = subst (λ k. slice_get (hung_last (length items) up (last (children_of items up)) (old ++ links None None None (last (children_of items up)) ∷ [])) k ≡ Some (links_at (grown items up content) k)) (sym e) (each-new items up content old f h count)
    by n le (inr ne) = each-old items up content old count linked n (omega arith)

-- The tree

tag_of-grown : (items : List Item) (up : ℕ) (content : Content) (n : ℕ) → n < length items → tag_of (grown items up content) n ≡ tag_of items n
tag_of-grown items up content n h = ap (λ o. option_and_then (λ i. tag_in i.content) o) (slice_get-append items (record { parent = Some up; content = content } ∷ []) n h)

path_within-grown-up : (count : ℕ) (items : List Item) (up : ℕ) (content : Content) (o : Option ℕ) → ((q : ℕ) → o ≡ Some q → path_within count (grown items up content) q ≡ path_within count items q) → option_map_or (path_within count (grown items up content)) o [] ≡ option_map_or (path_within count items) o []
path_within-grown-up count items up content None h = refl
path_within-grown-up count items up content (Some q) h = h q refl

path_within-grown : (count : ℕ) (items : List Item) (up : ℕ) (content : Content) → Falls items → (n : ℕ) → n < length items → path_within count (grown items up content) n ≡ path_within count items n
path_within-grown zero items up content f n h = refl
path_within-grown (suc count) items up content f n h = rw (parent_of-grown items up content n h) (ap (λ w. n ∷ w) (path_within-grown-up count items up content (parent_of items n) (λ q e. let low : q < n = f.falls n q e in path_within-grown count items up content f q (omega arith))))

pub path_of-grown : (items : List Item) (up : ℕ) (content : Content) → Falls items → (n : ℕ) → n < length items → path_of (grown items up content) n ≡ path_of items n
path_of-grown items up content f n h = path_within-grown (n + 1) items up content f n h

pub path_of-grown-new : (items : List Item) (up : ℕ) (content : Content) → Falls items → up < length items → path_of (grown items up content) (length items) ≡ length items ∷ path_of items up
path_of-grown-new items up content f h =
    let m = length items in
    rw (add-one, parent_of-grown-new items up content) (ap (λ w. m ∷ w) (path_within-grown m items up content f up h ∙ path_within-of items f m up h))

last-number : (items : List Item) (up : ℕ) (content : Content) → length (grown items up content) - 1 ≡ length items
last-number items up content = let e : length (grown items up content) ≡ length items + 1 = length-append items (record { parent = Some up; content = content } ∷ []) in omega (arith, e)

IsOpen-grown : (items : List Item) (up : ℕ) (content : Content) → Falls items → up < length items → (n : ℕ) → Contains (length items ∷ path_of items up) n → IsOpen (grown items up content) n
IsOpen-grown items up content f h n c = subst (λ w. Contains w n) (sym (ap (path_of (grown items up content)) (last-number items up content) ∙ path_of-grown-new items up content f h)) c

pub Extends-grown : (items : List Item) (up : ℕ) (content : Content) → Falls items → up < length items → Extends items (grown items up content) up
Extends-grown items up content f h = record {
  tags = tag_of-grown items up content;
  paths = path_of-grown items up content f;
  path = path_of-grown-new items up content f h;
  open_still = λ n c. IsOpen-grown items up content f h n (Contains-behind (length items) (path_of items up) n c);
  opened = IsOpen-grown items up content f h (length items) (Contains-here (length items) (path_of items up));
}

pub IsElement-grown : (items : List Item) (up : ℕ) (content : Content) (n : ℕ) → n < length items → IsElement items n → IsElement (grown items up content) n
IsElement-grown items up content n h e = subst IsSome (sym (tag_of-grown items up content n h)) e

take-grown : (items : List Item) (up : ℕ) (content : Content) (n : ℕ) → n ≤ length items → take n (grown items up content) ≡ take n items
take-grown items up content n h = take-append-le n items (record { parent = Some up; content = content } ∷ []) h

others-new : (items : List Item) (up : ℕ) (content : Content) → up < length items → IsElement items up → IsOpen items up → (n : ℕ) → n ≡ length items → IsSomeAnd (parent_of (grown items up content) n) (λ q. (q < n) × IsElement (grown items up content) q × IsOpen (take n (grown items up content)) q)
others-new items up content h element open_up n e =
    let whole : take n (grown items up content) ≡ items = take-grown items up content n (omega (arith, e)) ∙ (ap (λ k. take k items) e ∙ take-length items) in
    let hangs : parent_of (grown items up content) n ≡ Some up = ap (parent_of (grown items up content)) e ∙ parent_of-grown-new items up content in
    subst (λ o. IsSomeAnd o (λ q. (q < n) × IsElement (grown items up content) q × IsOpen (take n (grown items up content)) q)) (sym hangs)
    (omega (arith, h, e), IsElement-grown items up content up h element, subst (λ w. IsOpen w up) (sym whole) open_up)

others-old : (items : List Item) (up : ℕ) (content : Content) → IsTree items → (n : ℕ) → 0 < n → n < length items → IsSomeAnd (parent_of (grown items up content) n) (λ q. (q < n) × IsElement (grown items up content) q × IsOpen (take n (grown items up content)) q)
others-old items up content tree n low high =
    let part : take n (grown items up content) ≡ take n items = take-grown items up content n (omega arith) in
    subst (λ o. IsSomeAnd o (λ q. (q < n) × IsElement (grown items up content) q × IsOpen (take n (grown items up content)) q)) (sym (parent_of-grown items up content n high))
    (IsSomeAnd-map (parent_of items n) (λ q. (q < n) × IsElement items q × IsOpen (take n items) q) (λ q. (q < n) × IsElement (grown items up content) q × IsOpen (take n (grown items up content)) q)
    (λ q f. (f.0, IsElement-grown items up content q (omega (arith, f.0)) f.1, subst (λ w. IsOpen w q) (sym part) f.2))
    (tree.others n low high))

pub IsTree-grown : (items : List Item) (up : ℕ) (content : Content) → IsTree items → up < length items → length items < most_nodes → IsElement items up → IsOpen items up → IsTree (grown items up content)
IsTree-grown items up content tree h room element open_up = record {
  root = (IsElement-grown items up content 0 (omega arith) tree.root.0, parent_of-grown items up content 0 (omega arith) ∙ tree.root.1);
  others = λ n low high. by n low (omega (arith, high, length-append items (record { parent = Some up; content = content } ∷ []))) (cases_eq n (length items));
  count = omega (arith, room, length-append items (record { parent = Some up; content = content } ∷ []));
}
  where
    by : (n : ℕ) → 0 < n → n < length items + 1 → (n ≡ length items) ⊎ (n ≡ length items → ⊥) → IsSomeAnd (parent_of (grown items up content) n) (λ q. (q < n) × IsElement (grown items up content) q × IsOpen (take n (grown items up content)) q)
    by n low high (inl e) = others-new items up content h element open_up n e
    by n low high (inr ne) = others-old items up content tree n low (omega arith)
