-- The texts that a box holds stand in it.
use Rattle.std.proofs.Common.{◌≡◌, ℕ, zero, suc, ◌+◌, ◌-◌, ◌<◌, ◌≤◌, Bool, true, false, cond, not, nat_eq, List, [], ◌∷◌, ◌++◌, length, find, Option, Some, None, ◌⊎◌, inl, inr, refl, sym, ◌∙◌, ap, subst, append_assoc, append-nil, add-one, arith}
use Rattle.std.specs.Prelude.{Contains}
use Rattle.std.specs.Option.{option_map_or}
use Rattle.std.specs.List.{flat_map, range_with_len}
use Rattle.std.proofs.lemmas.Bool.{cases_Bool}
use Rattle.std.proofs.lemmas.Bool.Decides.{nat_tests}
use Rattle.dom_tree.specs.Items.{Item, parent_of, IsElement}
use Rattle.dom_tree.specs.Walks.{path_of, IsEndOf, IsTree}
use Rattle.display_list.specs.Shown.{Shown}
use Rattle.display_list.specs.Places.{ancestors_of, has_tag, holder_of, is_held_by, is_inline_tag, place_of}
use Rattle.display_list.specs.Show.{hanging_lines, held_lines, text_lines}

-- what the nodes below a number print
unfoldable pub lines_below : (ℕ → List ℕ) → ℕ → List ℕ
lines_below lines count = flat_map lines (range_with_len 0 count)

range-more : (lines : ℕ → List ℕ) (from count : ℕ) → flat_map lines (range_with_len from (suc count)) ≡ flat_map lines (range_with_len from count) ++ lines (from + count)
range-more lines from zero = let same : from + 0 ≡ from = omega arith in append-nil (lines from) ∙ ap lines (sym same)
range-more lines from (suc count) =
    let same : from + 1 + count ≡ from + suc count = omega arith in
    ap (λ (l : List ℕ). lines from ++ l) (range-more lines (from + 1) count ∙ ap (λ (n : ℕ). flat_map lines (range_with_len (from + 1) count) ++ lines n) same)
    ∙ sym (append_assoc (lines from) (flat_map lines (range_with_len (from + 1) count)) (lines (from + suc count)))

lines_below-suc : (lines : ℕ → List ℕ) (node : ℕ) → lines_below lines (suc node) ≡ lines_below lines node ++ lines node
unfolding lines_below
lines_below-suc lines node = let same : 0 + node ≡ node = omega arith in range-more lines 0 node ∙ ap (λ (n : ℕ). flat_map lines (range_with_len 0 node) ++ lines n) same

lines_below-none : (lines : ℕ → List ℕ) → lines_below lines 0 ≡ []
unfolding lines_below
lines_below-none lines = refl

-- one node more
pub lines_below-more : (lines : ℕ → List ℕ) (node : ℕ) (first out more : List ℕ) → out ≡ first ++ lines_below lines node → more ≡ out ++ lines node → more ≡ first ++ lines_below lines (node + 1)
lines_below-more lines node first out more e line =
    line ∙ ap (λ (l : List ℕ). l ++ lines node) e ∙ append_assoc first (lines_below lines node) (lines node)
    ∙ ap (λ (l : List ℕ). first ++ l) (sym (ap (lines_below lines) (add-one node) ∙ lines_below-suc lines node))

-- nodes that print nothing
lines_below-skip : (lines : ℕ → List ℕ) (from count : ℕ) → ((node : ℕ) → from ≤ node → node < from + count → lines node ≡ []) → lines_below lines (from + count) ≡ lines_below lines from
lines_below-skip lines from zero none = let same : from + 0 ≡ from = omega arith in ap (lines_below lines) same
lines_below-skip lines from (suc count) none =
    let same : from + suc count ≡ suc (from + count) = omega arith in
    ap (lines_below lines) same ∙ lines_below-suc lines (from + count)
    ∙ ap (λ (l : List ℕ). lines_below lines (from + count) ++ l) (none (from + count) (omega arith) (omega arith))
    ∙ append-nil (lines_below lines (from + count))
    ∙ lines_below-skip lines from count (λ node low high. none node low (omega arith))

-- What holds a node is above it

find-here : (b : Bool) (x y : ℕ) (rest : Option ℕ) → cond b (Some x) rest ≡ Some y → (x ≡ y) ⊎ (rest ≡ Some y)
find-here true x y rest e = let same : x ≡ y = cc in inl same
find-here false x y rest e = inr e

Contains-find : (p : ℕ → Bool) (xs : List ℕ) (y : ℕ) → find p xs ≡ Some y → Contains xs y
Contains-find p [] y e = absurd (cc e)
Contains-find p (x ∷ xs) y e =
    elim (find-here (p x) x y (find p xs) e) [
      | inl same ↦ (0, omega arith, same)
      | inr behind ↦ let c = Contains-find p xs y behind in (suc c.0, omega (arith, c.1), c.2)
    ]

-- what the laws of paths and parents say of a tree
pub record HasPaths (items : List Item) : Type 0 where
  pub step : (node : ℕ) → path_of items node ≡ node ∷ ancestors_of items node
  pub before : (node up : ℕ) → Contains (path_of items node) up → up ≤ node
  pub parents : (node up : ℕ) → parent_of items node ≡ Some up → up < node

pub HasPaths-law : (items : List Item) → IsTree items → ((i : List Item) → IsTree i → (node : ℕ) → path_of i node ≡ node ∷ option_map_or (path_of i) (parent_of i node) []) → ((i : List Item) → IsTree i → (node up : ℕ) → Contains (path_of i node) up → up ≤ node) → ((i : List Item) → IsTree i → (node up : ℕ) → parent_of i node ≡ Some up → (up < node) × IsElement i up) → HasPaths items
HasPaths-law items tree step before parents = record {
  step = step items tree;
  before = before items tree;
  parents = λ node up e. (parents items tree node up e).0;
}

ancestor-below : (items : List Item) (node up : ℕ) (o : Option ℕ) → HasPaths items → parent_of items node ≡ o → Contains (option_map_or (path_of items) o []) up → up < node
ancestor-below items node up None law e c = absurd (omega (arith, c.1))
ancestor-below items node up (Some parent) law e c = let low = law.before parent up c in let less = law.parents node parent e in omega arith

Contains-behind : (x : ℕ) (xs : List ℕ) (y : ℕ) → Contains xs y → Contains (x ∷ xs) y
Contains-behind x xs y c = (suc c.0, omega (arith, c.1), c.2)

held-by : (o : Option ℕ) (box : ℕ) → option_map_or (λ (holder : ℕ). nat_eq holder box) o false ≡ true → o ≡ Some box
held-by None box e = absurd (cc e)
held-by (Some holder) box e = let same : holder ≡ box = grind (arith, nat_tests) in ap Some same

pub held-inside : (items : List Item) (box end node : ℕ) → HasPaths items → IsEndOf items box end → node < length items → is_held_by items box node ≡ true → (box < node) × (node < end)
unfolding holder_of
held-inside items box end node law is_end low held =
    let found = held-by (holder_of items node) box held in
    let c = Contains-find (λ (up : ℕ). not (has_tag is_inline_tag items up)) (ancestors_of items node) box found in
    let below = ancestor-below items node box (parent_of items node) law refl c in
    let path = subst (λ (l : List ℕ). Contains l box) (sym (law.step node)) (Contains-behind node (ancestors_of items node) box c) in
    (below, ((is_end node low).0 path).1)

held_lines-by : (shown : Shown) (box node : ℕ) → is_held_by shown.items box node ≡ false → held_lines shown box node ≡ []
unfolding held_lines
held_lines-by shown box node e = rw e refl

pub held_lines-other : (shown : Shown) (box node : ℕ) → is_held_by shown.items box node ≡ false → [] ≡ held_lines shown box node
held_lines-other shown box node e = sym (held_lines-by shown box node e)

none-outside : (shown : Shown) (box end node : ℕ) → HasPaths shown.items → IsEndOf shown.items box end → node < length shown.items → ((box < node) × (node < end) → ⊥) → held_lines shown box node ≡ []
none-outside shown box end node law is_end low out =
    elim (cases_Bool (is_held_by shown.items box node)) [
      | inl held ↦ absurd (out (held-inside shown.items box end node law is_end low held))
      | inr other ↦ held_lines-by shown box node other
    ]

pub lines_below-start : (shown : Shown) (box end : ℕ) (out : List ℕ) → HasPaths shown.items → IsEndOf shown.items box end → box < length shown.items → out ≡ out ++ lines_below (held_lines shown box) (box + 1)
lines_below-start shown box end out law is_end low =
    let none = lines_below-skip (held_lines shown box) 0 (box + 1) (λ node least high. none-outside shown box end node law is_end (omega arith) (λ p. omega (arith, p.0))) in
    let same : 0 + (box + 1) ≡ box + 1 = omega arith in
    sym (ap (λ (l : List ℕ). out ++ l) (ap (lines_below (held_lines shown box)) (sym same) ∙ none ∙ lines_below-none (held_lines shown box)) ∙ append-nil out)

pub lines_below-end : (shown : Shown) (box end : ℕ) (first out : List ℕ) → HasPaths shown.items → IsEndOf shown.items box end → end ≤ length shown.items → out ≡ first ++ lines_below (held_lines shown box) end → out ≡ first ++ text_lines shown box
unfolding text_lines lines_below
lines_below-end shown box end first out law is_end low e =
    let count = length shown.items - end in
    let same : end + count ≡ length shown.items = omega arith in
    let none = lines_below-skip (held_lines shown box) end count (λ node least high. none-outside shown box end node law is_end (omega arith) (λ p. omega (arith, p.1))) in
    e ∙ ap (λ (l : List ℕ). first ++ l) (sym none ∙ ap (lines_below (held_lines shown box)) same)

-- a node that the box holds

pub held_lines-some : (shown : Shown) (box node up : ℕ) → is_held_by shown.items box node ≡ true → Some up ≡ parent_of shown.items node → hanging_lines shown (place_of shown box) up node ≡ held_lines shown box node
unfolding held_lines
held_lines-some shown box node up held e = rw held (ap (λ (o : Option ℕ). option_map_or (λ (n : ℕ). hanging_lines shown (place_of shown box) n node) o []) e)

pub held_lines-none : (shown : Shown) (box node : ℕ) → is_held_by shown.items box node ≡ true → None ≡ parent_of shown.items node → [] ≡ held_lines shown box node
unfolding held_lines
held_lines-none shown box node held e = rw held (ap (λ (o : Option ℕ). option_map_or (λ (n : ℕ). hanging_lines shown (place_of shown box) n node) o []) e)
