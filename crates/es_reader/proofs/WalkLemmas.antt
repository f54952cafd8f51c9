-- The statements of a program lead to its nodes alone, and each stands behind its children.
use Rattle.std.proofs.Common.{◌≡◌, ℕ, zero, suc, ◌<◌, inl, inr, List, [], ◌∷◌, Some, sym, ◌∙◌, ap, subst}
use Rattle.std.specs.Prelude.{slice_get}
use Rattle.std.proofs.lemmas.Option.{same_Some}
use Rattle.es_expressions.specs.Trees.{Tree, Trees}
use Rattle.es_expressions.specs.Trees.Tree.{TreeOf}
use Rattle.es_expressions.specs.Trees.Trees.{NoTrees, OneMore}
use Rattle.es_expressions.specs.Nodes.{NodeRow, IsTreeAt, AreTreesAt}
use Rattle.es_reader.specs.Statements.{Declared, Item}
use Rattle.es_reader.specs.Programs.{AreTreesOf, AreFunctionsOf, ToldFunction, ToldProgram, Tells, functions_of, top_trees}
use Rattle.es_reader.specs.Locals.{LeadsDown}
use Rattle.es_reader.specs.Walks.{IsStatement, Leads, StandsBehindChildren}

-- a tree at a number
abbrev HasTree : List NodeRow → ℕ → Type 0
HasTree rows number = (tree : Tree) × IsTreeAt tree rows number

below : (trees : Trees) (rows : List NodeRow) (bound : ℕ) (numbers : List ℕ) (place child : ℕ) → AreTreesAt trees rows bound numbers → slice_get numbers place ≡ Some child → (child < bound) × HasTree rows child
unfolding AreTreesAt
below NoTrees rows bound [] place child h e = absurd (cc)
below NoTrees rows bound (n ∷ ns) place child h e = absurd h
below (OneMore t ts) rows bound [] place child h e = absurd h
below (OneMore t ts) rows bound (n ∷ ns) zero child h e = (subst (λ m. m < bound) (same_Some n child e) h.0, (t, subst (λ m. IsTreeAt t rows m) (same_Some n child e) h.1))
below (OneMore t ts) rows bound (n ∷ ns) (suc place) child h e = below ts rows bound ns place child h.2 e

stands : (rows : List NodeRow) (number : ℕ) → HasTree rows number → StandsBehindChildren rows number
unfolding IsTreeAt
stands rows number (TreeOf node kids, h) = record {
  row = record { node = node; children = h.0 };
  there = h.1;
  behind = λ place child e. (below kids rows number h.0 place child h.2 e).0;
}

child-of : (rows : List NodeRow) (number : ℕ) → HasTree rows number → (row : NodeRow) → slice_get rows number ≡ Some row → (place child : ℕ) → slice_get row.children place ≡ Some child → HasTree rows child
unfolding IsTreeAt
child-of rows number (TreeOf node kids, h) row there place child e =
    let r : NodeRow = record { node = node; children = h.0 } in
    let same : r ≡ row = same_Some r row (sym h.1 ∙ there) in
    (below kids rows number h.0 place child h.2 (ap (λ x. slice_get x.children place) same ∙ e)).1

led-to : (rows : List NodeRow) (start : ℕ) (places : List ℕ) (number : ℕ) → HasTree rows start → Leads rows start places number → HasTree rows number
led-to rows start [] number t l = (t.0, subst (λ n. IsTreeAt t.0 rows n) l t.1)
led-to rows start (place ∷ places) number t (row, there, child, e, l) = led-to rows child places number (child-of rows start t row there place child e) l

listed : (trees : Trees) (rows : List NodeRow) (numbers : List ℕ) (place number : ℕ) → AreTreesOf trees rows numbers → slice_get numbers place ≡ Some number → HasTree rows number
listed NoTrees rows [] place number h e = absurd (cc)
listed NoTrees rows (n ∷ ns) place number h e = absurd h
listed (OneMore t ts) rows [] place number h e = absurd h
listed (OneMore t ts) rows (n ∷ ns) zero number h e = (t, subst (λ m. IsTreeAt t rows m) (same_Some n number e) h.0)
listed (OneMore t ts) rows (n ∷ ns) (suc place) number h e = listed ts rows ns place number h.1 e

in-functions : (declared : List Declared) (rows : List NodeRow) (functions : List ToldFunction) (index : ℕ) (function : ToldFunction) (place number : ℕ) → AreFunctionsOf declared rows functions → slice_get functions index ≡ Some function → slice_get function.body place ≡ Some number → HasTree rows number
in-functions [] rows [] index function place number h f e = absurd (cc)
in-functions [] rows (t ∷ ts) index function place number h f e = absurd h
in-functions (d ∷ ds) rows [] index function place number h f e = absurd h
in-functions (d ∷ ds) rows (t ∷ ts) zero function place number h f e = listed _ rows t.body place number h.0.body (ap (λ (x : ToldFunction). slice_get x.body place) (same_Some t function f) ∙ e)
in-functions (d ∷ ds) rows (t ∷ ts) (suc index) function place number h f e = in-functions ds rows ts index function place number h.1 f e

begun : (items : List Item) (told : ToldProgram) (number : ℕ) → Tells items told → IsStatement told number → HasTree told.rows number
begun items told number t (inl (place, e)) = listed (top_trees items) told.rows told.top place number t.top e
begun items told number t (inr (index, function, f, place, e)) = in-functions (functions_of items) told.rows told.functions index function place number t.functions f e

pub walks : (items : List Item) (told : ToldProgram) (start : ℕ) (places : List ℕ) (number : ℕ) → Tells items told → IsStatement told start → Leads told.rows start places number → StandsBehindChildren told.rows number
walks items told start places number t s l = stands told.rows number (led-to told.rows start places number (begun items told start t s) l)

led-below : (rows : List NodeRow) (start : ℕ) (places : List ℕ) (number : ℕ) → HasTree rows start → Leads rows start places number → LeadsDown rows start places number
led-below rows start [] number t l = l
led-below rows start (place ∷ places) number t (row, there, child, e, l) =
    let s = stands rows start t in
    let same : row ≡ s.row = same_Some row s.row (sym there ∙ s.there) in
    (row, there, child, e, s.behind place child (ap (λ x. slice_get x.children place) (sym same) ∙ e), led-below rows child places number (child-of rows start t row there place child e) l)

pub walks-down : (items : List Item) (told : ToldProgram) (start : ℕ) (places : List ℕ) (number : ℕ) → Tells items told → IsStatement told start → Leads told.rows start places number → LeadsDown told.rows start places number
walks-down items told start places number t s l = led-below told.rows start places number (begun items told start t s) l
