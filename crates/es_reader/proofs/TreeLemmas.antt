-- Trees stay where they are when nodes are added, and a new node stands for its form.
use Rattle.std.proofs.Common.{◌≡◌, ℕ, zero, suc, ◌<◌, List, [], ◌∷◌, ◌++◌, length, Some, refl, sym, ◌∙◌, ap, subst, append_assoc}
use Rattle.std.specs.Prelude.{slice_get}
use Rattle.std.proofs.lemmas.Option.{slice_get_within}
use Rattle.es_expressions.specs.Trees.{Tree, Trees}
use Rattle.es_expressions.specs.Trees.Tree.{TreeOf}
use Rattle.es_expressions.specs.Trees.Trees.{NoTrees, OneMore}
use Rattle.es_expressions.specs.Nodes.{NodeRow, IsTreeAt, AreTreesAt}
use Rattle.es_expressions.specs.declared.nodes.Node.{Node as TheNode}
use Rattle.es_reader.specs.Parts.{MayGrow}
use Rattle.es_reader.specs.Programs.{AreTreesOf}

get-front : (xs ys : List NodeRow) (n : ℕ) (x : NodeRow) → slice_get xs n ≡ Some x → slice_get (xs ++ ys) n ≡ Some x
get-front [] ys n x h = absurd (cc)
get-front (a ∷ xs) ys zero x h = h
get-front (a ∷ xs) ys (suc n) x h = get-front xs ys n x h

get-end : (xs : List NodeRow) (x : NodeRow) → slice_get (xs ++ (x ∷ [])) (length xs) ≡ Some x
get-end [] x = refl
get-end (a ∷ xs) x = get-end xs x

mutual
  unfolding IsTreeAt AreTreesAt

  tree-front : (t : Tree) (rows more : List NodeRow) (n : ℕ) → IsTreeAt t rows n → IsTreeAt t (rows ++ more) n
  tree-front (TreeOf nd kids) rows more n h = (h.0, get-front rows more n (record { node = nd; children = h.0 }) h.1, trees-front kids rows more n h.0 h.2)

  trees-front : (ts : Trees) (rows more : List NodeRow) (bound : ℕ) (ns : List ℕ) → AreTreesAt ts rows bound ns → AreTreesAt ts (rows ++ more) bound ns
  trees-front NoTrees rows more bound [] h = tt
  trees-front NoTrees rows more bound (n ∷ ns) h = absurd h
  trees-front (OneMore t ts) rows more bound [] h = absurd h
  trees-front (OneMore t ts) rows more bound (n ∷ ns) h = (h.0, tree-front t rows more n h.1, trees-front ts rows more bound ns h.2)

pub tree-grows : (t : Tree) (rows after : List NodeRow) (n : ℕ) → MayGrow rows after → IsTreeAt t rows n → IsTreeAt t after n
tree-grows t rows after n g h = subst (λ (r : List NodeRow). IsTreeAt t r n) (sym g.added) (tree-front t rows g.more n h)

pub trees-grow : (ts : Trees) (rows after : List NodeRow) (ns : List ℕ) → MayGrow rows after → AreTreesOf ts rows ns → AreTreesOf ts after ns
trees-grow NoTrees rows after [] g h = tt
trees-grow NoTrees rows after (n ∷ ns) g h = absurd h
trees-grow (OneMore t ts) rows after [] g h = absurd h
trees-grow (OneMore t ts) rows after (n ∷ ns) g h = (tree-grows t rows after n g h.0, trees-grow ts rows after ns g h.1)

tree-within : (t : Tree) (rows : List NodeRow) (n : ℕ) → IsTreeAt t rows n → n < length rows
unfolding IsTreeAt
tree-within (TreeOf nd kids) rows n h = slice_get_within rows n (record { node = nd; children = h.0 }) h.1

bounded : (ts : Trees) (rows : List NodeRow) (ns : List ℕ) → AreTreesOf ts rows ns → AreTreesAt ts rows (length rows) ns
unfolding AreTreesAt
bounded NoTrees rows [] h = tt
bounded NoTrees rows (n ∷ ns) h = absurd h
bounded (OneMore t ts) rows [] h = absurd h
bounded (OneMore t ts) rows (n ∷ ns) h = (tree-within t rows n h.0, h.0, bounded ts rows ns h.1)

abbrev pub row : TheNode → List ℕ → NodeRow
row nd numbers = record { node = nd; children = numbers }

new-tree : (rows : List NodeRow) (nd : TheNode) (kids : Trees) (ns : List ℕ) → AreTreesOf kids rows ns → IsTreeAt (TreeOf nd kids) (rows ++ (row nd ns ∷ [])) (length rows)
unfolding IsTreeAt
new-tree rows nd kids ns h = (ns, get-end rows (row nd ns), trees-front kids rows (row nd ns ∷ []) (length rows) ns (bounded kids rows ns h))

pub pushed-tree : (rows after : List NodeRow) (nd is : TheNode) (kids : Trees) (ns : List ℕ) (number : ℕ) → AreTreesOf kids rows ns → number ≡ length rows → after ≡ rows ++ (row nd ns ∷ []) → nd ≡ is → IsTreeAt (TreeOf is kids) after number
pushed-tree rows after nd is kids ns number h n p e =
    subst (λ (k : ℕ). IsTreeAt (TreeOf is kids) after k) (sym n)
    (subst (λ (r : List NodeRow). IsTreeAt (TreeOf is kids) r (length rows)) (sym p)
    (subst (λ (d : TheNode). IsTreeAt (TreeOf d kids) (rows ++ (row nd ns ∷ [])) (length rows)) e (new-tree rows nd kids ns h)))

pub grows-refl : (rows : List NodeRow) → MayGrow rows rows
grows-refl rows = record { more = []; added = none rows }
  where
    none : (xs : List NodeRow) → xs ≡ xs ++ []
    none [] = refl
    none (x ∷ xs) = ap (λ z. x ∷ z) (none xs)

pub grows-trans : (a b c : List NodeRow) → MayGrow a b → MayGrow b c → MayGrow a c
grows-trans a b c g h = record { more = g.more ++ h.more; added = h.added ∙ (ap (λ z. z ++ h.more) g.added ∙ append_assoc a g.more h.more) }

pub grows-by : (a b : List NodeRow) (r : NodeRow) → b ≡ a ++ (r ∷ []) → MayGrow a b
grows-by a b r h = record { more = r ∷ []; added = h }
