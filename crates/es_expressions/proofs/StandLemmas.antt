-- What operands and frames stand for stays when nodes are added, and a new node stands for its form.
use Rattle.std.proofs.Common.{◌≡◌, ℕ, zero, suc, ◌+◌, ◌≤◌, ◌<◌, Bool, true, false, List, [], ◌∷◌, ◌++◌, length, Option, Some, None, refl, sym, ◌∙◌, ap, subst, arith, append_assoc, append-nil, min, max}
use Rattle.std.specs.Prelude.{slice_get, cond}
use Rattle.std.proofs.lemmas.Option.{slice_get_within}
use Rattle.es_expressions.specs.Phrases.{Phrase, start_of, end_of}
use Rattle.es_expressions.specs.Phrases.Phrase.{Leaf, Comma}
use Rattle.es_expressions.specs.Grammar.{level, is_target}
use Rattle.es_expressions.specs.Trees.{Tree, Trees, and_then, is_beside, depth, depth_with, deepest}
use Rattle.es_expressions.specs.Trees.Tree.{TreeOf}
use Rattle.es_expressions.specs.Trees.Trees.{NoTrees, OneMore}
use Rattle.es_expressions.specs.Meaning.{meaning, Meaning, alone, one, node, tree_of, parts_of}
use Rattle.es_expressions.specs.Nodes.{NodeRow, IsTreeAt, AreTreesAt}
use Rattle.es_expressions.specs.Machine.{Opening}
use Rattle.es_expressions.specs.Standings.{Grows, is_list, StandAt, IsSingle, ContentStands, Stands, FrameStands, AreStanding, noded}
use Rattle.es_expressions.specs.Machine.Opening.{InGroup, InKey, InCall, InNew, InNewCall, InSigned, InStepped, InBinary, InChosen, InOther, InAssign, InComma}
use Rattle.es_expressions.specs.declared.lexemes.Symbol.{Symbol}
use Rattle.es_expressions.specs.declared.nodes.Node.{Node as TheNode}
use Rattle.es_expressions.specs.declared.nodes.Form.{Form}
use Rattle.es_expressions.specs.declared.nodes.Form.TheVariants.{Comma as CommaForm}
use Rattle.es_expressions.specs.declared.operands.Single.{Single}
use Rattle.es_expressions.specs.declared.operands.Content.{Content}
use Rattle.es_expressions.specs.declared.operands.Content.TheVariants.{Node, Parts}
use Rattle.es_expressions.specs.declared.operands.Operand.{Operand}
use Rattle.es_expressions.specs.declared.frames.Frame.{Frame}
use Rattle.es_expressions.specs.declared.frames.Frame.TheVariants.{Group as GroupFrame, Key, Call, New, NewCall, Signed as SignedFrame, Stepped as SteppedFrame, Binary as BinaryFrame, Chosen, Other, Assign as AssignFrame, Comma as CommaFrame}

-- Lists

get-front : (xs ys : List NodeRow) (n : ℕ) (x : NodeRow) → slice_get xs n ≡ Some x → slice_get (xs ++ ys) n ≡ Some x
get-front [] ys n x h = absurd (cc)
get-front (a ∷ xs) ys zero x h = h
get-front (a ∷ xs) ys (suc n) x h = get-front xs ys n x h

get-end : (xs : List NodeRow) (x : NodeRow) → slice_get (xs ++ (x ∷ [])) (length xs) ≡ Some x
get-end [] x = refl
get-end (a ∷ xs) x = get-end xs x

-- Trees by number

mutual
  unfolding IsTreeAt AreTreesAt

  pub tree-grows : (t : Tree) (rows more : List NodeRow) (n : ℕ) → IsTreeAt t rows n → IsTreeAt t (rows ++ more) n
  tree-grows (TreeOf nd kids) rows more n h = (h.0, get-front rows more n (record { node = nd; children = h.0 }) h.1, trees-grow kids rows more n h.0 h.2)

  pub trees-grow : (ts : Trees) (rows more : List NodeRow) (bound : ℕ) (ns : List ℕ) → AreTreesAt ts rows bound ns → AreTreesAt ts (rows ++ more) bound ns
  trees-grow NoTrees rows more bound [] h = tt
  trees-grow NoTrees rows more bound (n ∷ ns) h = absurd h
  trees-grow (OneMore t ts) rows more bound [] h = absurd h
  trees-grow (OneMore t ts) rows more bound (n ∷ ns) h = (h.0, tree-grows t rows more n h.1, trees-grow ts rows more bound ns h.2)

tree-within : (t : Tree) (rows : List NodeRow) (n : ℕ) → IsTreeAt t rows n → n < length rows
unfolding IsTreeAt
tree-within (TreeOf nd kids) rows n h = slice_get_within rows n (record { node = nd; children = h.0 }) h.1

stand-trees : (ts : Trees) (rows : List NodeRow) (ns : List ℕ) → StandAt ts rows ns → AreTreesAt ts rows (length rows) ns
unfolding AreTreesAt
stand-trees NoTrees rows [] h = tt
stand-trees NoTrees rows (n ∷ ns) h = absurd h
stand-trees (OneMore t ts) rows [] h = absurd h
stand-trees (OneMore t ts) rows (n ∷ ns) h = (tree-within t rows n h.0, h.0, stand-trees ts rows ns h.1)

stand-grows : (ts : Trees) (rows more : List NodeRow) (ns : List ℕ) → StandAt ts rows ns → StandAt ts (rows ++ more) ns
stand-grows NoTrees rows more [] h = tt
stand-grows NoTrees rows more (n ∷ ns) h = absurd h
stand-grows (OneMore t ts) rows more [] h = absurd h
stand-grows (OneMore t ts) rows more (n ∷ ns) h = (tree-grows t rows more n h.0, stand-grows ts rows more ns h.1)

pub stand-one-more : (ts : Trees) (t : Tree) (rows : List NodeRow) (ns : List ℕ) (n : ℕ) → StandAt ts rows ns → IsTreeAt t rows n → StandAt (and_then ts t) rows (ns ++ (n ∷ []))
stand-one-more NoTrees t rows [] n h g = (g, tt)
stand-one-more NoTrees t rows (m ∷ ns) n h g = absurd h
stand-one-more (OneMore s ts) t rows [] n h g = absurd h
stand-one-more (OneMore s ts) t rows (m ∷ ns) n h g = (h.0, stand-one-more ts t rows ns n h.1 g)

abbrev pub row : TheNode → List ℕ → NodeRow
row nd numbers = record { node = nd; children = numbers }

pub new-tree : (rows : List NodeRow) (nd : TheNode) (kids : Trees) (ns : List ℕ) → StandAt kids rows ns → IsTreeAt (TreeOf nd kids) (rows ++ (row nd ns ∷ [])) (length rows)
unfolding IsTreeAt
new-tree rows nd kids ns h = (ns, get-end rows (row nd ns), trees-grow kids rows (row nd ns ∷ []) (length rows) ns (stand-trees kids rows ns h))

-- Depths

pub depth-of : (nd : TheNode) (kids : Trees) → depth (TreeOf nd kids) ≡ depth_with kids nd.form 0
unfolding depth depth_with
depth-of nd kids = refl

pub deepest-none : deepest NoTrees ≡ 0
unfolding deepest
deepest-none = refl

pub deepest-more : (t : Tree) (ts : Trees) → deepest (OneMore t ts) ≡ max (depth t) (deepest ts)
unfolding deepest
deepest-more t ts = refl

pub depth-more : (t : Tree) (ts : Trees) (parent : Form) (n : ℕ) → depth_with (OneMore t ts) parent n ≡ max (cond (is_beside parent n) (depth t) (suc (depth t))) (depth_with ts parent (suc n))
unfolding depth depth_with
depth-more t ts parent n = refl

pub depth-none : (parent : Form) (n : ℕ) → depth_with NoTrees parent n ≡ 1
unfolding depth depth_with
depth-none parent n = refl

-- the children of such a node are below it from this place on
abbrev pub AllBelow : Form → ℕ → Type 0
AllBelow parent n = (k : ℕ) → is_beside parent (k + n) ≡ false

pub depth-plain : (ts : Trees) (parent : Form) (n : ℕ) → AllBelow parent n → depth_with ts parent n ≡ suc (deepest ts)
depth-plain NoTrees parent n h = depth-none parent n ∙ ap (λ x. suc x) (sym deepest-none)
depth-plain (OneMore t ts) parent n h =
    let below : cond (is_beside parent n) (depth t) (suc (depth t)) ≡ suc (depth t) = ap (λ x. cond x (depth t) (suc (depth t))) (at 0 (omega arith)) in
    let others = depth-plain ts parent (suc n) (λ k. at (suc k) (omega arith)) in
    omega (arith, depth-more t ts parent n, deepest-more t ts)
  where
    at : (k : ℕ) {m : ℕ} → k + n ≡ m → is_beside parent m ≡ false
    at k e = subst (λ x. is_beside parent x ≡ false) e (h k)

pub depth-one : (t : Tree) → deepest (one t) ≡ depth t
depth-one t = let a = deepest-more t NoTrees in omega (arith, deepest-none)

depth-with-positive : (ts : Trees) (parent : Form) (n : ℕ) → 1 ≤ depth_with ts parent n
depth-with-positive NoTrees parent n = omega (arith, depth-none parent n)
depth-with-positive (OneMore t ts) parent n = omega (arith, depth-more t ts parent n, depth-with-positive ts parent (suc n))

pub depth-positive : (t : Tree) → 1 ≤ depth t
depth-positive (TreeOf nd kids) = omega (arith, depth-of nd kids, depth-with-positive kids nd.form 0)

pub deepest-and_then : (ts : Trees) (t : Tree) → deepest (and_then ts t) ≡ max (deepest ts) (depth t)
deepest-and_then NoTrees t = let a = depth-one t in omega (arith, deepest-none)
deepest-and_then (OneMore s ts) t =
    let a = deepest-more s (and_then ts t) in
    let b = deepest-more s ts in
    let c = deepest-and_then ts t in
    omega arith

-- Lists with commas and other expressions

pub parts-alone : (e : Phrase) → is_list e ≡ false → parts_of e ≡ one (tree_of e)
unfolding meaning
parts-alone (Comma a k b) h = absurd (cc)
parts-alone (Leaf t) h = refl
parts-alone _ h = refl

pub list-tree : (e : Phrase) → is_list e ≡ true → tree_of e ≡ TreeOf (node CommaForm (start_of e) (end_of e) None) (parts_of e)
unfolding meaning
list-tree (Comma a k b) h = refl
list-tree (Leaf t) h = absurd (cc)
list-tree _ h = absurd (cc)

-- Nodes are added

pub grows-refl : (rows : List NodeRow) → Grows rows rows
grows-refl rows = record { more = []; added = sym (append-nil rows) }

pub grows-trans : (a b c : List NodeRow) → Grows a b → Grows b c → Grows a c
grows-trans a b c g h = record { more = g.more ++ h.more; added = h.added ∙ (ap (λ x. x ++ h.more) g.added ∙ append_assoc a g.more h.more) }

pub grows-one : (rows after : List NodeRow) (r : NodeRow) → after ≡ rows ++ (r ∷ []) → Grows rows after
grows-one rows after r h = record { more = r ∷ []; added = h }

tree-grown : (t : Tree) (rows after : List NodeRow) (n : ℕ) → Grows rows after → IsTreeAt t rows n → IsTreeAt t after n
tree-grown t rows after n g h = subst (λ x. IsTreeAt t x n) (sym g.added) (tree-grows t rows g.more n h)

pub stand-grown : (ts : Trees) (rows after : List NodeRow) (ns : List ℕ) → Grows rows after → StandAt ts rows ns → StandAt ts after ns
stand-grown ts rows after ns g h = subst (λ x. StandAt ts x ns) (sym g.added) (stand-grows ts rows g.more ns h)

pub single-grown : (rows after : List NodeRow) (s : Single) (e : Phrase) → Grows rows after → IsSingle rows s e → IsSingle after s e
single-grown rows after s e g h = record { level_is = h.level_is; start = h.start; stop = h.stop; height = h.height; tree = tree-grown (tree_of e) rows after s.node g h.tree }

content-grown : (rows after : List NodeRow) (c : Content) (e : Phrase) → Grows rows after → ContentStands c rows e → ContentStands c after e
content-grown rows after (Node n) e g h = (h.0, tree-grown (tree_of e) rows after n g h.1)
content-grown rows after (Parts ns) e g h = (h.0, stand-grown (parts_of e) rows after ns.items g h.1)

pub operand-grown : (rows after : List NodeRow) (o : Operand) (e : Phrase) → Grows rows after → Stands rows o e → Stands after o e
operand-grown rows after o e g h = record { level_is = h.level_is; target = h.target; start = h.start; stop = h.stop; height = h.height; content = content-grown rows after o.content e g h.content }

pub frame-grown : (rows after : List NodeRow) (x : Frame) (f : Opening) → Grows rows after → FrameStands x rows f → FrameStands x after f
frame-grown rows after (GroupFrame s) (InGroup o) g h = h
frame-grown rows after (Key b) (InKey e o) g h = single-grown rows after b e g h
frame-grown rows after (Call b) (InCall e o) g h = single-grown rows after b e g h
frame-grown rows after (New s) (InNew n) g h = h
frame-grown rows after (NewCall s b) (InNewCall n e o) g h = (h.0, single-grown rows after b e g h.1)
frame-grown rows after (SignedFrame s k) (InSigned o) g h = h
frame-grown rows after (SteppedFrame s k) (InStepped o) g h = h
frame-grown rows after (BinaryFrame b k n) (InBinary e o) g h = (single-grown rows after b e g h.0, h.1, h.2)
frame-grown rows after (Chosen b) (InChosen e q) g h = single-grown rows after b e g h
frame-grown rows after (Other a b) (InOther e q f c) g h = (single-grown rows after a e g h.0, single-grown rows after b f g h.1)
frame-grown rows after (AssignFrame b k) (InAssign e o) g h = (single-grown rows after b e g h.0, h.1)
frame-grown rows after (CommaFrame o) (InComma e k) g h = operand-grown rows after o e g h
frame-grown rows after _ _ g h = absurd h

pub frames-grown : (rows after : List NodeRow) (xs : List Frame) (fs : List Opening) → Grows rows after → AreStanding xs rows fs → AreStanding xs after fs
frames-grown rows after [] [] g h = tt
frames-grown rows after [] (f ∷ fs) g h = absurd h
frames-grown rows after (x ∷ xs) [] g h = absurd h
frames-grown rows after (x ∷ xs) (f ∷ fs) g h = (frame-grown rows after x f g h.0, frames-grown rows after xs fs g h.1)

-- Operands by their node

pub single-of-node : (rows : List NodeRow) (o : Operand) (n : ℕ) (e : Phrase) → o.content ≡ Node n → Stands rows o e → IsSingle rows (record { node = n; level = o.level; height = o.height; start = o.start; «end» = o.«end» }) e
single-of-node rows o n e c h =
    let there : ContentStands (Node n) rows e = subst (λ x. ContentStands x rows e) c h.content in
    record {
      level_is = h.level_is;
      start = h.start;
      stop = h.stop;
      height = h.height ∙ ap (λ x. min 65 x) (ap deepest (parts-alone e there.0) ∙ depth-one (tree_of e));
      tree = there.1;
    }

list-depth : (e : Phrase) → is_list e ≡ true → depth (tree_of e) ≡ suc (deepest (parts_of e))
list-depth e h = ap depth (list-tree e h) ∙ (depth-of (node CommaForm (start_of e) (end_of e) None) (parts_of e) ∙ depth-plain (parts_of e) CommaForm 0 (λ k. refl))

pub node-same : (form : Form) (s t s' t' : ℕ) (k : Option Symbol) → s ≡ s' → t ≡ t' → node form s t k ≡ node form s' t' k
node-same form s t s' t' k p q = ap (λ x. node form x t k) p ∙ ap (λ x. node form s' x k) q

pub single-of-parts : (rows after : List NodeRow) (o : Operand) (ns : List ℕ) (n h : ℕ) (e : Phrase) → ContentStands o.content rows e ≡ ((is_list e ≡ true) × StandAt (parts_of e) rows ns) → n ≡ length rows → after ≡ rows ++ (row (node CommaForm o.start o.«end» None) ns ∷ []) → h ≡ min 65 (o.height + 1) → Stands rows o e → IsSingle after (record { node = n; level = o.level; height = h; start = o.start; «end» = o.«end» }) e
single-of-parts rows after o ns n h e c number added up s =
    let there : (is_list e ≡ true) × StandAt (parts_of e) rows ns = subst (λ (X : Type 0). X) c s.content in
    let same : node CommaForm o.start o.«end» None ≡ node CommaForm (start_of e) (end_of e) None = node-same CommaForm o.start o.«end» (start_of e) (end_of e) None s.start s.stop in
    let new : IsTreeAt (TreeOf (node CommaForm o.start o.«end» None) (parts_of e)) (rows ++ (row (node CommaForm o.start o.«end» None) ns ∷ [])) (length rows) = new-tree rows (node CommaForm o.start o.«end» None) (parts_of e) ns there.1 in
    let is : TreeOf (node CommaForm o.start o.«end» None) (parts_of e) ≡ tree_of e = ap (λ x. TreeOf x (parts_of e)) same ∙ sym (list-tree e there.0) in
    let deep : depth (tree_of e) ≡ suc (deepest (parts_of e)) = list-depth e there.0 in
    let height : h ≡ min 65 (depth (tree_of e)) = omega (arith, s.height) in
    record {
      level_is = s.level_is;
      start = s.start;
      stop = s.stop;
      height = height;
      tree = subst (λ x. IsTreeAt x after n) is (subst (λ x. IsTreeAt (TreeOf (node CommaForm o.start o.«end» None) (parts_of e)) x n) (sym added) (subst (λ x. IsTreeAt (TreeOf (node CommaForm o.start o.«end» None) (parts_of e)) (rows ++ (row (node CommaForm o.start o.«end» None) ns ∷ [])) x) (sym number) new));
    }

pub parts-of-node : (rows : List NodeRow) (n : ℕ) (e : Phrase) → ContentStands (Node n) rows e → StandAt (parts_of e) rows (n ∷ [])
parts-of-node rows n e h = subst (λ x. StandAt x rows (n ∷ [])) (sym (parts-alone e h.0)) (h.1, tt)

-- A new node

pub made-stands : (rows after : List NodeRow) (o : Operand) (lev : ℕ) (target : Bool) (height : ℕ) (nd is : TheNode) (numbers : List ℕ) (kids : Trees) (e : Phrase) → o ≡ noded lev target height nd (length rows) → after ≡ rows ++ (row nd numbers ∷ []) → nd ≡ is → meaning e ≡ alone (TreeOf is kids) → is_list e ≡ false → lev ≡ level e → target ≡ is_target e → is.start ≡ start_of e → is.«end» ≡ end_of e → height ≡ min 65 (depth_with kids is.form 0) → StandAt kids rows numbers → Stands after o e
made-stands rows after o lev target height nd is numbers kids e same added nodes m plain l t s u h k =
    let tree : tree_of e ≡ TreeOf is kids = ap (λ (x : Meaning). x.tree) m in
    let parts : parts_of e ≡ one (TreeOf is kids) = ap (λ (x : Meaning). x.parts) m in
    let new : IsTreeAt (TreeOf nd kids) (rows ++ (row nd numbers ∷ [])) (length rows) = new-tree rows nd kids numbers k in
    let at_after : IsTreeAt (TreeOf nd kids) after (length rows) = subst (λ x. IsTreeAt (TreeOf nd kids) x (length rows)) (sym added) new in
    let there : IsTreeAt (tree_of e) after (length rows) = subst (λ x. IsTreeAt x after (length rows)) (ap (λ x. TreeOf x kids) nodes ∙ sym tree) at_after in
    let high : height ≡ min 65 (deepest (parts_of e)) = h ∙ ap (λ x. min 65 x) (sym (depth-of is kids) ∙ (sym (depth-one (TreeOf is kids)) ∙ ap deepest (sym parts))) in
    let made : Stands after (noded lev target height nd (length rows)) e = record {
      level_is = l;
      target = t;
      start = ap (λ (x : TheNode). x.start) nodes ∙ s;
      stop = ap (λ (x : TheNode). x.«end») nodes ∙ u;
      height = high;
      content = (plain, there);
    } in
    subst (λ x. Stands after x e) (sym same) made
