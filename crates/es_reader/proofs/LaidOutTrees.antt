-- Each tree has nodes in rows, behind any that are there.
use Rattle.std.proofs.Common.{ℕ, List, [], ◌∷◌, ◌++◌, length, refl}
use Rattle.es_expressions.specs.Trees.{Tree, Trees}
use Rattle.es_expressions.specs.Trees.Tree.{TreeOf}
use Rattle.es_expressions.specs.Trees.Trees.{NoTrees, OneMore}
use Rattle.es_expressions.specs.Nodes.{NodeRow, IsTreeAt}
use Rattle.es_reader.specs.Parts.{MayGrow}
use Rattle.es_reader.specs.Programs.{AreTreesOf}
use Rattle.es_reader.proofs.TreeLemmas.{row, pushed-tree, tree-grows, grows-refl, grows-trans, grows-by}

pub record LaidOut (tree : Tree) (before : List NodeRow) : Type 0 where
  pub after : List NodeRow
  pub grows : MayGrow before after
  pub number : ℕ
  pub at : IsTreeAt tree after number

pub record AllLaidOut (trees : Trees) (before : List NodeRow) : Type 0 where
  pub after : List NodeRow
  pub grows : MayGrow before after
  pub numbers : List ℕ
  pub are : AreTreesOf trees after numbers

mutual
  pub laid-out : (t : Tree) (before : List NodeRow) → LaidOut t before
  laid-out (TreeOf nd kids) before =
      let k = all-laid-out kids before in
      record {
        after = k.after ++ (row nd k.numbers ∷ []);
        grows = grows-trans before k.after (k.after ++ (row nd k.numbers ∷ [])) k.grows (grows-by k.after (k.after ++ (row nd k.numbers ∷ [])) (row nd k.numbers) refl);
        number = length k.after;
        at = pushed-tree k.after (k.after ++ (row nd k.numbers ∷ [])) nd nd kids k.numbers (length k.after) k.are refl refl refl;
      }

  pub all-laid-out : (ts : Trees) (before : List NodeRow) → AllLaidOut ts before
  all-laid-out NoTrees before = record { after = before; grows = grows-refl before; numbers = []; are = tt }
  all-laid-out (OneMore t ts) before =
      let a = laid-out t before in
      let b = all-laid-out ts a.after in
      record {
        after = b.after;
        grows = grows-trans before a.after b.after a.grows b.grows;
        numbers = a.number ∷ b.numbers;
        are = (tree-grows t a.after b.after a.number b.grows a.at, b.are);
      }
