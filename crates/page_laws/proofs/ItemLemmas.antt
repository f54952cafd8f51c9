-- Changes of texts and attributes leave a tree, and what is read is one.
use Rattle.std.proofs.Common.{◌≡◌, ℕ, zero, suc, ◌<◌, ◌≤◌, List, [], ◌∷◌, take, Option, Some, None, refl, sym, ◌∙◌, ap, subst, arith}
use Rattle.std.specs.Prelude.{IsSome, IsSomeAnd}
use Rattle.dom_tree.specs.Items.{Attribute, Item, changed_at, parent_of}
use Rattle.dom_tree.specs.Nested.{Nested, items_of, node_count}
use Rattle.dom_tree.specs.Nested.Nested.{ElementNode, NoNodes, TextNode}
use Rattle.dom_tree.specs.Walks.{HangsBefore, IsOpen, IsTree, KeepsPlaces, most_nodes}
use Rattle.bml_reader.specs.Faults.{ReadsWell}
use Rattle.bml_reader.specs.Grammar.{Contents, IsDocument, IsRooted, tree_of}
use Rattle.bml_reader.specs.Grammar.Contents.{Nothing, Text, Section, Aside, DocumentType, Element, EmptyElement}

-- ---- changes

take-changed : {A : Type 0} (f : A → A) (place n : ℕ) (xs : List A)
    → take n (changed_at f place xs) ≡ changed_at f place (take n xs)
take-changed f place zero xs = refl
take-changed f place (suc n) [] = refl
take-changed f zero (suc n) (x ∷ xs) = refl
take-changed f (suc place) (suc n) (x ∷ xs) = ap (λ more. x ∷ more) (take-changed f place n xs)

there-still : (o : Option ℕ) (P Q : ℕ → Type 0) → ((n : ℕ) → P n → Q n) → IsSomeAnd o P
    → IsSomeAnd o Q
there-still None P Q f h = absurd h
there-still (Some n) P Q f h = f n h

-- whatever is done to one node, if it leaves all nodes of all lists where they are
pub changed-tree : (f : Item → Item) (place : ℕ)
    → ((items : List Item) → KeepsPlaces items (changed_at f place items))
    → (items : List Item) → IsTree items → IsTree (changed_at f place items)
changed-tree f place keeps items tree =
    let k = keeps items in
    let new : List Item = changed_at f place items in
    let same = λ (node : ℕ). sym (k.tags node) in
    record {
      root = (
        subst IsSome (same 0) tree.root.0,
        k.parents 0 ∙ tree.root.1,
      );
      others = λ node h within.
          subst (λ (o : Option ℕ). IsSomeAnd o (HangsBefore new node)) (sym (k.parents node))
          (there-still (parent_of items node) (HangsBefore items node) (HangsBefore new node)
          (λ up hangs. (
            hangs.0,
            subst IsSome (same up) hangs.1,
            subst (λ (l : List Item). IsOpen l up) (sym (take-changed f place node items))
                ((keeps (take node items)).open_still up hangs.2),
          ))
          (tree.others node h (omega (arith, k.count))));
      count = omega (arith, k.count, tree.count);
    }

-- ---- what is read

-- an element with all that is in it, and nothing behind it
abbrev IsRoot : Nested → Type 0
IsRoot NoNodes = ⊥
IsRoot (TextNode text following) = ⊥
IsRoot (ElementNode tag attributes children NoNodes) = Unit {0}
IsRoot (ElementNode tag attributes children following) = ⊥

rooted : (document : Contents) → IsRooted document → IsRoot (tree_of document)
rooted Nothing h = h
rooted (Text bytes following) h = rooted following h.1
rooted (Section bytes following) h = absurd h
rooted (Aside following) h = rooted following h
rooted (DocumentType following) h = absurd h
rooted (Element tag attributes inside following) h = tt
rooted (EmptyElement tag attributes following) h = tt

is-root : (document : Contents) → IsDocument document → IsRoot (tree_of document)
is-root Nothing h = h
is-root (Text bytes following) h = is-root following h.1
is-root (Section bytes following) h = absurd h
is-root (Aside following) h = is-root following h
is-root (DocumentType following) h = rooted following h
is-root (Element tag attributes inside following) h = tt
is-root (EmptyElement tag attributes following) h = tt

-- that nested nodes are the tree of a document, where an element stands alone
abbrev pub OneIsTree : Type 0
OneIsTree =
    (tag : List ℕ) (attributes : List Attribute) (children : Nested)
    → node_count (ElementNode tag attributes children NoNodes) ≤ most_nodes
    → IsTree (items_of (ElementNode tag attributes children NoNodes))

root-tree : OneIsTree → (nested : Nested) → IsRoot nested → node_count nested ≤ most_nodes
    → IsTree (items_of nested)
root-tree one NoNodes h few = absurd h
root-tree one (TextNode text following) h few = absurd h
root-tree one (ElementNode tag attributes children NoNodes) h few =
    one tag attributes children few
root-tree one (ElementNode tag attributes children (TextNode text following)) h few = absurd h
root-tree one (ElementNode tag attributes children (ElementNode t a c following)) h few = absurd h

few-nodes : (count : ℕ) → (most_nodes < count → ⊥) → count ≤ most_nodes
few-nodes count h = omega arith

pub read-tree : OneIsTree → (bytes : List ℕ) (items : List Item) → ReadsWell bytes items
    → IsTree items
read-tree one bytes items well =
    let root : IsRoot well.tree = subst IsRoot (sym well.reads.stands_for)
    (is-root well.reads.document well.reads.is_document) in
    subst IsTree (sym well.nodes)
    (root-tree one well.tree root (few-nodes (node_count well.tree) well.count))
