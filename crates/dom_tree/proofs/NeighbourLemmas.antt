-- Where a node's neighbours stand.
use Rattle.std.proofs.Common.{◌≡◌, ℕ, ◌+◌, ◌<◌, true, List, [], ◌∷◌, length, Option, Some, None, ◌⊎◌, inl, inr, refl, sym, ◌∙◌, ap, subst, arith}
use Rattle.std.specs.Prelude.{slice_get, option_and_then, IfSome, IsSome}
use Rattle.std.proofs.lemmas.Option.{slice_get_within}
use Rattle.std.proofs.lemmas.Bool.{cases_eq, eq-eqb}
use Rattle.dom_tree.specs.Items.{Item, Content, parent_of, tag_in, IsElement, has_id}
use Rattle.dom_tree.specs.Items.Content.{Element, Text}
use Rattle.dom_tree.specs.Walks.{places, first, last, after, before, hangs_in, children_of, siblings_of, node_of_id, IsTree}
use Rattle.dom_tree.specs.NodeNumbers.{number_of}
use Rattle.dom_tree.specs.Links.{item_of, LeadsTo, LeadsInside}
use Rattle.dom_tree.specs.declared.nodes.Node.{Node}
use Rattle.dom_tree.specs.declared.node_ids.NodeId.{NodeId}
use Rattle.dom_tree.proofs.PlaceLemmas.{In, In-last, Ascends, Ascends-In, Ascends-places_from, IsPlace, IsPlace-from, eqb_false}
use Rattle.dom_tree.proofs.PathLemmas.{Falls, Falls-tree, parent-facts, parent_of-within}
use Rattle.dom_tree.proofs.GrowLemmas.{parent_of-child, parent_of-place}
use Rattle.dom_tree.proofs.LinkLemmas.{parent_of-item}

pub IfSome-number : (o : Option NodeId) (x : Option ℕ) (P : ℕ → Type 0) → number_of o ≡ x → ((k : ℕ) → x ≡ Some k → P k) → IfSome o (λ n. P n.0)
IfSome-number None x P e h = tt
IfSome-number (Some m) x P e h = h m.0 (sym e)

pub In-first : (c : List ℕ) (n : ℕ) → first c ≡ Some n → In c n
In-first [] n h = absurd (cc h)
In-first (x ∷ c) n h = inl (cc h)

after-behind-by : (x : ℕ) (c : List ℕ) (n k : ℕ) → Ascends (x + 1) c → (x ≡ n) ⊎ (x ≡ n → ⊥) → (after c n ≡ Some k → (n < k) × In c k) → after (x ∷ c) n ≡ Some k → (n < k) × In (x ∷ c) k
after-behind-by x c n k a (inl e) more h =
    let step : after (x ∷ c) n ≡ first c = rw (eq-eqb x n e) refl in
    let is : first c ≡ Some k = sym step ∙ h in
    (omega (arith, e, Ascends-In (x + 1) c k a (In-first c k is)), inr (In-first c k is))
after-behind-by x c n k a (inr ne) more h =
    let step : after (x ∷ c) n ≡ after c n = rw (eqb_false x n ne) refl in
    let found = more (sym step ∙ h) in
    (found.0, inr found.1)

-- whoever follows n stands behind it
after-behind : (j : ℕ) (c : List ℕ) (n k : ℕ) → Ascends j c → after c n ≡ Some k → (n < k) × In c k
after-behind j [] n k a h = absurd (cc h)
after-behind j (x ∷ c) n k a h = after-behind-by x c n k a.1 (cases_eq x n) (after-behind (x + 1) c n k a.1) h

before-front-by : (x y : ℕ) (c : List ℕ) (n k : ℕ) → x < y → (y ≡ n) ⊎ (y ≡ n → ⊥) → (before (y ∷ c) n ≡ Some k → k < n) → before (x ∷ y ∷ c) n ≡ Some k → k < n
before-front-by x y c n k low (inl e) more h =
    let step : before (x ∷ y ∷ c) n ≡ Some x = rw (eq-eqb y n e) refl in
    let is : Some x ≡ Some k = sym step ∙ h in
    let same : x ≡ k = cc is in
    omega arith
before-front-by x y c n k low (inr ne) more h =
    let step : before (x ∷ y ∷ c) n ≡ before (y ∷ c) n = rw (eqb_false y n ne) refl in
    more (sym step ∙ h)

-- whomever n follows stands before it
before-front : (j : ℕ) (c : List ℕ) (n k : ℕ) → Ascends j c → before c n ≡ Some k → k < n
before-front j [] n k a h = absurd (cc h)
before-front j (x ∷ []) n k a h = absurd (cc h)
before-front j (x ∷ y ∷ c) n k a h = before-front-by x y c n k (omega (arith, a.1.0)) (cases_eq y n) (before-front (x + 1) (y ∷ c) n k a.1) h

child-behind : (items : List Item) → Falls items → (up k : ℕ) → In (children_of items up) k → (up < k) × (k < length items)
child-behind items f up k h = let hangs : parent_of items k ≡ Some up = parent_of-child items up k h in (f.falls k up hangs, parent_of-within items k up hangs)

sibling-within : (items : List Item) (o : Option ℕ) (k : ℕ) → In (places (hangs_in o) items) k → k < length items
sibling-within items o k h = let p = parent_of-place items o k h in slice_get_within items k p.0 p.1

pub LeadsInside-tree : (items : List Item) (n : ℕ) (node : Node) → IsTree items → slice_get items n ≡ Some (item_of node) → LeadsTo items n node → LeadsInside items n node
LeadsInside-tree items n node tree got leads =
    let f : Falls items = Falls-tree items tree in
    let rises : Ascends 0 (siblings_of items n) = Ascends-places_from (hangs_in (parent_of items n)) 0 items in
    record {
      parent = IfSome-number node.parent (parent_of items n) (λ k. (k < n) × IsElement items k) (sym (parent_of-item items n (item_of node) got)) (λ k e. parent-facts items tree n k e);
      first_child = IfSome-number node.first_child (first (children_of items n)) (λ k. (n < k) × (k < length items)) leads.first_child (λ k e. child-behind items f n k (In-first (children_of items n) k e));
      last_child = IfSome-number node.last_child (last (children_of items n)) (λ k. (n < k) × (k < length items)) leads.last_child (λ k e. child-behind items f n k (In-last (children_of items n) k e));
      next_sibling = IfSome-number node.next_sibling (after (siblings_of items n) n) (λ k. (n < k) × (k < length items)) leads.next_sibling (λ k e. let b = after-behind 0 (siblings_of items n) n k rises e in (b.0, sibling-within items (parent_of items n) k b.1));
      previous_sibling = IfSome-number node.previous_sibling (before (siblings_of items n) n) (λ k. k < n) leads.previous_sibling (λ k e. before-front 0 (siblings_of items n) n k rises e);
    }

has_id-element : (id : List ℕ) (parent : Option ℕ) (content : Content) → has_id id (record { parent = parent; content = content }) ≡ true → IsSome (tag_in content)
has_id-element id parent (Element tag attributes) h = refl
has_id-element id parent (Text text) h = absurd (cc h)

-- a node found by its id is an element
pub node_of_id-element : (items : List Item) (id : List ℕ) (k : ℕ) → node_of_id items id ≡ Some k → (k < length items) × IsElement items k
node_of_id-element items id k e =
    let p : IsPlace (has_id id) 0 items k = IsPlace-from (has_id id) 0 items k (In-first (places (has_id id) items) k e) in
    let is : p.index ≡ k = omega (arith, p.is) in
    let got : slice_get items k ≡ Some p.element = ap (slice_get items) (sym is) ∙ p.got in
    (slice_get_within items k p.element got, subst (λ o. IsSome (option_and_then (λ i. tag_in i.content) o)) (sym got) (has_id-element id p.element.parent p.element.content p.passes))
