-- Copies of what a tree keeps.
use Rattle.std.proofs.Common.{◌≡◌, ℕ, zero, suc, ◌+◌, Bool, true, false, cond, List, [], ◌∷◌, ◌++◌, take, Option, Some, None, refl, sym, ◌∙◌, ap, ap₂, subst, arith}
use Rattle.std.specs.Prelude.{slice_get, map}
use Rattle.std.specs.List.{AllByRecursion, IsDistinct}
use Rattle.std.specs.Map.{keys_of, lookup}
use Rattle.std.proofs.lemmas.Cmp.{nat_list_eq_equiv}
use Rattle.std.specs.HashMap.{HashMap}
use Rattle.indexmap.specs.IndexMap.{get, insert_entry}
use Rattle.indexmap.proofs.CallerLemmas.{insert_entry-new}
use Rattle.bml_bytes.specs.Words.{is_same}
use Rattle.dom_tree.specs.Items.{Item}
use Rattle.dom_tree.specs.Links.{items_in, links_in, AreLinked, IsIndexOf, IsKept}
use Rattle.dom_tree.specs.NodeNumbers.{number_of}
use Rattle.dom_tree.specs.Walks.{node_of_id, IsTree}
use Rattle.dom_tree.specs.declared.nodes.Node.{Node}
use Rattle.dom_tree.specs.declared.node_ids.NodeId.{NodeId}

-- ---- entries of a map one by one

all-at : {V : Type 0} (P : List ℕ → Type 0) (es : List (List ℕ × V)) (k : ℕ) (e : List ℕ × V) → slice_get es k ≡ Some e → AllByRecursion P (keys_of es) → P e.0
all-at P [] k e got h = absurd (cc got)
all-at P (x ∷ es) zero e got h = let same : x ≡ e = cc got in subst (λ y. P y.0) same h.0
all-at P (x ∷ es) (suc k) e got h = all-at P es k e got h.1

-- the key at a place isn't among those in front of it
pub none-before : {V : Type 0} (es : List (List ℕ × V)) (k : ℕ) (e : List ℕ × V) → IsDistinct is_same (keys_of es) → slice_get es k ≡ Some e → lookup (is_same e.0) (take k es) ≡ None
unfolding IsDistinct
none-before [] k e h got = absurd (cc got)
none-before (x ∷ es) zero e h got = refl
none-before (x ∷ es) (suc k) e h got =
    let apart : is_same e.0 x.0 ≡ false = nat_list_eq_equiv.symm e.0 x.0 ∙ all-at (λ y. is_same x.0 y ≡ false) es k e got h.0 in
    rw apart (none-before es k e h.1 got)

-- a new key goes last
pub put-last : {V S : Type 0} (old new : HashMap (List ℕ) V S) (n name : List ℕ) (v value : V) → n ≡ name → v ≡ value → get is_same old name ≡ None → new.entries ≡ insert_entry is_same old.entries n v → new.entries ≡ old.entries ++ (name, value) ∷ []
put-last old new n name v value n_is v_is absent put = put ∙ (ap₂ (insert_entry is_same old.entries) n_is v_is ∙ insert_entry-new is_same old name value absent)

-- one entry more
pub take-more : {A : Type 0} (xs : List A) (k : ℕ) (x : A) → slice_get xs k ≡ Some x → take k xs ++ x ∷ [] ≡ take (k + 1) xs
take-more [] k x got = absurd (cc got)
take-more (y ∷ xs) zero x got = let same : x ≡ y = cc got in ap (λ z. z ∷ []) same
take-more (y ∷ xs) (suc k) x got =
    let e : suc (k + 1) ≡ suc k + 1 = omega arith in
    subst (λ j. y ∷ (take k xs ++ x ∷ []) ≡ take j (y ∷ xs)) e (ap (λ z. y ∷ z) (take-more xs k x got))

-- ---- a tree of the same nodes and ids

pub IsKept-copy : {S T : Type 0} (old new : List Node) (ids : HashMap (List ℕ) NodeId S) (copy : HashMap (List ℕ) NodeId T) → items_in new ≡ items_in old → links_in new ≡ links_in old → copy.entries ≡ ids.entries → IsKept old ids → IsKept new copy
IsKept-copy old new ids copy items links entries kept = record {
  tree = subst IsTree (sym items) kept.tree;
  linked = subst (λ i. AreLinked i (links_in new)) (sym items) (subst (λ l. AreLinked (items_in old) l) (sym links) kept.linked);
  indexed = λ id. ap (λ es. number_of (lookup (is_same id) es)) entries ∙ (kept.indexed id ∙ ap (λ i. node_of_id i id) (sym items));
}
