-- Event items are elements of their document, and so are those that are noted to have fired, whatever becomes of them.
use Rattle.std.proofs.Common.{◌≡◌, ◌↔◌, ℕ, Bool, true, false, List, [], ◌∷◌, length, map, Some, refl, sym, ◌∙◌, ap, length-set}
use Rattle.std.specs.Prelude.{◌==◌, All, Contains, codes, fold, if◌then◌else◌, is_some, nat_eq}
use Rattle.std.proofs.lemmas.List.{length-map}
use Rattle.std.proofs.lemmas.List.Elements.{All-cons, All-contains_itself, All-head, All-map, All-nil, All-tail, All-weaker}
use Rattle.indexmap.specs.IndexMap.{insert_entry}
use Rattle.dom_tree.specs.Items.{Item, tag_of}
use Rattle.multipart_entities.specs.declared.paths.Path.{Path}
use Rattle.event_messages.specs.declared.messages.Message.{Message}
use Rattle.event_messages.specs.ItemFirings.{KeptFirings, no_firings, with_firing as with_message}
use Rattle.event_messages.specs.Kept.{FiringsOfItems, firings_of, forgotten_in}
use Rattle.event_items.specs.EventItems.{EventItem, event_items}
use Rattle.event_items.specs.Subscriptions.{ItemsState, first_items, starts_subscribed, with_firing, with_subscribed}
use Rattle.document_stages.specs.Acting.{Acting}
use Rattle.page_laws.specs.Soundness.{has_element}

-- something is done for each of these items, one behind the other
abbrev pub told_in_turn : (EventItem → Acting → Acting) → List EventItem → Acting → Acting
told_in_turn step items a = fold (λ (acting : Acting) (item : EventItem). step item acting) a items

-- the item is an element, and what fired is one
abbrev pub IsOfElement : List Item → EventItem → Type 0
IsOfElement nodes item = has_element nodes item.node ≡ true

abbrev pub AreOfElement : List Item → (ℕ × KeptFirings) → Type 0
AreOfElement nodes firings = has_element nodes firings.0 ≡ true

-- what a document keeps of its items fits its nodes
pub record AreGoodItems (nodes : List Item) (s : ItemsState) : Type 0 where
  pub items : All (IsOfElement nodes) s.items
  pub subscribed : length s.subscribed ≡ length nodes
  pub fired : All (AreOfElement nodes) s.fired

-- ---- at first

-- that an item is an element of its tag
abbrev pub ItemNodes : Type 0
ItemNodes =
    (base : Path) (nodes : List Item) (node : ℕ)
    → Contains (map (λ (item : EventItem). item.node) (event_items base nodes)) node
    ↔ (tag_of nodes node ≡ Some (codes "beitem"))

by-nodes : (P : ℕ → Type 0) (items : List EventItem)
    → All P (map (λ (item : EventItem). item.node) items)
    → All (λ (item : EventItem). P item.node) items
by-nodes P [] all = All-nil (λ (item : EventItem). P item.node)
by-nodes P (item ∷ items) all =
    let others : List ℕ = map (λ (item : EventItem). item.node) items in
    All-cons (λ (item : EventItem). P item.node) item items (All-head P item.node others all)
    (by-nodes P items (All-tail P item.node others all))

pub first-good : ItemNodes → (base : Path) (nodes : List Item)
    → AreGoodItems nodes (first_items base nodes)
first-good law base nodes =
    let numbers : List ℕ = map (λ (item : EventItem). item.node) (event_items base nodes) in
    record {
      items = by-nodes (λ (node : ℕ). has_element nodes node ≡ true) (event_items base nodes)
          (All-weaker (Contains numbers) (λ (node : ℕ). has_element nodes node ≡ true)
          (λ node listed. ap is_some ((law base nodes node).0 listed)) numbers
          (All-contains_itself numbers));
      subscribed = length-map nodes starts_subscribed;
      fired = All-nil (AreOfElement nodes);
    }

-- ---- an item fires

inserted-all : (nodes : List Item) (node : ℕ) (kept : KeptFirings) (fired : FiringsOfItems)
    → has_element nodes node ≡ true → All (AreOfElement nodes) fired
    → All (AreOfElement nodes) (insert_entry nat_eq fired node kept)
inserted-all nodes node kept [] there all =
    All-cons (AreOfElement nodes) (node, kept) [] there all
inserted-all nodes node kept (entry ∷ fired) there all =
    by (nat_eq node entry.0) (All-head (AreOfElement nodes) entry fired all)
    (All-tail (AreOfElement nodes) entry fired all)
    (inserted-all nodes node kept fired there (All-tail (AreOfElement nodes) entry fired all))
  where
    by : (t : Bool) → AreOfElement nodes entry → All (AreOfElement nodes) fired
        → All (AreOfElement nodes) (insert_entry nat_eq fired node kept)
        → All (AreOfElement nodes)
        (if t then (entry.0, kept) ∷ fired else entry ∷ insert_entry nat_eq fired node kept)
    by true own rest more = All-cons (AreOfElement nodes) (entry.0, kept) fired own rest
    by false own rest more =
        All-cons (AreOfElement nodes) entry (insert_entry nat_eq fired node kept) own more

pub noted-good : (nodes : List Item) (node : ℕ) (message : Message) (s : ItemsState)
    → has_element nodes node ≡ true → AreGoodItems nodes s
    → AreGoodItems nodes (with_firing node message s)
noted-good nodes node message s there good = record {
  items = good.items;
  subscribed = good.subscribed;
  fired = inserted-all nodes node (with_message message (firings_of node s.fired)) s.fired there
      good.fired;
}

-- ---- subscriptions

abbrev forgotten_by : Bool → (ℕ × KeptFirings) → (ℕ × KeptFirings)
forgotten_by t entry = if t then (entry.0, no_firings) else entry

forgotten-number : (node : ℕ) (entry : ℕ × KeptFirings) → (forgotten_in node entry).0 ≡ entry.0
forgotten-number node entry = by (node == entry.0)
  where
    by : (t : Bool) → (forgotten_by t entry).0 ≡ entry.0
    by true = refl
    by false = refl

pub subscribed-good : (nodes : List Item) (node : ℕ) (truth : Bool) (s : ItemsState)
    → AreGoodItems nodes s → AreGoodItems nodes (with_subscribed node truth s)
subscribed-good nodes node true s good = record {
  items = good.items;
  subscribed = length-set s.subscribed node true ∙ good.subscribed;
  fired = good.fired;
}
subscribed-good nodes node false s good = record {
  items = good.items;
  subscribed = length-set s.subscribed node false ∙ good.subscribed;
  fired = All-map (AreOfElement nodes) (forgotten_in node) s.fired
      (All-weaker (AreOfElement nodes)
      (λ (entry : ℕ × KeptFirings). AreOfElement nodes (forgotten_in node entry))
      (λ entry h. ap (has_element nodes) (forgotten-number node entry) ∙ h) s.fired good.fired);
}

-- ---- other nodes

-- where as many nodes have the same elements
pub moved-good : (nodes now : List Item) → length now ≡ length nodes
    → ((node : ℕ) → has_element now node ≡ has_element nodes node) → (s : ItemsState)
    → AreGoodItems nodes s → AreGoodItems now s
moved-good nodes now count same s good = record {
  items = All-weaker (IsOfElement nodes) (IsOfElement now) (λ item h. same item.node ∙ h) s.items
      good.items;
  subscribed = good.subscribed ∙ sym count;
  fired = All-weaker (AreOfElement nodes) (AreOfElement now) (λ firings h. same firings.0 ∙ h)
      s.fired good.fired;
}
