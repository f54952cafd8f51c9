-- Which items fire for a data event, and how the first ones are gathered.
use Rattle.std.proofs.Common.{◌≡◌, ◌∙◌, ℕ, Bool, true, false, cond, zero, suc, ◌+◌, ◌<◌, ◌≤◌, List, [], ◌∷◌, ◌++◌, length, map, take, get_or, Some, inl, inr, refl, sym, ap, subst, arith}
use Rattle.std.specs.Prelude.{Contains, filter, if◌then◌else◌}
use Rattle.std.proofs.lemmas.Bool.{and_parts, and_from}
use Rattle.std.proofs.lemmas.List.{length-append, length-map, map-append, take_all, take_at}
use Rattle.std.proofs.lemmas.List.Elements.{filter_more}
use Rattle.std.proofs.Math.Seq.{take-length}
use Rattle.dom_tree.specs.declared.node_ids.NodeId.{NodeId}
use Rattle.event_queue.specs.declared.item_kinds.ItemKind.TheVariants as kinds
use Rattle.event_items.specs.EventItems.{EventItem, is_kind}
use Rattle.event_items.specs.Subscriptions.{ItemsState, data_event_items, fires_for_data_event, is_subscribed, most_data_event_items}
use Rattle.event_items.proofs.MatchLemmas.{kind-is, kind-passes}
use Rattle.event_items.proofs.NodeLemmas.{IsNumbered, contains-behind, contains-cases, contains-here, contains-none, numbered}

abbrev nodes_of : List EventItem → List ℕ
nodes_of items = map (λ (item : EventItem). item.node) items

-- ---- what is taken and what passes a test

take-few : (n : ℕ) (xs : List ℕ) → length (take n xs) ≤ n
take-few zero xs = omega arith
take-few (suc n) [] = omega arith
take-few (suc n) (x ∷ xs) = let more = take-few n xs in omega (arith, more)

take-inside : (n : ℕ) (xs : List ℕ) (y : ℕ) → Contains (take n xs) y → Contains xs y
take-inside zero xs y c = absurd (contains-none y c)
take-inside (suc n) [] y c = c
take-inside (suc n) (x ∷ xs) y c =
    elim (contains-cases x (take n xs) y c) [
      | inl e ↦ subst (λ (z : ℕ). Contains (x ∷ xs) z) e (contains-here x xs)
      | inr behind ↦ contains-behind x xs y (take-inside n xs y behind)
    ]

-- what is taken twice
take-front : (n : ℕ) (xs ys : List ℕ) → take n (take n xs ++ ys) ≡ take n (xs ++ ys)
take-front zero xs ys = refl
take-front (suc n) [] ys = refl
take-front (suc n) (x ∷ xs) ys = ap (λ (rest : List ℕ). x ∷ rest) (take-front n xs ys)

map-length : (items : List EventItem) → length (nodes_of items) ≡ length items
map-length [] = refl
map-length (item ∷ items) = ap suc (map-length items)

mapped : (items : List EventItem) (item : EventItem) → Contains items item → Contains (nodes_of items) item.node
mapped [] item c = absurd (contains-none item c)
mapped (first ∷ items) item c =
    elim (contains-cases first items item c) [
      | inl e ↦ subst (λ (i : EventItem). Contains (nodes_of (first ∷ items)) i.node) e (contains-here first.node (nodes_of items))
      | inr behind ↦ contains-behind first.node (nodes_of items) item.node (mapped items item behind)
    ]

passes-behind : (p : EventItem → Bool) (first : EventItem) (items : List EventItem) (item : EventItem) → Contains items item × (p item ≡ true)
    → Contains (first ∷ items) item × (p item ≡ true)
passes-behind p first items item (c, e) = (contains-behind first items item c, e)

passes-here : (p : EventItem → Bool) (first : EventItem) (items passing : List EventItem) (item : EventItem) (passes : Bool) → p first ≡ passes
    → (Contains passing item → Contains items item × (p item ≡ true)) → Contains (cond passes (first ∷ passing) passing) item
    → Contains (first ∷ items) item × (p item ≡ true)
passes-here p first items passing item true e more c =
    elim (contains-cases first passing item c) [
      | inl same ↦ (subst (λ (i : EventItem). Contains (first ∷ items) i) same (contains-here first items), ap p (sym same) ∙ e)
      | inr rest ↦ passes-behind p first items item (more rest)
    ]
passes-here p first items passing item false e more c = passes-behind p first items item (more c)

filter-inside : (p : EventItem → Bool) (items : List EventItem) (item : EventItem) → Contains (filter p items) item
    → Contains items item × (p item ≡ true)
filter-inside p [] item c = absurd (contains-none item c)
filter-inside p (first ∷ items) item c = passes-here p first items (filter p items) item (p first) refl (filter-inside p items item) c

passing : (p : EventItem → Bool) (items : List EventItem) (item : EventItem) → Contains items item → p item ≡ true
    → Contains (filter p items) item
passing p [] item c e = absurd (contains-none item c)
passing p (first ∷ items) item c e =
    elim (contains-cases first items item c) [
      | inl same ↦ here (p first) (ap p same ∙ e) same
      | inr rest ↦ behind (p first) (passing p items item rest e)
    ]
  where
    here : (passes : Bool) → passes ≡ true → first ≡ item → Contains (cond passes (first ∷ filter p items) (filter p items)) item
    here true e same = subst (λ (i : EventItem). Contains (first ∷ filter p items) i) same (contains-here first (filter p items))
    here false e same = absurd (cc e)

    behind : (passes : Bool) → Contains (filter p items) item → Contains (cond passes (first ∷ filter p items) (filter p items)) item
    behind true c = contains-behind first (filter p items) item c
    behind false c = c

-- ---- the law

pub few-items : (s : ItemsState) → length (data_event_items s) ≤ most_data_event_items
few-items s = take-few most_data_event_items (nodes_of (filter (fires_for_data_event s) s.items))

pub own-items : (s : ItemsState) (node : ℕ) → Contains (data_event_items s) node
    → (item : EventItem) × Contains s.items item × (item.node ≡ node)
    × (item.kind ≡ Some kinds.DataEventChanged) × (is_subscribed node s ≡ true)
own-items s node c =
    let p : EventItem → Bool = fires_for_data_event s in
    let n : IsNumbered (filter p s.items) node = numbered (filter p s.items) node (take-inside most_data_event_items (nodes_of (filter p s.items)) node c) in
    let f = filter-inside p s.items n.item n.inside in
    let both = and_parts (is_subscribed n.item.node s) (is_kind kinds.DataEventChanged n.item) f.1 in
    (n.item, f.0, n.is, kind-is kinds.DataEventChanged n.item.kind both.1, subst (λ (number : ℕ). is_subscribed number s ≡ true) n.is both.0)

pub all-items : (s : ItemsState) (item : EventItem)
    → length (filter (fires_for_data_event s) s.items) ≤ most_data_event_items
    → Contains s.items item → item.kind ≡ Some kinds.DataEventChanged
    → is_subscribed item.node s ≡ true → Contains (data_event_items s) item.node
all-items s item few c kind subscribed =
    let p : EventItem → Bool = fires_for_data_event s in
    let fires : p item ≡ true = and_from (is_subscribed item.node s) (is_kind kinds.DataEventChanged item) subscribed (kind-passes kinds.DataEventChanged item kind) in
    let same = map-length (filter p s.items) in
    subst (λ (nodes : List ℕ). Contains nodes item.node)
    (sym (take_all most_data_event_items (nodes_of (filter p s.items)) (omega (arith, same, few))))
    (mapped (filter p s.items) item (passing p s.items item c fires))

-- ---- the loop

pub most-is : 256 ≡ most_data_event_items
unfolding most_data_event_items
most-is = refl

-- the nodes among these items
abbrev pub nodes_among : ItemsState → List EventItem → List ℕ
nodes_among s items = take most_data_event_items (map (λ (item : EventItem). item.node) (filter (fires_for_data_event s) items))

pub among-few : (s : ItemsState) (items : List EventItem) (nodes : List NodeId) → map (λ (node : NodeId). node.0) nodes ≡ nodes_among s items
    → length nodes ≤ most_data_event_items
among-few s items nodes e =
    subst (λ (n : ℕ). n ≤ most_data_event_items) (ap length (sym e) ∙ length-map nodes (λ (node : NodeId). node.0))
    (take-few most_data_event_items (map (λ (item : EventItem). item.node) (filter (fires_for_data_event s) items)))

abbrev no_nodes : List ℕ
no_nodes = []

none-taken : (n : ℕ) → no_nodes ≡ take n no_nodes
none-taken zero = refl
none-taken (suc n) = refl

pub none-yet : (s : ItemsState) (items : List EventItem) (nodes : List NodeId) → nodes ≡ []
    → map (λ (node : NodeId). node.0) nodes ≡ nodes_among s (take 0 items)
none-yet s items nodes e = ap (map (λ (node : NodeId). node.0)) e ∙ none-taken most_data_event_items

step : (p : EventItem → Bool) (item : EventItem) (passes : Bool) → nodes_of (cond passes (item ∷ []) []) ≡ (if passes then item.node ∷ [] else [])
step p item true = refl
step p item false = refl

-- one item more
pub one-more-item : (s : ItemsState) (items : List EventItem) (index : ℕ) (item : EventItem) (nodes : List ℕ) → index < length items
    → item ≡ get_or items index item → nodes ≡ nodes_among s (take index items)
    → take most_data_event_items (nodes ++ (if fires_for_data_event s item then item.node ∷ [] else []))
    ≡ nodes_among s (take (index + 1) items)
one-more-item s items index item nodes h is e =
    let p : EventItem → Bool = fires_for_data_event s in
    let front = filter p (take index items) in
    let found = get_or items index item in
    let more : filter p (take (index + 1) items) ≡ front ++ cond (p item) (item ∷ []) [] =
    subst (λ (i : EventItem). filter p (take (index + 1) items) ≡ front ++ cond (p i) (i ∷ []) []) (sym is) (filter_more p items index item h) in
    ap (λ (nodes : List ℕ). take most_data_event_items (nodes ++ (if p item then item.node ∷ [] else []))) e
    ∙ take-front most_data_event_items (nodes_of front) (if p item then item.node ∷ [] else [])
    ∙ ap (λ (rest : List ℕ). take most_data_event_items (nodes_of front ++ rest)) (sym (step p item (p item)))
    ∙ ap (take most_data_event_items) (sym (map-append (λ (i : EventItem). i.node) front (cond (p item) (item ∷ []) [])))
    ∙ ap (λ (items : List EventItem). take most_data_event_items (nodes_of items)) (sym more)

pub all-asked : (s : ItemsState) (index : ℕ) (nodes : List ℕ) → index ≡ length s.items → nodes ≡ nodes_among s (take index s.items) → nodes ≡ data_event_items s
all-asked s index nodes all e =
    e ∙ ap (nodes_among s) (ap (λ (n : ℕ). take n s.items) all ∙ take-length s.items)

-- ---- one item

abbrev numbers : List NodeId → List ℕ
numbers nodes = map (λ (node : NodeId). node.0) nodes

-- where there are so many already
pub no-room : (nodes : List NodeId) (more : List ℕ) → length nodes ≡ 256 → numbers nodes ≡ take most_data_event_items (numbers nodes ++ more)
no-room nodes more full =
    sym (take_at (numbers nodes) more most_data_event_items (length-map nodes (λ (node : NodeId). node.0) ∙ full ∙ most-is))

below : (n most : ℕ) → n ≤ most → (n ≡ most → ⊥) → n < most
below n most h ne = omega (arith, h, ne)

longer : (nodes : List NodeId) (number : ℕ) → length nodes ≤ most_data_event_items → (length nodes ≡ 256 → ⊥)
    → length (numbers nodes ++ number ∷ []) ≤ most_data_event_items
longer nodes number few room =
    let apart : length nodes < most_data_event_items = below (length nodes) most_data_event_items few (λ e. room (e ∙ sym most-is)) in
    let same = length-map nodes (λ (node : NodeId). node.0) in
    let long = length-append (numbers nodes) (number ∷ []) in
    rw (long, same) (omega (arith, apart))

-- where there is room, and it fires
pub node-more : (nodes more : List NodeId) (node : NodeId) (number : ℕ) (fires : Bool) → length nodes ≤ most_data_event_items
    → (length nodes ≡ 256 → ⊥) → fires ≡ true → node.0 ≡ number → more ≡ nodes ++ node ∷ []
    → numbers more ≡ take most_data_event_items (numbers nodes ++ (if fires then number ∷ [] else []))
node-more nodes more node number true few room e same pushed =
    ap numbers pushed ∙ map-append (λ (node : NodeId). node.0) nodes (node ∷ [])
    ∙ ap (λ (n : ℕ). numbers nodes ++ n ∷ []) same
    ∙ sym (take_all most_data_event_items (numbers nodes ++ number ∷ []) (longer nodes number few room))
node-more nodes more node number false few room e same pushed = absurd (cc e)
