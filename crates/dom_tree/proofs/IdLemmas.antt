-- The first node of an id, once a node was added or changed.
use Rattle.std.proofs.Common.{◌≡◌, ℕ, zero, suc, ◌+◌, min, Bool, true, false, cond, List, [], ◌∷◌, drop, Option, Some, refl, sym, ◌∙◌, ap, subst, arith}
use Rattle.std.specs.Prelude.{slice_get, map, option_map, codes}
use Rattle.std.specs.Option.{option_map_or}
use Rattle.std.proofs.lemmas.List.{append-nil}
use Rattle.std.specs.HashMap.{HashMap}
use Rattle.bml_bytes.specs.Words.{is_same}
use Rattle.dom_tree.specs.Items.{Item, Content, Attribute, attributes_in, value_in, has_id, changed_at, with_text, with_attribute, with_value}
use Rattle.dom_tree.specs.Items.Content.{Element, Text}
use Rattle.dom_tree.specs.Walks.{places, places_from, first, node_of_id}
use Rattle.dom_tree.specs.Links.{content_of, item_of, items_in, IsIndexOf}
use Rattle.std.proofs.lemmas.Option.{slice_get-map}
use Rattle.dom_tree.specs.declared.nodes.Node.{Node}
use Rattle.dom_tree.specs.declared.node_ids.NodeId.{NodeId}
use Rattle.dom_tree.proofs.PlaceLemmas.{places_from-append, places_from-map, map-changed_at, Ascends, Ascends-places_from}
use Rattle.dom_tree.proofs.EntryLemmas.{is_same-true, value_in-other, value_in-given}
use Rattle.dom_tree.proofs.GrowLemmas.{grown}

-- the places of a test are those of its answers
places-answers : {A : Type 0} (t : A → Bool) (xs : List A) → places t xs ≡ places (λ b. b) (map t xs)
places-answers t xs = sym (places_from-map (λ b. b) t 0 xs)

-- a change that no test for an id sees
pub node_of_id-alike : (id : List ℕ) (f : Item → Item) (n : ℕ) (items : List Item) → ((item : Item) → has_id id (f item) ≡ has_id id item) → node_of_id (changed_at f n items) id ≡ node_of_id items id
node_of_id-alike id f n items h = ap first (places-answers (has_id id) (changed_at f n items) ∙ ap (places (λ b. b)) (map-changed_at (has_id id) f n items h) ∙ sym (places-answers (has_id id) items))

map-changed_at-there : {A B : Type 0} (g : A → B) (f : A → A) (i : ℕ) (xs : List A) (x : A) → slice_get xs i ≡ Some x → g (f x) ≡ g x → map g (changed_at f i xs) ≡ map g xs
map-changed_at-there g f i [] x h e = refl
map-changed_at-there g f zero (y ∷ xs) x h e = let same : x ≡ y = cc h in ap (λ w. w ∷ map g xs) (subst (λ w. g (f w) ≡ g w) same e)
map-changed_at-there g f (suc i) (y ∷ xs) x h e = ap (λ w. g y ∷ w) (map-changed_at-there g f i xs x h e)

-- a change that the test for this id doesn't see at this node
pub node_of_id-unseen : (id : List ℕ) (f : Item → Item) (n : ℕ) (items : List Item) (item : Item) → slice_get items n ≡ Some item → has_id id (f item) ≡ has_id id item → node_of_id (changed_at f n items) id ≡ node_of_id items id
node_of_id-unseen id f n items item got h = ap first (places-answers (has_id id) (changed_at f n items) ∙ ap (places (λ b. b)) (map-changed_at-there (has_id id) f n items item got h) ∙ sym (places-answers (has_id id) items))

-- one more that passes
least-first : (c : List ℕ) (k : ℕ) → Ascends (k + 1) c → Some k ≡ Some (option_map_or (min (k + 0)) (first c) (k + 0))
least-first [] k a = ap Some (omega arith)
least-first (x ∷ c) k a = ap Some (omega (arith, a.0))

least-behind : (k n : ℕ) → Some k ≡ Some (min (k + suc n) k)
least-behind k n = ap Some (omega arith)

first-seen-by : (b : Bool) (k n : ℕ) (new old : List ℕ) → first new ≡ Some (option_map_or (min (k + 1 + n)) (first old) (k + 1 + n)) → first (cond b (k ∷ new) new) ≡ Some (option_map_or (min (k + suc n)) (first (cond b (k ∷ old) old)) (k + suc n))
first-seen-by true k n new old h = least-behind k n
first-seen-by false k n new old h = let e : k + suc n ≡ k + 1 + n = omega arith in rw e h

first-seen : {A : Type 0} (t : A → Bool) (f : A → A) (k n : ℕ) (xs : List A) (x : A) → slice_get xs n ≡ Some x → t x ≡ false → t (f x) ≡ true → first (places_from t k (changed_at f n xs)) ≡ Some (option_map_or (min (k + n)) (first (places_from t k xs)) (k + n))
first-seen t f k n [] x h unseen seen = absurd (cc h)
first-seen t f k zero (y ∷ xs) x h unseen seen =
    let same : x ≡ y = cc h in
    let before : t y ≡ false = subst (λ w. t w ≡ false) same unseen in
    let now : t (f y) ≡ true = subst (λ w. t (f w) ≡ true) same seen in
    rw (now, before) (least-first (places_from t (k + 1) xs) k (Ascends-places_from t (k + 1) xs))
first-seen t f k (suc n) (y ∷ xs) x h unseen seen = first-seen-by (t y) k n (places_from t (k + 1) (changed_at f n xs)) (places_from t (k + 1) xs) (first-seen t f (k + 1) n xs x h unseen seen)

pub node_of_id-seen : (id : List ℕ) (f : Item → Item) (n : ℕ) (items : List Item) (item : Item) → slice_get items n ≡ Some item → has_id id item ≡ false → has_id id (f item) ≡ true → node_of_id (changed_at f n items) id ≡ Some (option_map_or (min n) (node_of_id items id) n)
node_of_id-seen id f n items item got unseen seen =
    let e : 0 + n ≡ n = omega arith in
    subst (λ k. node_of_id (changed_at f n items) id ≡ Some (option_map_or (min k) (node_of_id items id) k)) e (first-seen (has_id id) f 0 n items item got unseen seen)

-- A node more

has_id-bare : (id : List ℕ) (parent : Option ℕ) (content : Content) → attributes_in content ≡ [] → has_id id (record { parent = parent; content = content }) ≡ false
has_id-bare id parent content h = rw h refl

pub node_of_id-grown : (items : List Item) (up : ℕ) (content : Content) (id : List ℕ) → attributes_in content ≡ [] → node_of_id (grown items up content) id ≡ node_of_id items id
node_of_id-grown items up content id h = ap first (places_from-append (has_id id) 0 items (record { parent = Some up; content = content }) ∙ rw (has_id-bare id (Some up) content h) (append-nil (places (has_id id) items)))

-- Another text

pub has_id-with_text : (id text : List ℕ) (parent : Option ℕ) (content : Content) → has_id id (with_text text (record { parent = parent; content = content })) ≡ has_id id (record { parent = parent; content = content })
has_id-with_text id text parent (Element tag attributes) = refl
has_id-with_text id text parent (Text _) = refl

-- Another value

-- where the name isn't `id`
pub has_id-with_attribute : (id name value : List ℕ) (parent : Option ℕ) (content : Content) → is_same name (codes "id") ≡ false → has_id id (with_attribute name value (record { parent = parent; content = content })) ≡ has_id id (record { parent = parent; content = content })
has_id-with_attribute id name value parent (Element tag attributes) h = ap (λ o. option_map_or (is_same id) o false) (value_in-other attributes name value (codes "id") h)
has_id-with_attribute id name value parent (Text text) h = refl

-- the id that was given is there
pub has_id-given : (id name value : List ℕ) (parent : Option ℕ) (tag : List ℕ) (attributes : List Attribute) → is_same name (codes "id") ≡ true → has_id id (with_attribute name value (record { parent = parent; content = Element tag attributes })) ≡ is_same id value
has_id-given id name value parent tag attributes h =
    let same : name ≡ codes "id" = is_same-true name (codes "id") h in
    ap (λ o. option_map_or (is_same id) o false) (subst (λ w. value_in (with_value attributes name value) w ≡ Some value) same (value_in-given attributes name value))

-- the index stays where no first node changes
pub IsIndexOf-same : {S : Type 0} (ids : HashMap (List ℕ) NodeId S) (old new : List Item) → ((id : List ℕ) → node_of_id new id ≡ node_of_id old id) → IsIndexOf ids old → IsIndexOf ids new
IsIndexOf-same ids old new h index = λ id. index id ∙ sym (h id)

-- Looking for it, node by node

first-cond : (b : Bool) (k : ℕ) (c : List ℕ) → first (cond b (k ∷ c) c) ≡ cond b (Some k) (first c)
first-cond true k c = refl
first-cond false k c = refl

first-step : {A : Type 0} (t : A → Bool) (k : ℕ) (xs : List A) (i : ℕ) (x : A) → slice_get xs i ≡ Some x → first (places_from t k (drop i xs)) ≡ cond (t x) (Some k) (first (places_from t (k + 1) (drop (suc i) xs)))
first-step t k [] i x h = absurd (cc h)
first-step t k (y ∷ xs) zero x h = let same : y ≡ x = cc h in rw (← same) (first-cond (t y) k (places_from t (k + 1) xs))
first-step t k (y ∷ xs) (suc i) x h = first-step t k xs i x h

pub node_of_id-step : (nodes : List Node) (id name : List ℕ) (i : ℕ) (node : Node) (found : Bool) → slice_get nodes i ≡ Some node → is_same name (codes "id") ≡ true → found ≡ option_map_or (is_same id) (value_in (attributes_in (content_of node.kind)) name) false → first (places_from (has_id id) i (drop i (items_in nodes))) ≡ cond found (Some i) (first (places_from (has_id id) (i + 1) (drop (i + 1) (items_in nodes))))
node_of_id-step nodes id name i node found got is_id e =
    let same : name ≡ codes "id" = is_same-true name (codes "id") is_id in
    let read : slice_get (items_in nodes) i ≡ Some (item_of node) = slice_get-map item_of nodes i ∙ ap (option_map item_of) got in
    let here : has_id id (item_of node) ≡ found = ap (λ w. option_map_or (is_same id) (value_in (attributes_in (content_of node.kind)) w) false) (sym same) ∙ sym e in
    let next : suc i ≡ i + 1 = omega arith in
    first-step (has_id id) i (items_in nodes) i (item_of node) read
    ∙ (ap (λ b. cond b (Some i) (first (places_from (has_id id) (i + 1) (drop (suc i) (items_in nodes))))) here
    ∙ ap (λ j. cond found (Some i) (first (places_from (has_id id) (i + 1) (drop j (items_in nodes))))) next)
