-- Paths to the root of a tree.
use Rattle.std.proofs.Common.{◌≡◌, ◌≢◌, ◌↔◌, ℕ, zero, suc, ◌+◌, ◌-◌, ◌<◌, List, [], ◌∷◌, length, take, Option, Some, None, ◌⊎◌, inl, inr, refl, sym, ◌∙◌, ap, subst, arith, add-one}
use Rattle.std.specs.Prelude.{Contains, IsSomeAnd}
use Rattle.std.specs.Option.{option_map_or}
use Rattle.std.proofs.lemmas.Bool.{cases_eq}
use Rattle.dom_tree.specs.Items.{Item, parent_of, IsElement}
use Rattle.dom_tree.specs.Walks.{path_within, path_of, IsOpen, IsTree}

-- each node hangs in one of a smaller number
pub record Falls (items : List Item) : Type 0 where
  pub falls : (n q : ℕ) → parent_of items n ≡ Some q → q < n

pub parent_of-within : (items : List Item) (n q : ℕ) → parent_of items n ≡ Some q → n < length items
parent_of-within [] n q h = absurd (cc h)
parent_of-within (item ∷ items) zero q h = omega arith
parent_of-within (item ∷ items) (suc n) q h = omega (arith, parent_of-within items n q h)

pub IsSomeAnd-at : (o : Option ℕ) (q : ℕ) (P : ℕ → Type 0) → o ≡ Some q → IsSomeAnd o P → P q
IsSomeAnd-at None q P e h = absurd h
IsSomeAnd-at (Some n) q P e h = let same : n ≡ q = cc e in subst P same h

parent-facts-by : (items : List Item) → IsTree items → (n q : ℕ) → parent_of items n ≡ Some q → (n ≡ 0) ⊎ (n ≡ 0 → ⊥) → (q < n) × IsElement items q
parent-facts-by items tree n q h (inl e) =
    let root : parent_of items n ≡ None = ap (parent_of items) e ∙ tree.root.1 in
    let none : Some q ≡ None = sym h ∙ root in
    absurd (cc none)
parent-facts-by items tree n q h (inr ne) =
    let low : 0 < n = omega arith in
    let facts = IsSomeAnd-at (parent_of items n) q (λ up. (up < n) × IsElement items up × IsOpen (take n items) up) h (tree.others n low (parent_of-within items n q h)) in
    (facts.0, facts.1)

-- what a node hangs in
pub parent-facts : (items : List Item) → IsTree items → (n q : ℕ) → parent_of items n ≡ Some q → (q < n) × IsElement items q
parent-facts items tree n q h = parent-facts-by items tree n q h (cases_eq n 0)

pub Falls-tree : (items : List Item) → IsTree items → Falls items
Falls-tree items tree = record { falls = λ n q h. (parent-facts items tree n q h).0 }

path_within-more-up : (items : List Item) (a b : ℕ) (o : Option ℕ) → ((q : ℕ) → o ≡ Some q → path_within a items q ≡ path_within b items q) → option_map_or (path_within a items) o [] ≡ option_map_or (path_within b items) o []
path_within-more-up items a b None h = refl
path_within-more-up items a b (Some q) h = h q refl

-- a path is no longer than its first node's number and one
path_within-more : (items : List Item) → Falls items → (a b n : ℕ) → n < a → n < b → path_within a items n ≡ path_within b items n
path_within-more items f zero b n h k = absurd (omega (arith, h))
path_within-more items f (suc a) zero n h k = absurd (omega (arith, k))
path_within-more items f (suc a) (suc b) n h k = ap (λ w. n ∷ w) (path_within-more-up items a b (parent_of items n) (λ q e. let low : q < n = f.falls n q e in path_within-more items f a b q (omega arith) (omega arith)))

pub path_within-of : (items : List Item) → Falls items → (a n : ℕ) → n < a → path_within a items n ≡ path_of items n
path_within-of items f a n h = path_within-more items f a (n + 1) n h (omega arith)

path_of-step-up : (items : List Item) → Falls items → (n : ℕ) (o : Option ℕ) → ((q : ℕ) → o ≡ Some q → q < n) → option_map_or (path_within n items) o [] ≡ option_map_or (path_of items) o []
path_of-step-up items f n None h = refl
path_of-step-up items f n (Some q) h = path_within-of items f n q (h q refl)

-- the path goes on with the path of what the node hangs in
pub path_of-step : (items : List Item) → Falls items → (n : ℕ) → path_of items n ≡ n ∷ option_map_or (path_of items) (parent_of items n) []
path_of-step items f n = rw add-one (ap (λ w. n ∷ w) (path_of-step-up items f n (parent_of items n) (λ q e. f.falls n q e)))

-- Elements of a list

pub Contains-behind : (x : ℕ) (xs : List ℕ) (n : ℕ) → Contains xs n → Contains (x ∷ xs) n
Contains-behind x xs n c = (suc c.0, omega (arith, c.1), c.2)

pub Contains-here : (n : ℕ) (xs : List ℕ) → Contains (n ∷ xs) n
Contains-here n xs = (0, omega arith, refl)

pub Contains-cases : (x : ℕ) (xs : List ℕ) (n : ℕ) → Contains (x ∷ xs) n → (x ≡ n) ⊎ Contains xs n
Contains-cases x xs n (zero, h, e) = inl e
Contains-cases x xs n (suc k, h, e) = inr (k, omega (arith, h), e)

pub Contains-none : (n : ℕ) → Contains [] n → ⊥
Contains-none n (k, h, e) = omega (arith, h)

path_within-first : (count : ℕ) (items : List Item) (n : ℕ) → 0 < count → Contains (path_within count items n) n
path_within-first zero items n h = absurd (omega (arith, h))
path_within-first (suc count) items n h = Contains-here n (option_map_or (path_within count items) (parent_of items n) [])

Contains-up-in : (items : List Item) (count : ℕ) (o : Option ℕ) (n q : ℕ) → ((up : ℕ) → o ≡ Some up → Contains (path_within count items up) n → Contains (path_within count items up) q) → Contains (option_map_or (path_within count items) o []) n → Contains (option_map_or (path_within count items) o []) q
Contains-up-in items count None n q more c = absurd (Contains-none n c)
Contains-up-in items count (Some up) n q more c = more up refl c

Contains-up-by : (items : List Item) → Falls items → (count from n q : ℕ) → from < suc count → parent_of items n ≡ Some q → ((up : ℕ) → up < count → Contains (path_within count items up) n → Contains (path_within count items up) q) → (from ≡ n) ⊎ Contains (option_map_or (path_within count items) (parent_of items from) []) n → Contains (from ∷ option_map_or (path_within count items) (parent_of items from) []) q
Contains-up-by items f count from n q h e more (inl same) =
    let up : parent_of items from ≡ Some q = ap (parent_of items) same ∙ e in
    let low : q < from = f.falls from q up in
    rw up (Contains-behind from (path_within count items q) q (path_within-first count items q (omega arith)))
Contains-up-by items f count from n q h e more (inr c) = Contains-behind from (option_map_or (path_within count items) (parent_of items from) []) q (Contains-up-in items count (parent_of items from) n q (λ up is. let low : up < from = f.falls from up is in more up (omega arith)) c)

-- with a node, a path has what it hangs in
pub Contains-up : (items : List Item) → Falls items → (count from n q : ℕ) → from < count → parent_of items n ≡ Some q → Contains (path_within count items from) n → Contains (path_within count items from) q
Contains-up items f zero from n q h e c = absurd (omega (arith, h))
Contains-up items f (suc count) from n q h e c = Contains-up-by items f count from n q h e (λ up low. Contains-up items f count up n q low e) (Contains-cases from (option_map_or (path_within count items) (parent_of items from) []) n c)

pub IsOpen-up : (items : List Item) → IsTree items → (n q : ℕ) → parent_of items n ≡ Some q → IsOpen items n → IsOpen items q
IsOpen-up items tree n q e c = Contains-up items (Falls-tree items tree) (length items - 1 + 1) (length items - 1) n q (omega arith) e c

pub IsOpen-last : (items : List Item) → IsOpen items (length items - 1)
IsOpen-last items = path_within-first (length items - 1 + 1) items (length items - 1) (omega arith)

Contains-not-first : (x : ℕ) (xs : List ℕ) (n : ℕ) → x ≢ n → Contains (x ∷ xs) n → Contains xs n
Contains-not-first x xs n ne c = by (Contains-cases x xs n c)
  where
    by : (x ≡ n) ⊎ Contains xs n → Contains xs n
    by (inl e) = absurd (ne e)
    by (inr k) = k

-- a step up the path, from a node that isn't looked for
pub Contains-step : (items : List Item) (n p : ℕ) (up : Option ℕ) (P : Type 0) → path_of items p ≡ p ∷ option_map_or (path_of items) up [] → p ≢ n → P ↔ Contains (path_of items p) n → P ↔ Contains (option_map_or (path_of items) up []) n
Contains-step items n p up P e ne h = (λ x. Contains-not-first p (option_map_or (path_of items) up []) n ne (subst (λ w. Contains w n) e (h.0 x)), λ c. h.1 (subst (λ w. Contains w n) (sym e) (Contains-behind p (option_map_or (path_of items) up []) n c)))

pub path_of-first : (items : List Item) (n : ℕ) → Contains (path_of items n) n
path_of-first items n = path_within-first (n + 1) items n (omega arith)

Contains-path-by : (items : List Item) → Falls items → (count from n q : ℕ) → from < suc count → Contains (path_of items n) q → ((up : ℕ) → up < count → Contains (path_within count items up) n → Contains (path_within count items up) q) → (from ≡ n) ⊎ Contains (option_map_or (path_within count items) (parent_of items from) []) n → Contains (path_within (suc count) items from) q
Contains-path-by items f count from n q h d more (inl same) = subst (λ w. Contains w q) (sym (path_within-of items f (suc count) from h)) (subst (λ k. Contains (path_of items k) q) (sym same) d)
Contains-path-by items f count from n q h d more (inr c) = Contains-behind from (option_map_or (path_within count items) (parent_of items from) []) q (Contains-up-in items count (parent_of items from) n q (λ up is. let low : up < from = f.falls from up is in more up (omega arith)) c)

-- with a node, a path has that node's whole path
pub Contains-path : (items : List Item) → Falls items → (count from n q : ℕ) → from < count → Contains (path_within count items from) n → Contains (path_of items n) q → Contains (path_within count items from) q
Contains-path items f zero from n q h c d = absurd (omega (arith, h))
Contains-path items f (suc count) from n q h c d = Contains-path-by items f count from n q h d (λ up low k. Contains-path items f count up n q low k d) (Contains-cases from (option_map_or (path_within count items) (parent_of items from) []) n c)

pub IsOpen-path : (items : List Item) → Falls items → (n q : ℕ) → IsOpen items n → Contains (path_of items n) q → IsOpen items q
IsOpen-path items f n q c d = Contains-path items f (length items - 1 + 1) (length items - 1) n q (omega arith) c d
