-- Lists read and changed at one place, the places of a test, and who stands behind whom in a list.
use Rattle.std.proofs.Common.{◌≡◌, ◌≢◌, ℕ, zero, suc, ◌+◌, ◌<◌, ◌≤◌, Bool, true, false, cond, nat_eq, List, [], ◌∷◌, ◌++◌, length, Option, Some, None, ◌⊎◌, refl, ◌∙◌, ap, subst, inl, inr, arith}
use Rattle.std.specs.Prelude.{slice_get, slice_set, map, option_map, unwrap_or}
use Rattle.std.proofs.lemmas.Bool.{eqb-true, eq-eqb, cases_eq}
use Rattle.dom_tree.specs.Items.{changed_at}
use Rattle.dom_tree.specs.Walks.{places_from, first, last, after, before}

-- Reading at a place

pub slice_get-append : {A : Type 0} (xs ys : List A) (i : ℕ) → i < length xs → slice_get (xs ++ ys) i ≡ slice_get xs i
slice_get-append [] ys i h = absurd (omega (arith, h))
slice_get-append (x ∷ xs) ys zero h = refl
slice_get-append (x ∷ xs) ys (suc i) h = slice_get-append xs ys i (omega (arith, h))

pub slice_get-append-last : {A : Type 0} (xs : List A) (x : A) → slice_get (xs ++ x ∷ []) (length xs) ≡ Some x
slice_get-append-last [] x = refl
slice_get-append-last (y ∷ xs) x = slice_get-append-last xs x

pub slice_get-some : {A : Type 0} (xs : List A) (i : ℕ) → i < length xs → (x : A) × (slice_get xs i ≡ Some x)
slice_get-some [] i h = absurd (omega (arith, h))
slice_get-some (x ∷ xs) zero h = (x, refl)
slice_get-some (x ∷ xs) (suc i) h = slice_get-some xs i (omega (arith, h))

-- Changing at a place

pub length-changed_at : {A : Type 0} (f : A → A) (i : ℕ) (xs : List A) → length (changed_at f i xs) ≡ length xs
length-changed_at f i [] = refl
length-changed_at f zero (x ∷ xs) = refl
length-changed_at f (suc i) (x ∷ xs) = ap suc (length-changed_at f i xs)

pub slice_get-changed_at : {A : Type 0} (f : A → A) (i : ℕ) (xs : List A) → slice_get (changed_at f i xs) i ≡ option_map f (slice_get xs i)
slice_get-changed_at f i [] = refl
slice_get-changed_at f zero (x ∷ xs) = refl
slice_get-changed_at f (suc i) (x ∷ xs) = slice_get-changed_at f i xs

pub slice_get-changed_at-other : {A : Type 0} (f : A → A) (i : ℕ) (xs : List A) (j : ℕ) → i ≢ j → slice_get (changed_at f i xs) j ≡ slice_get xs j
slice_get-changed_at-other f i [] j h = refl
slice_get-changed_at-other f zero (x ∷ xs) zero h = absurd (h refl)
slice_get-changed_at-other f zero (x ∷ xs) (suc j) h = refl
slice_get-changed_at-other f (suc i) (x ∷ xs) zero h = refl
slice_get-changed_at-other f (suc i) (x ∷ xs) (suc j) h = slice_get-changed_at-other f i xs j (λ e. h (ap suc e))

-- a list in which one element was replaced, seen through g
pub map-slice_set-changed_at : {A B : Type 0} (g : A → B) (f : B → B) (xs : List A) (i : ℕ) (x v : A) → slice_get xs i ≡ Some x → g v ≡ f (g x) → map g (slice_set xs i v) ≡ changed_at f i (map g xs)
map-slice_set-changed_at g f [] i x v h e = refl
map-slice_set-changed_at g f (y ∷ xs) zero x v h e = ap (λ w. w ∷ map g xs) (e ∙ ap (λ w. f (g w)) (let k : x ≡ y = cc h in k))
map-slice_set-changed_at g f (y ∷ xs) (suc i) x v h e = ap (λ w. g y ∷ w) (map-slice_set-changed_at g f xs i x v h e)

pub map-slice_set-same : {A B : Type 0} (g : A → B) (xs : List A) (i : ℕ) (x v : A) → slice_get xs i ≡ Some x → g v ≡ g x → map g (slice_set xs i v) ≡ map g xs
map-slice_set-same g [] i x v h e = refl
map-slice_set-same g (y ∷ xs) zero x v h e = ap (λ w. w ∷ map g xs) (e ∙ ap g (let k : x ≡ y = cc h in k))
map-slice_set-same g (y ∷ xs) (suc i) x v h e = ap (λ w. g y ∷ w) (map-slice_set-same g xs i x v h e)

-- a change that g doesn't see
pub map-changed_at : {A B : Type 0} (g : A → B) (f : A → A) (i : ℕ) (xs : List A) → ((x : A) → g (f x) ≡ g x) → map g (changed_at f i xs) ≡ map g xs
map-changed_at g f i [] h = refl
map-changed_at g f zero (x ∷ xs) h = ap (λ w. w ∷ map g xs) (h x)
map-changed_at g f (suc i) (x ∷ xs) h = ap (λ w. g x ∷ w) (map-changed_at g f i xs h)

-- two changes that make the same of the element there
pub changed_at-alike : {A : Type 0} (f g : A → A) (i : ℕ) (xs : List A) (x : A) → slice_get xs i ≡ Some x → f x ≡ g x → changed_at f i xs ≡ changed_at g i xs
changed_at-alike f g i [] x h e = refl
changed_at-alike f g zero (y ∷ xs) x h e = let k : x ≡ y = cc h in ap (λ w. w ∷ xs) (subst (λ w. f w ≡ g w) k e)
changed_at-alike f g (suc i) (y ∷ xs) x h e = ap (λ w. y ∷ w) (changed_at-alike f g i xs x h e)

-- The places of a test

cond-append : (b : Bool) (k : ℕ) (q z : List ℕ) → cond b (k ∷ (q ++ z)) (q ++ z) ≡ cond b (k ∷ q) q ++ z
cond-append true k q z = refl
cond-append false k q z = refl

-- one element more
pub places_from-append : {A : Type 0} (t : A → Bool) (k : ℕ) (xs : List A) (x : A) → places_from t k (xs ++ x ∷ []) ≡ places_from t k xs ++ cond (t x) ((k + length xs) ∷ []) []
places_from-append t k [] x = let e : k + 0 ≡ k = omega arith in rw e refl
places_from-append t k (y ∷ xs) x =
    let e : k + suc (length xs) ≡ k + 1 + length xs = omega arith in
    rw (places_from-append t (k + 1) xs x, e) (cond-append (t y) k (places_from t (k + 1) xs) (cond (t x) ((k + 1 + length xs) ∷ []) []))

pub places_from-map : {A B : Type 0} (t : B → Bool) (f : A → B) (k : ℕ) (xs : List A) → places_from t k (map f xs) ≡ places_from (λ x. t (f x)) k xs
places_from-map t f k [] = refl
places_from-map t f k (x ∷ xs) = rw (places_from-map t f (k + 1) xs) refl

-- n is one of the numbers
abbrev pub In : List ℕ → ℕ → Type 0
In [] n = ⊥
In (x ∷ xs) n = (x ≡ n) ⊎ In xs n

-- the numbers ascend, from k on
abbrev pub Ascends : ℕ → List ℕ → Type 0
Ascends k [] = Unit {0}
Ascends k (x ∷ xs) = (k ≤ x) × Ascends (x + 1) xs

Ascends-lower : (j k : ℕ) (xs : List ℕ) → j ≤ k → Ascends k xs → Ascends j xs
Ascends-lower j k [] h a = tt
Ascends-lower j k (x ∷ xs) h a = (omega (arith, a.0), a.1)

Ascends-cond : (b : Bool) (k : ℕ) (q : List ℕ) → Ascends (k + 1) q → Ascends k (cond b (k ∷ q) q)
Ascends-cond true k q a = (omega arith, a)
Ascends-cond false k q a = Ascends-lower k (k + 1) q (omega arith) a

pub Ascends-places_from : {A : Type 0} (t : A → Bool) (k : ℕ) (xs : List A) → Ascends k (places_from t k xs)
Ascends-places_from t k [] = tt
Ascends-places_from t k (x ∷ xs) = Ascends-cond (t x) k (places_from t (k + 1) xs) (Ascends-places_from t (k + 1) xs)

-- n is the place of an element that passes, counted from k
pub record IsPlace {A : Type 0} (t : A → Bool) (k : ℕ) (xs : List A) (n : ℕ) : Type 0 where
  pub index : ℕ
  pub element : A
  pub is : n ≡ k + index
  pub got : slice_get xs index ≡ Some element
  pub passes : t element ≡ true

IsPlace-behind : {A : Type 0} (t : A → Bool) (k : ℕ) (x : A) (xs : List A) (n : ℕ) → IsPlace t (k + 1) xs n → IsPlace t k (x ∷ xs) n
IsPlace-behind t k x xs n p = record { index = suc p.index; element = p.element; is = omega (arith, p.is); got = p.got; passes = p.passes }

IsPlace-cond : {A : Type 0} (t : A → Bool) (k : ℕ) (x : A) (xs : List A) (n : ℕ) (b : Bool) → t x ≡ b → ((In (places_from t (k + 1) xs) n) → IsPlace t (k + 1) xs n) → In (cond b (k ∷ places_from t (k + 1) xs) (places_from t (k + 1) xs)) n → IsPlace t k (x ∷ xs) n
IsPlace-cond t k x xs n true e more (inl h) = record { index = 0; element = x; is = omega (arith, h); got = refl; passes = e }
IsPlace-cond t k x xs n true e more (inr h) = IsPlace-behind t k x xs n (more h)
IsPlace-cond t k x xs n false e more h = IsPlace-behind t k x xs n (more h)

pub IsPlace-from : {A : Type 0} (t : A → Bool) (k : ℕ) (xs : List A) (n : ℕ) → In (places_from t k xs) n → IsPlace t k xs n
IsPlace-from t k [] n h = absurd h
IsPlace-from t k (x ∷ xs) n h = IsPlace-cond t k x xs n (t x) refl (IsPlace-from t (k + 1) xs n) h

In-cond : (b : Bool) (k : ℕ) (q : List ℕ) (n : ℕ) → In q n → In (cond b (k ∷ q) q) n
In-cond true k q n h = inr h
In-cond false k q n h = h

In-here : (b : Bool) (k : ℕ) (q : List ℕ) → b ≡ true → In (cond b (k ∷ q) q) k
In-here true k q e = inl refl
In-here false k q e = absurd (cc e)

pub In-places_from : {A : Type 0} (t : A → Bool) (k : ℕ) (xs : List A) (i : ℕ) (x : A) → slice_get xs i ≡ Some x → t x ≡ true → In (places_from t k xs) (k + i)
In-places_from t k [] i x h p = absurd (cc h)
In-places_from t k (y ∷ xs) zero x h p = let e : k + 0 ≡ k = omega arith in let same : y ≡ x = cc h in rw e (In-here (t y) k (places_from t (k + 1) xs) (ap t same ∙ p))
In-places_from t k (y ∷ xs) (suc i) x h p = let e : k + suc i ≡ k + 1 + i = omega arith in rw e (In-cond (t y) k (places_from t (k + 1) xs) (k + 1 + i) (In-places_from t (k + 1) xs i x h p))

-- The ends of a list, and neighbours in it

pub first-append : (c : List ℕ) (m : ℕ) → first (c ++ m ∷ []) ≡ Some (unwrap_or (first c) m)
first-append [] m = refl
first-append (x ∷ c) m = refl

pub last-append : (c : List ℕ) (m : ℕ) → last (c ++ m ∷ []) ≡ Some m
last-append [] m = refl
last-append (x ∷ []) m = refl
last-append (x ∷ y ∷ c) m = last-append (y ∷ c) m

pub In-last : (c : List ℕ) (n : ℕ) → last c ≡ Some n → In c n
In-last [] n h = absurd (cc h)
In-last (x ∷ []) n h = inl (cc h)
In-last (x ∷ y ∷ c) n h = inr (In-last (y ∷ c) n h)

pub Ascends-In : (k : ℕ) (c : List ℕ) (n : ℕ) → Ascends k c → In c n → k ≤ n
Ascends-In k [] n a h = absurd h
Ascends-In k (x ∷ c) n a (inl h) = omega (arith, a.0, h)
Ascends-In k (x ∷ c) n a (inr h) = omega (arith, a.0, Ascends-In (x + 1) c n a.1 h)

-- what a test of two numbers is
pub eqb-same : (n : ℕ) → nat_eq n n ≡ true
eqb-same n = eq-eqb n n refl

pub eqb_false : (a b : ℕ) → a ≢ b → nat_eq a b ≡ false
eqb_false a b h = by (nat_eq a b) refl
  where
    by : (r : Bool) → nat_eq a b ≡ r → r ≡ false
    by true e = absurd (h (eqb-true a b e))
    by false e = refl

-- the new last one stands behind the one that was last
pub after-last : (k : ℕ) (c : List ℕ) (n m : ℕ) → Ascends k c → last c ≡ Some n → after (c ++ m ∷ []) n ≡ Some m
after-last k [] n m a h = absurd (cc h)
after-last k (x ∷ []) n m a h = let e : x ≡ n = cc h in rw (eq-eqb x n e) refl
after-last k (x ∷ y ∷ c) n m a h =
    let low : x + 1 ≤ n = Ascends-In (x + 1) (y ∷ c) n a.1 (In-last (y ∷ c) n h) in
    let ne : x ≢ n = omega arith in
    rw (eqb_false x n ne) (after-last (x + 1) (y ∷ c) n m a.1 h)

In-behind : (x : ℕ) (c : List ℕ) (n : ℕ) → x ≢ n → In (x ∷ c) n → In c n
In-behind x c n ne (inl e) = absurd (ne e)
In-behind x c n ne (inr k) = k

after-append-step : (x y : ℕ) (c : List ℕ) (n m : ℕ) → In (x ∷ y ∷ c) n → (In (y ∷ c) n → after ((y ∷ c) ++ m ∷ []) n ≡ after (y ∷ c) n) → (x ≡ n) ⊎ (x ≡ n → ⊥) → after (x ∷ y ∷ (c ++ m ∷ [])) n ≡ after (x ∷ y ∷ c) n
after-append-step x y c n m h more (inl e) = rw (eq-eqb x n e) refl
after-append-step x y c n m h more (inr ne) = rw (eqb_false x n ne) (more (In-behind x (y ∷ c) n ne h))

-- the others are followed as they were
pub after-append : (c : List ℕ) (n m : ℕ) → In c n → last c ≢ Some n → after (c ++ m ∷ []) n ≡ after c n
after-append [] n m h l = absurd h
after-append (x ∷ []) n m (inl h) l = absurd (l (ap Some h))
after-append (x ∷ []) n m (inr h) l = absurd h
after-append (x ∷ y ∷ c) n m h l = after-append-step x y c n m h (λ k. after-append (y ∷ c) n m k l) (cases_eq x n)

-- the new one is followed by none
pub after-new : (c : List ℕ) (m : ℕ) → (In c m → ⊥) → after (c ++ m ∷ []) m ≡ None
after-new [] m h = rw (eqb-same m) refl
after-new (x ∷ c) m h = rw (eqb_false x m (λ e. h (inl e))) (after-new c m (λ k. h (inr k)))

-- whoever isn't new follows whom it followed
pub before-append : (c : List ℕ) (n m : ℕ) → m ≢ n → before (c ++ m ∷ []) n ≡ before c n
before-append [] n m h = refl
before-append (x ∷ []) n m h = rw (eqb_false m n h) refl
before-append (x ∷ y ∷ c) n m h = rw (before-append (y ∷ c) n m h) refl

-- the new one follows the one that was last
pub before-new : (c : List ℕ) (m : ℕ) → (In c m → ⊥) → before (c ++ m ∷ []) m ≡ last c
before-new [] m h = refl
before-new (x ∷ []) m h = rw (eqb-same m) refl
before-new (x ∷ y ∷ c) m h = rw (eqb_false y m (λ e. h (inr (inl e)))) (before-new (y ∷ c) m (λ k. h (inr k)))

-- what stands at each place after a change
pub slice_get-changed_at-each : {A : Type 0} (f : A → A) (i : ℕ) (xs : List A) (j : ℕ) → slice_get (changed_at f i xs) j ≡ option_map (λ x. cond (nat_eq i j) (f x) x) (slice_get xs j)
slice_get-changed_at-each {A = A} f i xs j = by (cases_eq i j)
  where
    by : (i ≡ j) ⊎ (i ≡ j → ⊥) → slice_get (changed_at f i xs) j ≡ option_map (λ x. cond (nat_eq i j) (f x) x) (slice_get xs j)
    by (inl e) = rw (eq-eqb i j e) (subst (λ w. slice_get (changed_at f i xs) w ≡ option_map f (slice_get xs w)) e (slice_get-changed_at f i xs))
    by (inr ne) = rw (eqb_false i j ne) (slice_get-changed_at-other f i xs j ne ∙ unmapped (slice_get xs j))
      where
        unmapped : (o : Option A) → o ≡ option_map (λ x. x) o
        unmapped None = refl
        unmapped (Some x) = refl

pub empty-In : (c : List ℕ) → ((n : ℕ) → In c n → ⊥) → c ≡ []
empty-In [] h = refl
empty-In (x ∷ c) h = absurd (h x (inl refl))

pub append-none : (c : List ℕ) → c ++ [] ≡ c
append-none [] = refl
append-none (x ∷ c) = ap (λ w. x ∷ w) (append-none c)
