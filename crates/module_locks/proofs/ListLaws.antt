-- Lists whose items change one after the other, and tests over lists.
use Rattle.std.proofs.Common.{◌≡◌, ◌∙◌, ℕ, zero, suc, ◌+◌, ◌<◌, ◌≤◌, Bool, true, false, cond, List, [], ◌∷◌, length, get_or, set, map, Option, Some, None, refl, sym, ap, subst, arith}
use Rattle.std.specs.Prelude.{All, ◌||◌, not, find, filter, option_map}
use Rattle.std.specs.Option.{option_map_or}
use Rattle.std.specs.List.{list_any, filter_map, cons_option}
use Rattle.std.proofs.lemmas.List.Elements.{All-head, All-tail}

-- ---- items that change

-- the first so many items are changed, and the others not yet
module _ {X : Type 0} where
  abbrev pub changed_front : (X → X) → ℕ → List X → List X
  changed_front f zero xs = xs
  changed_front f (suc n) [] = []
  changed_front f (suc n) (x ∷ xs) = f x ∷ changed_front f n xs

  pub length-changed : (f : X → X) (n : ℕ) (xs : List X) → length (changed_front f n xs) ≡ length xs
  length-changed f zero xs = refl
  length-changed f (suc n) [] = refl
  length-changed f (suc n) (x ∷ xs) = ap (λ k. suc k) (length-changed f n xs)

  pub all_changed : (f : X → X) (n : ℕ) (xs : List X) → length xs ≤ n → changed_front f n xs ≡ map f xs
  all_changed f zero [] h = refl
  all_changed f zero (x ∷ xs) h = absurd (omega arith)
  all_changed f (suc n) [] h = refl
  all_changed f (suc n) (x ∷ xs) h = ap (λ (l : List X). f x ∷ l) (all_changed f n xs (omega arith))

  one_more : (f : X → X) (n : ℕ) (xs : List X) (x y : X) → n < length xs → x ≡ get_or (changed_front f n xs) n x → y ≡ f x
      → set (changed_front f n xs) n y ≡ changed_front f (suc n) xs
  one_more f n [] x y low is new = absurd (omega arith)
  one_more f zero (z ∷ xs) x y low is new = ap (λ (w : X). w ∷ xs) (new ∙ ap f is)
  one_more f (suc n) (z ∷ xs) x y low is new = ap (λ (l : List X). f z ∷ l) (one_more f n xs x y (omega arith) is new)

  -- the next item changes
  pub changed_more : (f : X → X) (n : ℕ) (xs now : List X) (x y : X) → n < length xs → now ≡ changed_front f n xs → x ≡ get_or now n x → y ≡ f x
      → set now n y ≡ changed_front f (n + 1) xs
  changed_more f n xs now x y low same is new =
      let next : suc n ≡ n + 1 = omega arith in
      ap (λ (l : List X). set l n y) same ∙ one_more f n xs x y low (is ∙ ap (λ (l : List X). get_or l n x) same) new ∙ ap (λ k. changed_front f k xs) next

-- ---- items that a function makes

module _ {X Y : Type 0} where
  pub map-same : (P : X → Type 0) (f g : X → Y) → ((x : X) → P x → f x ≡ g x) → (xs : List X) → All P xs → map f xs ≡ map g xs
  map-same P f g same [] all = refl
  map-same P f g same (x ∷ xs) all =
      ap (λ (y : Y). y ∷ map f xs) (same x (All-head P x xs all)) ∙ ap (λ (l : List Y). g x ∷ l) (map-same P f g same xs (All-tail P x xs all))

  pub find-made : (p : Y → Bool) (f : X → Y) (xs : List X) → find p (map f xs) ≡ option_map f (find (λ x. p (f x)) xs)
  find-made p f [] = refl
  find-made p f (x ∷ xs) = elim (p (f x)) as (λ b. cond b (Some (f x)) (find p (map f xs)) ≡ option_map f (cond b (Some x) (find (λ y. p (f y)) xs))) [ true ↦ refl | false ↦ find-made p f xs ]

  pub filter-made : (p : Y → Bool) (f : X → Y) (xs : List X) → filter p (map f xs) ≡ map f (filter (λ x. p (f x)) xs)
  filter-made p f [] = refl
  filter-made p f (x ∷ xs) =
      elim (p (f x)) as (λ b. cond b (f x ∷ filter p (map f xs)) (filter p (map f xs)) ≡ map f (cond b (x ∷ filter (λ y. p (f y)) xs) (filter (λ y. p (f y)) xs)))
      [ true ↦ ap (λ (l : List Y). f x ∷ l) (filter-made p f xs) | false ↦ filter-made p f xs ]

  pub any-made : (p : Y → Bool) (f : X → Y) (xs : List X) → list_any p (map f xs) ≡ list_any (λ x. p (f x)) xs
  any-made p f [] = refl
  any-made p f (x ∷ xs) = ap (λ b. p (f x) || b) (any-made p f xs)

  pub any-made_some : (p : Y → Bool) (f : X → Option Y) (xs : List X) → list_any p (filter_map f xs) ≡ list_any (λ x. option_map_or p (f x) false) xs
  any-made_some p f [] = refl
  any-made_some p f (x ∷ xs) = first (f x) (filter_map f xs) ∙ ap (λ b. option_map_or p (f x) false || b) (any-made_some p f xs)
    where
      first : (o : Option Y) (ys : List Y) → list_any p (cons_option o ys) ≡ (option_map_or p o false || list_any p ys)
      first None ys = refl
      first (Some y) ys = refl

module _ {X Y Z : Type 0} where
  pub map-map : (g : Y → Z) (f : X → Y) (xs : List X) → map g (map f xs) ≡ map (λ x. g (f x)) xs
  map-map g f [] = refl
  map-map g f (x ∷ xs) = ap (λ (l : List Z). g (f x) ∷ l) (map-map g f xs)

-- ---- tests

module _ {X : Type 0} where
  -- what follows from each item that passes follows where one does
  pub from_any : (p : X → Bool) (R : Type 0) → ((x : X) → p x ≡ true → R) → (xs : List X) → list_any p xs ≡ true → R
  from_any p R each [] e = absurd cc
  from_any p R each (x ∷ xs) e = by_test (p x) refl (from_any p R each xs) e
    where
      by_test : (b : Bool) → p x ≡ b → (list_any p xs ≡ true → R) → (b || list_any p xs) ≡ true → R
      by_test true is behind h = each x is
      by_test false is behind h = behind h

  pub any-same : (P : X → Type 0) (p q : X → Bool) → ((x : X) → P x → p x ≡ q x) → (xs : List X) → All P xs → list_any p xs ≡ list_any q xs
  any-same P p q same [] all = refl
  any-same P p q same (x ∷ xs) all =
      ap (λ b. b || list_any p xs) (same x (All-head P x xs all)) ∙ ap (λ b. q x || b) (any-same P p q same xs (All-tail P x xs all))

  -- where one passes, one passes a weaker test
  pub any-weaker : (p q : X → Bool) → ((x : X) → p x ≡ true → q x ≡ true) → (xs : List X) → list_any p xs ≡ true → list_any q xs ≡ true
  any-weaker p q weaker [] e = absurd cc
  any-weaker p q weaker (x ∷ xs) e = by_test (p x) refl (any-weaker p q weaker xs) e
    where
      by_test : (b : Bool) → p x ≡ b → (list_any p xs ≡ true → list_any q xs ≡ true) → (b || list_any p xs) ≡ true → (q x || list_any q xs) ≡ true
      by_test true is behind h = ap (λ b. b || list_any q xs) (weaker x is)
      by_test false is behind h = elim (q x) as (λ b. (b || list_any q xs) ≡ true) [ true ↦ refl | false ↦ behind h ]

  -- what is found passes
  pub found_passes : (p : X → Bool) (xs : List X) (x : X) → find p xs ≡ Some x → p x ≡ true
  found_passes p [] x e = absurd cc
  found_passes p (y ∷ xs) x e = by_test (p y) refl (found_passes p xs x) e
    where
      by_test : (b : Bool) → p y ≡ b → (find p xs ≡ Some x → p x ≡ true) → cond b (Some y) (find p xs) ≡ Some x → p x ≡ true
      by_test true h behind e = let same : y ≡ x = cc in ap p (sym same) ∙ h
      by_test false h behind e = behind e

  pub found_has : (P : X → Type 0) (p : X → Bool) (xs : List X) (x : X) → All P xs → find p xs ≡ Some x → P x
  found_has P p [] x all e = absurd cc
  found_has P p (y ∷ xs) x all e = by_test (p y) (found_has P p xs x (All-tail P y xs all)) e
    where
      by_test : (b : Bool) → (find p xs ≡ Some x → P x) → cond b (Some y) (find p xs) ≡ Some x → P x
      by_test true behind e = let same : y ≡ x = cc in subst P same (All-head P y xs all)
      by_test false behind e = behind e

  pub fewer_left : (p : X → Bool) (xs : List X) → length (filter p xs) ≤ length xs
  fewer_left p [] = omega arith
  fewer_left p (x ∷ xs) =
      let h = fewer_left p xs in
      elim (p x) as (λ b. length (cond b (x ∷ filter p xs) (filter p xs)) ≤ suc (length xs)) [ true ↦ omega arith | false ↦ omega arith ]

  -- none is found of those that are left out
  pub none_left : (p : X → Bool) (xs : List X) → find p (filter (λ x. not (p x)) xs) ≡ None
  none_left p [] = refl
  none_left p (x ∷ xs) = by_test (p x) refl (none_left p xs)
    where
      by_test : (b : Bool) → p x ≡ b → find p (filter (λ y. not (p y)) xs) ≡ None → find p (cond (not b) (x ∷ filter (λ y. not (p y)) xs) (filter (λ y. not (p y)) xs)) ≡ None
      by_test true is behind = behind
      by_test false is behind = ap (λ b. cond b (Some x) (find p (filter (λ y. not (p y)) xs))) is ∙ behind

  -- the same is found where none that passes is left out
  pub found_left : (p k : X → Bool) → ((x : X) → p x ≡ true → k x ≡ true) → (xs : List X) → find p (filter k xs) ≡ find p xs
  found_left p k stays [] = refl
  found_left p k stays (x ∷ xs) = by_tests (p x) (k x) refl refl (found_left p k stays xs)
    where
      by_tests : (a b : Bool) → p x ≡ a → k x ≡ b → find p (filter k xs) ≡ find p xs → find p (cond b (x ∷ filter k xs) (filter k xs)) ≡ cond a (Some x) (find p xs)
      by_tests a true is kept behind = ap (λ t. cond t (Some x) (find p (filter k xs))) is ∙ ap (λ (o : Option X). cond a (Some x) o) behind
      by_tests true false is left behind = let passes = stays x is in absurd cc
      by_tests false false is left behind = behind
