-- The first element that passes a test, and how many pass.
use Rattle.std.proofs.Common.{◌≡◌, ◌∙◌, ℕ, zero, suc, ◌<◌, ◌≤◌, ltb, get_or, set, Bool, true, false, cond, List, [], ◌∷◌, length, Option, Some, None, refl, sym, ap, subst, inl, inr, arith}
use Rattle.std.specs.Prelude.{All, AllPairs, not, ◌&&◌, ◌||◌, ◌⊎◌, slice_get, position, map, filter, find, is_some, option_map, option_and_then}
use Rattle.std.specs.List.{list_any, position_or_len}
use Rattle.std.proofs.lemmas.Option.{cond_some, slice_get-get_or, slice_get_cases}
use Rattle.std.proofs.lemmas.Bool.{lt-ltb, le-ltb}
use Rattle.std.proofs.lemmas.List.Folds.{find_at, find-set}
use Rattle.std.proofs.lemmas.List.Quantifiers.{position-Some}

module _ {X : Type 0} where
  pub find-ext : (p q : X → Bool) → ((x : X) → p x ≡ q x) → (xs : List X) → find p xs ≡ find q xs
  find-ext p q same [] = refl
  find-ext p q same (x ∷ xs) = ap (λ b. cond b (Some x) (find p xs)) (same x) ∙ ap (λ (o : Option X). cond (q x) (Some x) o) (find-ext p q same xs)

  pub filter-ext : (p q : X → Bool) → ((x : X) → p x ≡ q x) → (xs : List X) → filter p xs ≡ filter q xs
  filter-ext p q same [] = refl
  filter-ext p q same (x ∷ xs) = ap (λ b. cond b (x ∷ filter p xs) (filter p xs)) (same x) ∙ ap (λ (l : List X). cond (q x) (x ∷ l) l) (filter-ext p q same xs)

  pub is_some-find : (p : X → Bool) (xs : List X) → is_some (find p xs) ≡ list_any p xs
  is_some-find p [] = refl
  is_some-find p (x ∷ xs) = elim (p x) as (λ b. is_some (cond b (Some x) (find p xs)) ≡ (b || list_any p xs)) [ true ↦ refl | false ↦ is_some-find p xs ]

  -- what is found passes
  pub found_passes : (p : X → Bool) (xs : List X) (x : X) → find p xs ≡ Some x → p x ≡ true
  found_passes p [] x e = absurd cc
  found_passes p (y ∷ xs) x e = by_test (p y) refl (found_passes p xs x) e
    where
      by_test : (b : Bool) → p y ≡ b → (find p xs ≡ Some x → p x ≡ true) → cond b (Some y) (find p xs) ≡ Some x → p x ≡ true
      by_test true h behind e = let same : y ≡ x = cc in ap p (sym same) ∙ h
      by_test false h behind e = behind e

  pub find-filter : (p k : X → Bool) (xs : List X) → find p (filter k xs) ≡ find (λ x. k x && p x) xs
  find-filter p k [] = refl
  find-filter p k (x ∷ xs) =
      elim (k x) as (λ b. find p (cond b (x ∷ filter k xs) (filter k xs)) ≡ cond (b && p x) (Some x) (find (λ y. k y && p y) xs))
      [ true ↦ ap (λ (o : Option X). cond (p x) (Some x) o) (find-filter p k xs) | false ↦ find-filter p k xs ]

  pub filter-filter : (p k : X → Bool) (xs : List X) → filter p (filter k xs) ≡ filter (λ x. k x && p x) xs
  filter-filter p k [] = refl
  filter-filter p k (x ∷ xs) =
      elim (k x) as (λ b. filter p (cond b (x ∷ filter k xs) (filter k xs)) ≡ cond (b && p x) (x ∷ filter (λ y. k y && p y) xs) (filter (λ y. k y && p y) xs))
      [ true ↦ ap (λ (l : List X). cond (p x) (x ∷ l) l) (filter-filter p k xs) | false ↦ filter-filter p k xs ]

  -- fewer pass two tests
  pub fewer : (p k : X → Bool) (xs : List X) → length (filter (λ x. k x && p x) xs) ≤ length (filter p xs)
  fewer p k [] = omega arith
  fewer p k (x ∷ xs) =
      let h = fewer p k xs in
      elim (k x) as (λ a. length (cond (a && p x) (x ∷ filter (λ y. k y && p y) xs) (filter (λ y. k y && p y) xs)) ≤ length (cond (p x) (x ∷ filter p xs) (filter p xs))) [
        | true ↦ elim (p x) as (λ b. length (cond b (x ∷ filter (λ y. k y && p y) xs) (filter (λ y. k y && p y) xs)) ≤ length (cond b (x ∷ filter p xs) (filter p xs))) [ true ↦ omega arith | false ↦ h ]
        | false ↦ elim (p x) as (λ b. length (filter (λ y. k y && p y) xs) ≤ length (cond b (x ∷ filter p xs) (filter p xs))) [ true ↦ omega arith | false ↦ h ]
      ]

  -- where none is found, none passes
  pub none_pass : (p : X → Bool) (xs : List X) → find p xs ≡ None → length (filter p xs) ≡ 0
  none_pass p [] e = refl
  none_pass p (x ∷ xs) e =
      elim (p x) as (λ b. cond b (Some x) (find p xs) ≡ None → length (cond b (x ∷ filter p xs) (filter p xs)) ≡ 0)
      [ true ↦ λ e. absurd cc | false ↦ λ e. none_pass p xs e ] e

  pub none_found : (p : X → Bool) (xs : List X) → length (filter p xs) ≤ 0 → find p xs ≡ None
  none_found p [] h = refl
  none_found p (x ∷ xs) h =
      elim (p x) as (λ b. length (cond b (x ∷ filter p xs) (filter p xs)) ≤ 0 → cond b (Some x) (find p xs) ≡ None)
      [ true ↦ λ h. absurd (omega arith) | false ↦ λ h. none_found p xs h ] h

  -- the one that passes, where it passes another test too
  abbrev pub if_passes : (X → Bool) → X → Option X
  if_passes k x = cond (k x) (Some x) None

  pub find-and : (p k : X → Bool) (xs : List X) → length (filter p xs) ≤ 1 → find (λ x. k x && p x) xs ≡ option_and_then (if_passes k) (find p xs)
  find-and p k [] few = refl
  find-and p k (x ∷ xs) few =
      elim (p x) as (λ b. length (cond b (x ∷ filter p xs) (filter p xs)) ≤ 1 → cond (k x && b) (Some x) (find (λ y. k y && p y) xs) ≡ option_and_then (if_passes k) (cond b (Some x) (find p xs))) [
        | true ↦ λ few.
            let none : length (filter (λ y. k y && p y) xs) ≤ 0 = omega (arith, fewer p k xs) in
            elim (k x) as (λ a. cond (a && true) (Some x) (find (λ y. k y && p y) xs) ≡ cond a (Some x) None) [ true ↦ refl | false ↦ none_found (λ y. k y && p y) xs none ]
        | false ↦ λ few. elim (k x) as (λ a. cond (a && false) (Some x) (find (λ y. k y && p y) xs) ≡ option_and_then (if_passes k) (find p xs)) [ true ↦ find-and p k xs few | false ↦ find-and p k xs few ]
      ] few

module _ {X : Type 0} where
  not_longer : (p : X → Bool) (xs : List X) → length (filter p xs) ≤ length xs
  not_longer p [] = omega arith
  not_longer p (x ∷ xs) =
      let h = not_longer p xs in
      elim (p x) as (λ b. length (cond b (x ∷ filter p xs) (filter p xs)) ≤ suc (length xs)) [ true ↦ omega arith | false ↦ omega arith ]

  -- what is found by a test is found by both, where it passes the other too
  pub found_by_both : (p k : X → Bool) (xs : List X) (x : X) → find k xs ≡ Some x → p x ≡ true → is_some (find (λ y. k y && p y) xs) ≡ true
  found_by_both p k [] x e passes = absurd cc
  found_by_both p k (y ∷ xs) x e passes = by_test (k y) e (λ e. found_by_both p k xs x e passes)
    where
      by_test : (b : Bool) → cond b (Some y) (find k xs) ≡ Some x → (find k xs ≡ Some x → is_some (find (λ y. k y && p y) xs) ≡ true)
          → is_some (cond (b && p y) (Some y) (find (λ y. k y && p y) xs)) ≡ true
      by_test true e behind = let same : y ≡ x = cc in ap (λ b. is_some (cond b (Some y) (find (λ y. k y && p y) xs))) (ap p same ∙ passes)
      by_test false e behind = behind e

  pub none_left : (k : X → Bool) (xs : List X) → find k xs ≡ None → filter k xs ≡ []
  none_left k [] e = refl
  none_left k (x ∷ xs) e =
      elim (k x) as (λ b. cond b (Some x) (find k xs) ≡ None → cond b (x ∷ filter k xs) (filter k xs) ≡ [])
      [ true ↦ λ e. absurd cc | false ↦ λ e. none_left k xs e ] e

  pub all_left : (k : X → Bool) (xs : List X) → find (λ x. not (k x)) xs ≡ None → filter k xs ≡ xs
  all_left k [] e = refl
  all_left k (x ∷ xs) e =
      elim (k x) as (λ b. cond (not b) (Some x) (find (λ x. not (k x)) xs) ≡ None → cond b (x ∷ filter k xs) (filter k xs) ≡ x ∷ xs)
      [ true ↦ λ e. ap (λ (l : List X). x ∷ l) (all_left k xs e) | false ↦ λ e. absurd cc ] e

  -- where none is left out, all pass
  pub all_pass : (p : X → Bool) (xs : List X) → length xs ≤ length (filter p xs) → filter p xs ≡ xs
  all_pass p [] h = refl
  all_pass p (x ∷ xs) h =
      let shorter = not_longer p xs in
      elim (p x) as (λ b. suc (length xs) ≤ length (cond b (x ∷ filter p xs) (filter p xs)) → cond b (x ∷ filter p xs) (filter p xs) ≡ x ∷ xs)
      [ true ↦ λ h. ap (λ (l : List X). x ∷ l) (all_pass p xs (omega arith)) | false ↦ λ h. absurd (omega arith) ] h

module _ {X Y : Type 0} where
  pub find-map : (p : Y → Bool) (f : X → Y) (xs : List X) → find p (map f xs) ≡ option_map f (find (λ x. p (f x)) xs)
  find-map p f [] = refl
  find-map p f (x ∷ xs) = elim (p (f x)) as (λ b. cond b (Some (f x)) (find p (map f xs)) ≡ option_map f (cond b (Some x) (find (λ y. p (f y)) xs))) [ true ↦ refl | false ↦ find-map p f xs ]

  pub length-filter-map : (p : Y → Bool) (f : X → Y) (xs : List X) → length (filter p (map f xs)) ≡ length (filter (λ x. p (f x)) xs)
  length-filter-map p f [] = refl
  length-filter-map p f (x ∷ xs) =
      let h = length-filter-map p f xs in
      elim (p (f x)) as (λ b. length (cond b (f x ∷ filter p (map f xs)) (filter p (map f xs))) ≡ length (cond b (x ∷ filter (λ y. p (f y)) xs) (filter (λ y. p (f y)) xs))) [ true ↦ ap (λ n. suc n) h | false ↦ h ]

-- ---- one element in place of another

module _ {X : Type 0} where
  -- where p passes first, the element there is found
  pub found_at : (p : X → Bool) (xs : List X) (place : ℕ) (x : X) → position p xs ≡ Some place → x ≡ get_or xs place x → find p xs ≡ Some x
  found_at p xs place x e is =
      let at = cond_some (ltb (position_or_len p xs) (length xs)) (position_or_len p xs) place e in
      let low = position-Some p xs place x e in
      find_at p xs ∙ ap (λ i. slice_get xs i) at.1 ∙ slice_get-get_or xs place x low.0 ∙ ap (λ (y : X). Some y) (sym is)

  pub found_set : (p : X → Bool) (xs : List X) (place : ℕ) (x : X) → position p xs ≡ Some place → p x ≡ true → find p (set xs place x) ≡ Some x
  found_set p xs place x e passes =
      let at = cond_some (ltb (position_or_len p xs) (length xs)) (position_or_len p xs) place e in
      find-set p xs place x (sym at.1) (position-Some p xs place x e).0 passes

  pub length-filter-set : (p : X → Bool) (xs : List X) (place : ℕ) (x d : X) → p x ≡ p (get_or xs place d) → length (filter p (set xs place x)) ≡ length (filter p xs)
  length-filter-set p [] place x d e = refl
  length-filter-set p (y ∷ xs) zero x d e = rw e (elim (p y) as (λ b. length (cond b (x ∷ filter p xs) (filter p xs)) ≡ length (cond b (y ∷ filter p xs) (filter p xs))) [ true ↦ refl | false ↦ refl ])
  length-filter-set p (y ∷ xs) (suc place) x d e =
      let h = length-filter-set p xs place x d e in
      elim (p y) as (λ b. length (cond b (y ∷ filter p (set xs place x)) (filter p (set xs place x))) ≡ length (cond b (y ∷ filter p xs) (filter p xs))) [ true ↦ ap (λ n. suc n) h | false ↦ h ]

-- there is a first place exactly where one is found
is_some-cond : (b : Bool) (place : ℕ) → is_some (cond b (Some place) None) ≡ b
is_some-cond true place = refl
is_some-cond false place = refl

module _ {X : Type 0} where
  in_list : (xs : List X) (place : ℕ) → is_some (slice_get xs place) ≡ ltb place (length xs)
  in_list xs place = by_cases (slice_get_cases xs place).1
    where
      by_cases : ((x : X) × (place < length xs) × (slice_get xs place ≡ Some x) × (get_or xs place x ≡ x)) ⊎ ((length xs ≤ place) × (slice_get xs place ≡ None)) → is_some (slice_get xs place) ≡ ltb place (length xs)
      by_cases (inl h) = ap (λ (o : Option X). is_some o) h.2 ∙ sym (lt-ltb place (length xs) h.1)
      by_cases (inr h) = ap (λ (o : Option X). is_some o) h.1 ∙ sym (le-ltb place (length xs) h.0)

  pub is_some-position : (p : X → Bool) (xs : List X) → is_some (position p xs) ≡ is_some (find p xs)
  is_some-position p xs =
      is_some-cond (ltb (position_or_len p xs) (length xs)) (position_or_len p xs) ∙ sym (in_list xs (position_or_len p xs)) ∙ sym (ap (λ (o : Option X). is_some o) (find_at p xs))

-- ---- lists whose elements differ

module _ {X : Type 0} where
  none_of : (p : X → Bool) (xs : List X) → ((k : ℕ) (d : X) → k < length xs → p (get_or xs k d) ≡ false) → length (filter p xs) ≡ 0
  none_of p [] h = refl
  none_of p (x ∷ xs) h =
      let here : p x ≡ false = h 0 x (omega arith) in
      rw here (none_of p xs (λ k d low. h (suc k) d (omega arith)))

  -- at most one passes where no two do
  pub at_most_one : (R : X → X → Type 0) (p : X → Bool) → ((x y : X) → R x y → p x ≡ true → p y ≡ false) → (xs : List X) → AllPairs R xs → length (filter p xs) ≤ 1
  at_most_one R p differ [] h = omega arith
  at_most_one R p differ (x ∷ xs) h = by_test (p x) refl (at_most_one R p differ xs (λ i j d low high. h (suc i) (suc j) d (omega arith) (omega arith)))
    where
      by_test : (b : Bool) → p x ≡ b → length (filter p xs) ≤ 1 → length (cond b (x ∷ filter p xs) (filter p xs)) ≤ 1
      by_test true e behind =
          let none = none_of p xs (λ k d low. differ x (get_or xs k d) (h 0 (suc k) d (omega arith) (omega arith)) e) in
          omega arith
      by_test false e behind = behind

  pub found_has : (P : X → Type 0) (p : X → Bool) (xs : List X) (x : X) → All P xs → find p xs ≡ Some x → P x
  found_has P p [] x all e = absurd cc
  found_has P p (y ∷ xs) x all e = by_test (p y) (found_has P p xs x (λ k d low. all (suc k) d (omega arith))) e
    where
      by_test : (b : Bool) → (find p xs ≡ Some x → P x) → cond b (Some y) (find p xs) ≡ Some x → P x
      by_test true behind e = let same : y ≡ x = cc in subst P same (all 0 y (omega arith))
      by_test false behind e = behind e
