-- A stable sort by level puts in order.
use Rattle.std.proofs.Common.{◌≡◌, ℕ, zero, suc, ◌<◌, ◌≤◌, Bool, true, false, cond, List, [], ◌∷◌, length, get_or, map, filter, ℤ, ◌≤ℤ◌, refl, sym, ap, ◌∙◌, add-one, arith, inl, inr, suc-le-suc, zero-le}
use Rattle.std.specs.Prelude.{int_le}
use Rattle.std.specs.Cmp.{int_cmp_total}
use Rattle.std.specs.Ordering.{int_cmp, is_lt}
use Rattle.std.specs.List.Sorted.{ties, IsPermutation, IsSortedByKey, IsStableByKey}
use Rattle.std.proofs.lemmas.Bool.{cond-true, cond-false, cases_Bool}
use Rattle.std.proofs.lemmas.Int.{ints}
use Rattle.std.proofs.lemmas.List.Sorted.{ranks_by, sorted_far, IsPermutation-refl, IsPermutation-cons, IsPermutation-swap, IsPermutation-trans}
use Rattle.display_list.specs.Places.{in_order, with_next}

ties_at : (m n : ℤ) → (ties (λ (x y : ℤ). is_lt (int_cmp x y)) m n ≡ true → m ≡ n) × (m ≡ n → ties (λ (x y : ℤ). is_lt (int_cmp x y)) m n ≡ true)
ties_at m n = (λ h. grind (arith, ints), λ h. grind (arith, ints))

le-true : (m n : ℤ) → int_le m n ≡ true → m ≤ℤ n
le-true m n h = grind (arith, ints)

le-false : (m n : ℤ) → int_le m n ≡ false → (n ≤ℤ m) × (m ≡ n → ⊥)
le-false m n h = (grind (arith, ints), λ e. grind (arith, ints))

lower-false : (m n : ℤ) → is_lt (int_cmp n m) ≡ false → m ≤ℤ n
lower-false m n h = grind (arith, ints)

lower-from : (m n : ℤ) → m ≤ℤ n → is_lt (int_cmp n m) ≡ false
lower-from m n h = grind (arith, ints)

le-trans : (m n p : ℤ) → m ≤ℤ n → n ≤ℤ p → m ≤ℤ p
le-trans m n p h k = omega (arith, ints)

le-same : (m n : ℤ) → m ≡ n → m ≤ℤ n
le-same m n e = omega (arith, ints)

le-both : (m n : ℤ) → m ≤ℤ n → n ≤ℤ m → m ≡ n
le-both m n h k = omega (arith, ints)

module _ {A : Type 0} (level : A → ℤ) where
  abbrev is_lower : A → A → Bool
  is_lower x y = is_lt (int_cmp (level x) (level y))

  abbrev same_level : A → A → Bool
  same_level = ties is_lower

  same_level-true : (x y : A) → same_level x y ≡ true → level x ≡ level y
  same_level-true x y = (ties_at (level x) (level y)).0

  same_level-from : (x y : A) → level x ≡ level y → same_level x y ≡ true
  same_level-from x y = (ties_at (level x) (level y)).1

  filter-kept : (p : A → Bool) (y : A) (ys : List A) → p y ≡ true → filter p (y ∷ ys) ≡ y ∷ filter p ys
  filter-kept p y ys h = cond-true _ _ _ h

  filter-dropped : (p : A → Bool) (y : A) (ys : List A) → p y ≡ false → filter p (y ∷ ys) ≡ filter p ys
  filter-dropped p y ys h = cond-false _ _ _ h

  next-first : (c d : A) (ds : List A) → int_le (level c) (level d) ≡ true → with_next level c (d ∷ ds) ≡ c ∷ d ∷ ds
  next-first c d ds h = cond-true _ _ _ h

  next-behind : (c d : A) (ds : List A) → int_le (level c) (level d) ≡ false → with_next level c (d ∷ ds) ≡ d ∷ with_next level c ds
  next-behind c d ds h = cond-false _ _ _ h

  -- those of one level

  filter-with_next : (x c : A) (ds : List A) → filter (same_level x) (with_next level c ds) ≡ filter (same_level x) (c ∷ ds)
  filter-with_next x c [] = refl
  filter-with_next x c (d ∷ ds) =
      let p : A → Bool = same_level x in
      elim (cases_Bool (int_le (level c) (level d))) [
        | inl first ↦ ap (filter p) (next-first c d ds first)
        | inr behind ↦
            ap (filter p) (next-behind c d ds behind)
            ∙ elim (cases_Bool (p d)) [
              | inr without ↦
                  filter-dropped p d (with_next level c ds) without ∙ filter-with_next x c ds
                  ∙ ap (λ (l : List A). cond (p c) (c ∷ l) l) (sym (filter-dropped p d ds without))
              | inl with ↦
                  elim (cases_Bool (p c)) [
                    | inl both ↦ absurd ((le-false (level c) (level d) behind).1 (sym (same_level-true x c both) ∙ same_level-true x d with))
                    | inr only ↦
                        filter-kept p d (with_next level c ds) with ∙ ap (λ (l : List A). d ∷ l) (filter-with_next x c ds ∙ filter-dropped p c ds only)
                        ∙ sym (filter-dropped p c (d ∷ ds) only ∙ filter-kept p d ds with)
                  ]
            ]
      ]

  pub filter-in_order : (x : A) (cs : List A) → filter (same_level x) (in_order level cs) ≡ filter (same_level x) cs
  unfolding in_order
  filter-in_order x [] = refl
  filter-in_order x (c ∷ cs) =
      filter-with_next x c (in_order level cs)
      ∙ ap (λ (l : List A). cond (same_level x c) (c ∷ l) l) (filter-in_order x cs)

  -- levels that don't fall

  abbrev AreAtLeast : ℤ → List A → Type 0
  AreAtLeast n [] = Unit {0}
  AreAtLeast n (y ∷ ys) = (n ≤ℤ level y) × AreAtLeast n ys

  abbrev Rises : List A → Type 0
  Rises [] = Unit {0}
  Rises (y ∷ ys) = AreAtLeast (level y) ys × Rises ys

  AreAtLeast-le : (n m : ℤ) (ys : List A) → n ≤ℤ m → AreAtLeast m ys → AreAtLeast n ys
  AreAtLeast-le n m [] le h = tt
  AreAtLeast-le n m (y ∷ ys) le h = (le-trans n m (level y) le h.0, AreAtLeast-le n m ys le h.1)

  AreAtLeast-at : (n : ℤ) (ys : List A) → ((j : ℕ) (d : A) → j < length ys → n ≤ℤ level (get_or ys j d)) → AreAtLeast n ys
  AreAtLeast-at n [] h = tt
  AreAtLeast-at n (y ∷ ys) h = (h zero y (suc-le-suc zero-le), AreAtLeast-at n ys (λ j d lt. h (suc j) d (suc-le-suc lt)))

  Rises-from_far : (ys : List A) → ((i j : ℕ) (d : A) → i ≤ j → j < length ys → level (get_or ys i d) ≤ℤ level (get_or ys j d)) → Rises ys
  Rises-from_far [] h = tt
  Rises-from_far (y ∷ ys) h = (
    AreAtLeast-at (level y) ys (λ j d lt. h zero (suc j) d zero-le (suc-le-suc lt)),
    Rises-from_far ys (λ i j d le lt. h (suc i) (suc j) d (suc-le-suc le) (suc-le-suc lt)),
  )

  Rises-from_sort : (ys : List A) → IsSortedByKey level int_cmp ys → Rises ys
  Rises-from_sort ys sorted =
      Rises-from_far ys (λ i j d le lt. lower-false (level (get_or ys i d)) (level (get_or ys j d)) (sorted_far is_lower (ranks_by int_cmp_total level) ys sorted i j d le lt))

  AreAtLeast-with_next : (n : ℤ) (c : A) (ds : List A) → n ≤ℤ level c → AreAtLeast n ds → AreAtLeast n (with_next level c ds)
  AreAtLeast-with_next n c [] le h = (le, tt)
  AreAtLeast-with_next n c (d ∷ ds) le h = by (int_le (level c) (level d)) (AreAtLeast-with_next n c ds le h.1)
    where
      by : (b : Bool) → AreAtLeast n (with_next level c ds) → AreAtLeast n (cond b (c ∷ d ∷ ds) (d ∷ with_next level c ds))
      by true more = (le, h)
      by false more = (h.0, more)

  Rises-with_next : (c : A) (ds : List A) → Rises ds → Rises (with_next level c ds)
  Rises-with_next c [] h = (tt, tt)
  Rises-with_next c (d ∷ ds) h = by (int_le (level c) (level d)) refl (Rises-with_next c ds h.1)
    where
      by : (b : Bool) → int_le (level c) (level d) ≡ b → Rises (with_next level c ds) → Rises (cond b (c ∷ d ∷ ds) (d ∷ with_next level c ds))
      by true e more = let le = le-true (level c) (level d) e in ((le, AreAtLeast-le (level c) (level d) ds le h.0), h)
      by false e more = (AreAtLeast-with_next (level d) c ds (le-false (level c) (level d) e).0 h.0, more)

  Rises-in_order : (cs : List A) → Rises (in_order level cs)
  unfolding in_order
  Rises-in_order [] = tt
  Rises-in_order (c ∷ cs) = Rises-with_next c (in_order level cs) (Rises-in_order cs)

  -- neighbours in a list that doesn't fall
  Rises-next : (y : A) (ys : List A) (d : A) → AreAtLeast (level y) ys → 0 < length ys → level y ≤ℤ level (get_or ys 0 d)
  Rises-next y [] d h low = absurd (omega arith)
  Rises-next y (z ∷ zs) d h low = h.0

  sorted-Rises : (ys : List A) → Rises ys → (k : ℕ) (d : A) → suc k < length ys → is_lower (get_or ys (suc k) d) (get_or ys k d) ≡ false
  sorted-Rises [] h k d low = absurd (omega arith)
  sorted-Rises (y ∷ ys) h zero d low = lower-from (level y) (level (get_or ys 0 d)) (Rises-next y ys d h.0 (omega arith))
  sorted-Rises (y ∷ ys) h (suc k) d low = sorted-Rises ys h.1 k d (omega arith)

  pub sorted-in_order : (cs : List A) → IsSortedByKey level int_cmp (in_order level cs)
  sorted-in_order cs = λ k d low within. rw add-one (sorted-Rises (in_order level cs) (Rises-in_order cs) k d (omega arith))

  -- the levels of one element occur among them
  AreAtLeast-found : (n : ℤ) (x : A) (ys : List A) (w : A) (ws : List A) → AreAtLeast n ys → filter (same_level x) ys ≡ w ∷ ws → n ≤ℤ level x
  AreAtLeast-found n x [] w ws h e = cc
  AreAtLeast-found n x (y ∷ ys) w ws h e =
      elim (cases_Bool (same_level x y)) [
        | inl with ↦ le-trans n (level y) (level x) h.0 (le-same (level y) (level x) (sym (same_level-true x y with)))
        | inr without ↦ AreAtLeast-found n x ys w ws h.1 (sym (filter-dropped (same_level x) y ys without) ∙ e)
      ]

  -- Two lists that don't fall and have the same elements of each level in the same order are the same.
  same_from_levels : (ys zs : List A) → Rises ys → Rises zs → ((x : A) → filter (same_level x) ys ≡ filter (same_level x) zs) → ys ≡ zs
  same_from_levels [] [] left right same = refl
  same_from_levels [] (z ∷ zs) left right same =
      let clash = same z ∙ filter-kept (same_level z) z zs (same_level-from z z refl) in cc
  same_from_levels (y ∷ ys) [] left right same =
      let clash = sym (same y) ∙ filter-kept (same_level y) y ys (same_level-from y y refl) in cc
  same_from_levels (y ∷ ys) (z ∷ zs) left right same =
      let at_y = filter-kept (same_level y) y ys (same_level-from y y refl) in
      let at_z = filter-kept (same_level z) z zs (same_level-from z z refl) in
      let up = AreAtLeast-found (level z) y (z ∷ zs) y _ (le-same (level z) (level z) refl, right.0) (sym (same y) ∙ at_y) in
      let down = AreAtLeast-found (level y) z (y ∷ ys) z _ (le-same (level y) (level y) refl, left.0) (same z ∙ at_z) in
      let equal = le-both (level y) (level z) down up in
      let heads = sym at_y ∙ same y ∙ filter-kept (same_level y) z zs (same_level-from y z equal) in
      let head : y ≡ z = cc in
      let tails : (x : A) → filter (same_level x) ys ≡ filter (same_level x) zs =
      λ x. elim (cases_Bool (same_level x y)) [
        | inl with ↦
            let both = sym (filter-kept (same_level x) y ys with) ∙ same x ∙ filter-kept (same_level x) z zs (ap (same_level x) (sym head) ∙ with) in cc
        | inr without ↦
            sym (filter-dropped (same_level x) y ys without) ∙ same x ∙ filter-dropped (same_level x) z zs (ap (same_level x) (sym head) ∙ without)
      ] in
      ap (λ (w : A). w ∷ ys) head ∙ ap (λ (l : List A). z ∷ l) (same_from_levels ys zs left.1 right.1 tails)

  pub in_order-from_sort : (xs ys : List A) → IsSortedByKey level int_cmp ys → IsStableByKey level int_cmp xs ys → ys ≡ in_order level xs
  in_order-from_sort xs ys sorted stable =
      same_from_levels ys (in_order level xs) (Rises-from_sort ys sorted) (Rises-in_order xs) (λ x. stable x ∙ sym (filter-in_order x xs))

  -- the same elements

  permutation-with_next : (c : A) (ds : List A) → IsPermutation (c ∷ ds) (with_next level c ds)
  permutation-with_next c [] = IsPermutation-refl (c ∷ [])
  permutation-with_next c (d ∷ ds) = by (int_le (level c) (level d)) (permutation-with_next c ds)
    where
      by : (b : Bool) → IsPermutation (c ∷ ds) (with_next level c ds) → IsPermutation (c ∷ d ∷ ds) (cond b (c ∷ d ∷ ds) (d ∷ with_next level c ds))
      by true more = IsPermutation-refl (c ∷ d ∷ ds)
      by false more = IsPermutation-trans (c ∷ d ∷ ds) (d ∷ c ∷ ds) (d ∷ with_next level c ds) (IsPermutation-swap (c ∷ d ∷ ds) (d ∷ c ∷ ds) 0 1 (omega arith) (omega arith) refl) (IsPermutation-cons d (c ∷ ds) (with_next level c ds) more)

  pub permutation-in_order : (cs : List A) → IsPermutation cs (in_order level cs)
  unfolding in_order
  permutation-in_order [] = IsPermutation-refl []
  permutation-in_order (c ∷ cs) = IsPermutation-trans (c ∷ cs) (c ∷ in_order level cs) (with_next level c (in_order level cs)) (IsPermutation-cons c cs (in_order level cs) (permutation-in_order cs)) (permutation-with_next c (in_order level cs))

-- elements that stand for others

module _ {A B : Type 0} (level : B → ℤ) (f : A → B) where
  with_next-map : (c : A) (ds : List A) → with_next level (f c) (map f ds) ≡ map f (with_next (λ (a : A). level (f a)) c ds)
  with_next-map c [] = refl
  with_next-map c (d ∷ ds) = by (int_le (level (f c)) (level (f d))) (with_next-map c ds)
    where
      by : (b : Bool) → with_next level (f c) (map f ds) ≡ map f (with_next (λ (a : A). level (f a)) c ds) → cond b (f c ∷ f d ∷ map f ds) (f d ∷ with_next level (f c) (map f ds)) ≡ map f (cond b (c ∷ d ∷ ds) (d ∷ with_next (λ (a : A). level (f a)) c ds))
      by true more = refl
      by false more = ap (λ (l : List B). f d ∷ l) more

  pub in_order-map : (cs : List A) → in_order level (map f cs) ≡ map f (in_order (λ (a : A). level (f a)) cs)
  unfolding in_order
  in_order-map [] = refl
  in_order-map (c ∷ cs) = ap (with_next level (f c)) (in_order-map cs) ∙ with_next-map c (in_order (λ (a : A). level (f a)) cs)
