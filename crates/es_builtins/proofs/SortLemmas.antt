-- A stable sort by texts puts values in the order of `sort`.
use Rattle.std.proofs.Common.{◌≡◌, ℕ, zero, suc, ◌<◌, ◌≤◌, Bool, true, false, cond, List, [], ◌∷◌, ◌++◌, length, get_or, map, filter, refl, sym, ap, ◌∙◌, add-one, arith, inl, inr, suc-le-suc, zero-le}
use Rattle.std.specs.Prelude.{All, not, ◌&&◌, if◌then◌else◌}
use Rattle.std.specs.Cmp.{IsStrictWeakOrder}
use Rattle.std.specs.Cmp.Lexicographic.{slice_cmp}
use Rattle.std.specs.Ordering.{is_lt, nat_cmp}
use Rattle.std.specs.declared.cmp.Ordering.{Ordering}
use Rattle.std.specs.declared.cmp.Ordering.TheVariants.{Less, Equal, Greater}
use Rattle.std.specs.List.Sorted.{ties, IsPermutation, IsSortedBy, IsStableBy}
use Rattle.std.proofs.lemmas.Bool.{cond-true, cond-false, cases_Bool, and_parts, not-true}
use Rattle.std.proofs.lemmas.Cmp.{nat_list_cmp_total}
use Rattle.std.proofs.lemmas.List.Elements.{All-append, All-cons, All-filter, All-head, All-nil, All-tail}
use Rattle.std.proofs.lemmas.List.Sorted.{ranks_by, sorted_far, IsPermutation-cons, IsPermutation-refl, IsPermutation-swap, IsPermutation-trans}
use Rattle.es_values.specs.declared.values.Value.{Value}
use Rattle.es_values.specs.Conversions.{text_of}
use Rattle.es_values.specs.Objects.{ObjectState}
use Rattle.es_builtins.specs.declared.sorting.Keyed.{Keyed}
use Rattle.es_builtins.specs.Arrays.{by_text, comes_after, is_less, is_undefined, put_among, sorted}

-- Two lists that ascend, and in which those that tie stand alike, are the same

module _ {A : Type 0} (lt : A → A → Bool) (order : IsStrictWeakOrder lt) where
  tied : (x y : A) → lt x y ≡ false → lt y x ≡ false → ties lt x y ≡ true
  tied x y h k = ap (λ b. not b && not (lt y x)) h ∙ ap not k

  tie-parts : (x y : A) → ties lt x y ≡ true → (lt x y ≡ false) × (lt y x ≡ false)
  tie-parts x y h = let parts = and_parts (not (lt x y)) (not (lt y x)) h in (not-true (lt x y) parts.0, not-true (lt y x) parts.1)

  not-below-itself : (x : A) → lt x x ≡ false
  not-below-itself x = by (lt x x) refl
    where
      by : (t : Bool) → lt x x ≡ t → t ≡ false
      by true h = sym h ∙ order.one_way x x h
      by false h = refl

  tied-itself : (x : A) → ties lt x x ≡ true
  tied-itself x = tied x x (not-below-itself x) (not-below-itself x)

  filter-kept : (p : A → Bool) (y : A) (ys : List A) → p y ≡ true → filter p (y ∷ ys) ≡ y ∷ filter p ys
  filter-kept p y ys h = cond-true _ _ _ h

  filter-dropped : (p : A → Bool) (y : A) (ys : List A) → p y ≡ false → filter p (y ∷ ys) ≡ filter p ys
  filter-dropped p y ys h = cond-false _ _ _ h

  -- no element is less than x
  abbrev NoneBelow : A → List A → Type 0
  NoneBelow x [] = Unit {0}
  NoneBelow x (y ∷ ys) = (lt y x ≡ false) × NoneBelow x ys

  abbrev Ascends : List A → Type 0
  Ascends [] = Unit {0}
  Ascends (y ∷ ys) = NoneBelow y ys × Ascends ys

  NoneBelow-less : (x y : A) (ys : List A) → lt y x ≡ false → NoneBelow y ys → NoneBelow x ys
  NoneBelow-less x y [] le h = tt
  NoneBelow-less x y (z ∷ zs) le h = (order.chain z y x h.0 le, NoneBelow-less x y zs le h.1)

  NoneBelow-at : (x : A) (ys : List A) → ((j : ℕ) (d : A) → j < length ys → lt (get_or ys j d) x ≡ false) → NoneBelow x ys
  NoneBelow-at x [] h = tt
  NoneBelow-at x (y ∷ ys) h = (h zero y (suc-le-suc zero-le), NoneBelow-at x ys (λ j d below. h (suc j) d (suc-le-suc below)))

  Ascends-from_far : (ys : List A) → ((i j : ℕ) (d : A) → i ≤ j → j < length ys → lt (get_or ys j d) (get_or ys i d) ≡ false) → Ascends ys
  Ascends-from_far [] h = tt
  Ascends-from_far (y ∷ ys) h = (
    NoneBelow-at y ys (λ j d below. h zero (suc j) d zero-le (suc-le-suc below)),
    Ascends-from_far ys (λ i j d le below. h (suc i) (suc j) d (suc-le-suc le) (suc-le-suc below)),
  )

  Ascends-from_sort : (ys : List A) → IsSortedBy lt ys → Ascends ys
  Ascends-from_sort ys h = Ascends-from_far ys (sorted_far lt order ys h)

  -- an element that ties with some element of the list isn't below what none of the list is below
  not-below : (x y : A) (ys : List A) (w : A) (ws : List A) → NoneBelow x ys → filter (ties lt y) ys ≡ w ∷ ws → lt y x ≡ false
  not-below x y [] w ws h e = absurd (cc e)
  not-below x y (z ∷ zs) w ws h e =
      elim (cases_Bool (ties lt y z)) [
        | inl with ↦ order.chain y z x (tie-parts y z with).0 h.0
        | inr without ↦ not-below x y zs w ws h.1 (sym (filter-dropped (ties lt y) z zs without) ∙ e)
      ]

  same_from_ties : (ys zs : List A) → Ascends ys → Ascends zs → ((x : A) → filter (ties lt x) ys ≡ filter (ties lt x) zs) → ys ≡ zs
  same_from_ties [] [] left right same = refl
  same_from_ties [] (z ∷ zs) left right same =
      let clash = same z ∙ filter-kept (ties lt z) z zs (tied-itself z) in absurd (cc clash)
  same_from_ties (y ∷ ys) [] left right same =
      let clash = sym (same y) ∙ filter-kept (ties lt y) y ys (tied-itself y) in absurd (cc clash)
  same_from_ties (y ∷ ys) (z ∷ zs) left right same =
      let at_y = filter-kept (ties lt y) y ys (tied-itself y) in
      let at_z = filter-kept (ties lt z) z zs (tied-itself z) in
      let down = not-below z y (z ∷ zs) y (filter (ties lt y) ys) (not-below-itself z, right.0) (sym (same y) ∙ at_y) in
      let up = not-below y z (y ∷ ys) z (filter (ties lt z) zs) (not-below-itself y, left.0) (same z ∙ at_z) in
      let heads = sym at_y ∙ same y ∙ filter-kept (ties lt y) z zs (tied y z down up) in
      let head : y ≡ z = cc in
      let tails : (x : A) → filter (ties lt x) ys ≡ filter (ties lt x) zs =
      λ x. elim (cases_Bool (ties lt x y)) [
        | inl with ↦
            let both = sym (filter-kept (ties lt x) y ys with) ∙ same x ∙ filter-kept (ties lt x) z zs (ap (ties lt x) (sym head) ∙ with) in cc
        | inr without ↦
            sym (filter-dropped (ties lt x) y ys without) ∙ same x ∙ filter-dropped (ties lt x) z zs (ap (ties lt x) (sym head) ∙ without)
      ] in
      ap (λ (w : A). w ∷ ys) head ∙ ap (λ (l : List A). z ∷ l) (same_from_ties ys zs left.1 right.1 tails)

  -- An insertion into a list that ascends, and a sort by insertions

  unfoldable pub put : A → List A → List A
  put c [] = c ∷ []
  put c (d ∷ ds) = if lt d c then d ∷ put c ds else c ∷ (d ∷ ds)

  unfoldable pub inserted : List A → List A
  inserted [] = []
  inserted (c ∷ cs) = put c (inserted cs)

  pub put-behind : (c d : A) (ds : List A) → lt d c ≡ true → put c (d ∷ ds) ≡ d ∷ put c ds
  unfolding put
  put-behind c d ds h = cond-true _ _ _ h

  pub put-first : (c d : A) (ds : List A) → lt d c ≡ false → put c (d ∷ ds) ≡ c ∷ (d ∷ ds)
  unfolding put
  put-first c d ds h = cond-false _ _ _ h

  NoneBelow-put : (x c : A) (ds : List A) → lt c x ≡ false → NoneBelow x ds → NoneBelow x (put c ds)
  unfolding put
  NoneBelow-put x c [] le h = (le, tt)
  NoneBelow-put x c (d ∷ ds) le h = by (lt d c) (NoneBelow-put x c ds le h.1)
    where
      by : (b : Bool) → NoneBelow x (put c ds) → NoneBelow x (if b then d ∷ put c ds else c ∷ (d ∷ ds))
      by true more = (h.0, more)
      by false more = (le, h)

  Ascends-put : (c : A) (ds : List A) → Ascends ds → Ascends (put c ds)
  unfolding put
  Ascends-put c [] h = (tt, tt)
  Ascends-put c (d ∷ ds) h = by (lt d c) refl (Ascends-put c ds h.1)
    where
      by : (b : Bool) → lt d c ≡ b → Ascends (put c ds) → Ascends (if b then d ∷ put c ds else c ∷ (d ∷ ds))
      by true e more = (NoneBelow-put d c ds (order.one_way d c e) h.0, more)
      by false e more = ((e, NoneBelow-less c d ds e h.0), h)

  Ascends-inserted : (cs : List A) → Ascends (inserted cs)
  unfolding inserted
  Ascends-inserted [] = tt
  Ascends-inserted (c ∷ cs) = Ascends-put c (inserted cs) (Ascends-inserted cs)

  filter-put : (x c : A) (ds : List A) → filter (ties lt x) (put c ds) ≡ filter (ties lt x) (c ∷ ds)
  unfolding put
  filter-put x c [] = refl
  filter-put x c (d ∷ ds) =
      let p : A → Bool = ties lt x in
      elim (cases_Bool (lt d c)) [
        | inr first ↦ ap (filter p) (put-first c d ds first)
        | inl behind ↦
            ap (filter p) (put-behind c d ds behind)
            ∙ elim (cases_Bool (p d)) [
              | inr without ↦
                  filter-dropped p d (put c ds) without ∙ filter-put x c ds
                  ∙ ap (λ (l : List A). cond (p c) (c ∷ l) l) (sym (filter-dropped p d ds without))
              | inl with ↦
                  elim (cases_Bool (p c)) [
                    | inl both ↦
                        let apart : lt d c ≡ false = order.chain d x c (tie-parts x d with).1 (tie-parts x c both).0 in
                        absurd (cc (sym behind ∙ apart))
                    | inr only ↦
                        filter-kept p d (put c ds) with ∙ ap (λ (l : List A). d ∷ l) (filter-put x c ds ∙ filter-dropped p c ds only)
                        ∙ sym (filter-dropped p c (d ∷ ds) only ∙ filter-kept p d ds with)
                  ]
            ]
      ]

  pub filter-inserted : (x : A) (cs : List A) → filter (ties lt x) (inserted cs) ≡ filter (ties lt x) cs
  unfolding inserted
  filter-inserted x [] = refl
  filter-inserted x (c ∷ cs) =
      filter-put x c (inserted cs)
      ∙ ap (λ (l : List A). cond (ties lt x c) (c ∷ l) l) (filter-inserted x cs)

  pub inserted-from_sort : (xs ys : List A) → IsSortedBy lt ys → IsStableBy lt xs ys → ys ≡ inserted xs
  inserted-from_sort xs ys h stable =
      same_from_ties ys (inserted xs) (Ascends-from_sort ys h) (Ascends-inserted xs) (λ x. stable x ∙ sym (filter-inserted x xs))

  -- It has the same elements, and ascends

  sorted-Ascends : (ys : List A) → Ascends ys → (k : ℕ) (d : A) → suc k < length ys → lt (get_or ys (suc k) d) (get_or ys k d) ≡ false
  sorted-Ascends [] h k d below = absurd (omega arith)
  sorted-Ascends (y ∷ []) h k d below = absurd (omega arith)
  sorted-Ascends (y ∷ (z ∷ zs)) h zero d below = h.0.0
  sorted-Ascends (y ∷ (z ∷ zs)) h (suc k) d below = sorted-Ascends (z ∷ zs) h.1 k d (omega arith)

  pub sorted-inserted : (cs : List A) → IsSortedBy lt (inserted cs)
  sorted-inserted cs = λ k d low within. rw add-one (sorted-Ascends (inserted cs) (Ascends-inserted cs) k d (omega arith))

  permutation-put : (c : A) (ds : List A) → IsPermutation (c ∷ ds) (put c ds)
  unfolding put
  permutation-put c [] = IsPermutation-refl (c ∷ [])
  permutation-put c (d ∷ ds) = by (lt d c) (permutation-put c ds)
    where
      by : (b : Bool) → IsPermutation (c ∷ ds) (put c ds) → IsPermutation (c ∷ (d ∷ ds)) (if b then d ∷ put c ds else c ∷ (d ∷ ds))
      by true more = IsPermutation-trans (c ∷ (d ∷ ds)) (d ∷ (c ∷ ds)) (d ∷ put c ds) (IsPermutation-swap (c ∷ (d ∷ ds)) (d ∷ (c ∷ ds)) 0 1 (omega arith) (omega arith) refl) (IsPermutation-cons d (c ∷ ds) (put c ds) more)
      by false more = IsPermutation-refl (c ∷ (d ∷ ds))

  pub permutation-inserted : (cs : List A) → IsPermutation cs (inserted cs)
  unfolding inserted
  permutation-inserted [] = IsPermutation-refl []
  permutation-inserted (c ∷ cs) = IsPermutation-trans (c ∷ cs) (c ∷ inserted cs) (put c (inserted cs)) (IsPermutation-cons c cs (inserted cs) (permutation-inserted cs)) (permutation-put c (inserted cs))

-- Values with their texts

abbrev pub keyed_of : List ObjectState → Value → Keyed
keyed_of heap value = record { text = text_of heap value; value = value }

abbrev pub is_before : Keyed → Keyed → Bool
is_before one other = is_lt (slice_cmp nat_cmp one.text other.text)

pub before-order : IsStrictWeakOrder is_before
before-order = ranks_by nat_list_cmp_total (λ (keyed : Keyed). keyed.text)

pub less-is : (o : Ordering) → is_less o ≡ is_lt o
less-is Less = refl
less-is Equal = refl
less-is Greater = refl

put-keyed : (heap : List ObjectState) (v : Value) (ws : List Value) → put is_before before-order (keyed_of heap v) (map (keyed_of heap) ws) ≡ map (keyed_of heap) (put_among heap v ws)
unfolding put
put-keyed heap v [] = refl
put-keyed heap v (w ∷ ws) =
    ap (λ b. if b then keyed_of heap w ∷ put is_before before-order (keyed_of heap v) (map (keyed_of heap) ws) else keyed_of heap v ∷ (keyed_of heap w ∷ map (keyed_of heap) ws)) (sym (less-is (slice_cmp nat_cmp (text_of heap w) (text_of heap v))))
    ∙ by (comes_after heap v w) (put-keyed heap v ws)
  where
    by : (b : Bool) → put is_before before-order (keyed_of heap v) (map (keyed_of heap) ws) ≡ map (keyed_of heap) (put_among heap v ws) → (if b then keyed_of heap w ∷ put is_before before-order (keyed_of heap v) (map (keyed_of heap) ws) else keyed_of heap v ∷ (keyed_of heap w ∷ map (keyed_of heap) ws)) ≡ map (keyed_of heap) (if b then w ∷ put_among heap v ws else v ∷ (w ∷ ws))
    by true more = ap (λ (l : List Keyed). keyed_of heap w ∷ l) more
    by false more = refl

inserted-keyed : (heap : List ObjectState) (vs : List Value) → inserted is_before before-order (map (keyed_of heap) vs) ≡ map (keyed_of heap) (by_text heap vs)
unfolding inserted
inserted-keyed heap [] = refl
inserted-keyed heap (v ∷ vs) = ap (put is_before before-order (keyed_of heap v)) (inserted-keyed heap vs) ∙ put-keyed heap v (by_text heap vs)

values-keyed : (heap : List ObjectState) (vs : List Value) → map (λ (keyed : Keyed). keyed.value) (map (keyed_of heap) vs) ≡ vs
values-keyed heap [] = refl
values-keyed heap (v ∷ vs) = ap (λ (l : List Value). v ∷ l) (values-keyed heap vs)

pub by_text-from_sort : (heap : List ObjectState) (vs : List Value) (xs ys : List Keyed) → xs ≡ map (keyed_of heap) vs → IsSortedBy is_before ys → IsStableBy is_before xs ys → map (λ (keyed : Keyed). keyed.value) ys ≡ by_text heap vs
by_text-from_sort heap vs xs ys e h stable =
    ap (map (λ (keyed : Keyed). keyed.value)) (inserted-from_sort is_before before-order xs ys h stable ∙ (ap (inserted is_before before-order) e ∙ inserted-keyed heap vs))
    ∙ values-keyed heap (by_text heap vs)

-- What each value is, each of them in order is

module _ (P : Value → Type 0) (heap : List ObjectState) where
  put-all : (v : Value) (ws : List Value) → P v → All P ws → All P (put_among heap v ws)
  put-all v [] h all = All-cons P v [] h (All-nil P)
  put-all v (w ∷ ws) h all = by (comes_after heap v w) (put-all v ws h (All-tail P w ws all))
    where
      by : (b : Bool) → All P (put_among heap v ws) → All P (if b then w ∷ put_among heap v ws else v ∷ (w ∷ ws))
      by true more = All-cons P w (put_among heap v ws) (All-head P w ws all) more
      by false more = All-cons P v (w ∷ ws) h all

  pub by_text-all : (vs : List Value) → All P vs → All P (by_text heap vs)
  by_text-all [] all = All-nil P
  by_text-all (v ∷ vs) all = put-all v (by_text heap vs) (All-head P v vs all) (by_text-all vs (All-tail P v vs all))

  pub sorted-all : (vs : List Value) → All P vs → All P (sorted heap vs)
  unfolding sorted
  sorted-all vs all =
      All-append P (by_text heap (filter (λ value. not (is_undefined value)) vs)) (filter is_undefined vs)
      (by_text-all (filter (λ value. not (is_undefined value)) vs) (All-filter (λ value. not (is_undefined value)) P vs all))
      (All-filter is_undefined P vs all)

-- what is sorted, and then Undefined as often as it stands there
pub sorted-from_sort : (heap : List ObjectState) (vs : List Value) (xs ys : List Keyed) (none front all : List Value) → xs ≡ map (keyed_of heap) (filter (λ value. not (is_undefined value)) vs) → IsSortedBy is_before ys → IsStableBy is_before xs ys → none ≡ [] → front ≡ none ++ map (λ (keyed : Keyed). keyed.value) ys → all ≡ front ++ filter is_undefined vs → all ≡ sorted heap vs
unfolding sorted
sorted-from_sort heap vs xs ys none front all e h stable nothing one two =
    two ∙ ap (λ l. l ++ filter is_undefined vs)
    (one ∙ (ap (λ l. l ++ map (λ (keyed : Keyed). keyed.value) ys) nothing
    ∙ by_text-from_sort heap (filter (λ value. not (is_undefined value)) vs) xs ys e h stable))
