-- What the order of `sort` is: the same elements, ascending, and stable.
use Rattle.std.proofs.Common.{◌≡◌, ℕ, Bool, true, false, List, [], ◌∷◌, ◌++◌, filter, refl, sym, ap, ◌∙◌, subst, inl, inr}
use Rattle.std.specs.Prelude.{All, not}
use Rattle.std.specs.Cmp.{IsStrictWeakOrder}
use Rattle.std.specs.Cmp.Lexicographic.{slice_cmp}
use Rattle.std.specs.Ordering.{is_lt, nat_cmp}
use Rattle.std.specs.List.Sorted.{IsPermutation, IsSortedByKey, IsStableByKey}
use Rattle.std.proofs.lemmas.Bool.{cond-true, cond-false, cases_Bool, not-true}
use Rattle.std.proofs.lemmas.Cmp.{nat_list_cmp_total}
use Rattle.std.proofs.lemmas.List.Elements.{All-head, All-tail, filter_passes}
use Rattle.std.proofs.lemmas.List.Sorted.{ranks_by}
use Rattle.es_values.specs.declared.values.Value.{Value}
use Rattle.es_values.specs.Conversions.{text_of}
use Rattle.es_values.specs.Objects.{ObjectState}
use Rattle.es_builtins.specs.Arrays.{by_text, comes_after, is_undefined, put_among, sorted}
use Rattle.es_builtins.specs.Sorting.{sort_key}
use Rattle.es_builtins.proofs.SortLemmas.{by_text-all, filter-inserted, inserted, inserted-from_sort, less-is, permutation-inserted, put, put-behind, put-first, sorted-inserted}

module _ (heap : List ObjectState) where
  abbrev is_below : Value → Value → Bool
  is_below one other = is_lt (slice_cmp nat_cmp (sort_key heap one) (sort_key heap other))

  order : IsStrictWeakOrder is_below
  order = ranks_by nat_list_cmp_total (sort_key heap)

  last-key : (v : Value) → is_undefined v ≡ true → sort_key heap v ≡ 1 ∷ []
  last-key v h = cond-true _ _ _ h

  text-key : (v : Value) → is_undefined v ≡ false → sort_key heap v ≡ 0 ∷ text_of heap v
  text-key v h = cond-false _ _ _ h

  keys-below : (v w : Value) (k l : List ℕ) → sort_key heap v ≡ k → sort_key heap w ≡ l → is_below v w ≡ is_lt (slice_cmp nat_cmp k l)
  keys-below v w k l e f = ap (λ x. is_lt (slice_cmp nat_cmp x (sort_key heap w))) e ∙ ap (λ x. is_lt (slice_cmp nat_cmp k x)) f

  texts-below : (v w : Value) → is_undefined v ≡ false → is_undefined w ≡ false → is_below v w ≡ comes_after heap w v
  texts-below v w h k = keys-below v w (0 ∷ text_of heap v) (0 ∷ text_of heap w) (text-key v h) (text-key w k) ∙ sym (less-is (slice_cmp nat_cmp (text_of heap v) (text_of heap w)))

  text-below : (v w : Value) → is_undefined v ≡ false → is_undefined w ≡ true → is_below v w ≡ true
  text-below v w h k = keys-below v w (0 ∷ text_of heap v) (1 ∷ []) (text-key v h) (last-key w k)

  last-below : (v w : Value) → is_undefined v ≡ true → is_below v w ≡ false
  last-below v w h =
      elim (cases_Bool (is_undefined w)) [
        | inl k ↦ keys-below v w (1 ∷ []) (1 ∷ []) (last-key v h) (last-key w k)
        | inr k ↦ keys-below v w (1 ∷ []) (0 ∷ text_of heap w) (last-key v h) (text-key w k)
      ]

  -- in front of those that are Undefined
  put-last : (v : Value) (lasts : List Value) → All (λ w. is_undefined w ≡ true) lasts → put is_below order v lasts ≡ v ∷ lasts
  unfolding put
  put-last v [] all = refl
  put-last v (w ∷ ws) all = put-first is_below order v w ws (last-below w v (All-head (λ x. is_undefined x ≡ true) w ws all))

  -- Undefined goes behind all texts
  put-undefined : (v : Value) (texts lasts : List Value) → is_undefined v ≡ true → All (λ w. is_undefined w ≡ false) texts → All (λ w. is_undefined w ≡ true) lasts → put is_below order v (texts ++ lasts) ≡ texts ++ v ∷ lasts
  put-undefined v [] lasts h texts-all all = put-last v lasts all
  put-undefined v (w ∷ ws) lasts h texts-all all =
      put-behind is_below order v w (ws ++ lasts) (text-below w v (All-head (λ x. is_undefined x ≡ false) w ws texts-all) h)
      ∙ ap (λ (l : List Value). w ∷ l) (put-undefined v ws lasts h (All-tail (λ x. is_undefined x ≡ false) w ws texts-all) all)

  -- and every other value among the texts
  put-text : (v : Value) (texts lasts : List Value) → is_undefined v ≡ false → All (λ w. is_undefined w ≡ false) texts → All (λ w. is_undefined w ≡ true) lasts → put is_below order v (texts ++ lasts) ≡ put_among heap v texts ++ lasts
  put-text v [] lasts h texts-all all = put-last v lasts all
  put-text v (w ∷ ws) lasts h texts-all all =
      let same = texts-below w v (All-head (λ x. is_undefined x ≡ false) w ws texts-all) h in
      elim (cases_Bool (comes_after heap v w)) [
        | inl after ↦
            put-behind is_below order v w (ws ++ lasts) (same ∙ after)
            ∙ ap (λ (l : List Value). w ∷ l) (put-text v ws lasts h (All-tail (λ x. is_undefined x ≡ false) w ws texts-all) all)
            ∙ ap (λ (l : List Value). l ++ lasts) (sym (cond-true _ _ _ after))
        | inr before ↦
            put-first is_below order v w (ws ++ lasts) (same ∙ before)
            ∙ ap (λ (l : List Value). l ++ lasts) (sym (cond-false _ _ _ before))
      ]

  abbrev texts_of : List Value → List Value
  texts_of vs = filter (λ value. not (is_undefined value)) vs

  all-texts : (vs : List Value) → All (λ w. is_undefined w ≡ false) (by_text heap (texts_of vs))
  all-texts vs = by_text-all (λ w. is_undefined w ≡ false) heap (texts_of vs) (λ k d below. not-true _ (filter_passes (λ value. not (is_undefined value)) vs k d below))

  inserted-is : (vs : List Value) → inserted is_below order vs ≡ by_text heap (texts_of vs) ++ filter is_undefined vs
  unfolding inserted
  inserted-is [] = refl
  inserted-is (v ∷ vs) =
      let texts = by_text heap (texts_of vs) in
      let lasts = filter is_undefined vs in
      let all = filter_passes is_undefined vs in
      ap (put is_below order v) (inserted-is vs)
      ∙ elim (cases_Bool (is_undefined v)) [
        | inl h ↦
            put-undefined v texts lasts h (all-texts vs) all
            ∙ ap (λ (l : List Value). by_text heap l ++ v ∷ lasts) (sym (cond-false _ _ _ (ap not h)))
            ∙ ap (λ (l : List Value). by_text heap (texts_of (v ∷ vs)) ++ l) (sym (cond-true _ _ _ h))
        | inr h ↦
            put-text v texts lasts h (all-texts vs) all
            ∙ ap (λ (l : List Value). by_text heap l ++ lasts) (sym (cond-true _ _ _ (ap not h)))
            ∙ ap (λ (l : List Value). by_text heap (texts_of (v ∷ vs)) ++ l) (sym (cond-false _ _ _ h))
      ]

  sorted-is : (vs : List Value) → inserted is_below order vs ≡ sorted heap vs
  unfolding sorted
  sorted-is vs = inserted-is vs

  pub sorted-permutation : (vs : List Value) → IsPermutation vs (sorted heap vs)
  sorted-permutation vs = subst (IsPermutation vs) (sorted-is vs) (permutation-inserted is_below order vs)

  pub sorted-ascends : (vs : List Value) → IsSortedByKey (sort_key heap) (slice_cmp nat_cmp) (sorted heap vs)
  sorted-ascends vs = subst (λ (l : List Value). IsSortedByKey (sort_key heap) (slice_cmp nat_cmp) l) (sorted-is vs) (sorted-inserted is_below order vs)

  pub sorted-stable : (vs : List Value) → IsStableByKey (sort_key heap) (slice_cmp nat_cmp) vs (sorted heap vs)
  sorted-stable vs = subst (λ (l : List Value). IsStableByKey (sort_key heap) (slice_cmp nat_cmp) vs l) (sorted-is vs) (λ x. filter-inserted is_below order x vs)

  pub sorted-only : (vs others : List Value) → IsSortedByKey (sort_key heap) (slice_cmp nat_cmp) others → IsStableByKey (sort_key heap) (slice_cmp nat_cmp) vs others → others ≡ sorted heap vs
  sorted-only vs others h stable = inserted-from_sort is_below order vs others h stable ∙ sorted-is vs
