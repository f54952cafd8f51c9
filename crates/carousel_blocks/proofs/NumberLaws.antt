-- Laws of what a function gives at the numbers of a list.
use Rattle.std.proofs.Common.{◌≡◌, ◌≢◌, ℕ, zero, suc, ◌+◌, ◌<◌, ◌≤◌, nat_eq, Bool, true, false, List, [], ◌∷◌, ◌++◌, map, take, get_or, refl, sym, ap, ◌∙◌, subst, arith, eqb-true, ◌⊎◌, inl, inr}
use Rattle.std.specs.Prelude.{Option, Some, None, Contains, IsSome, length, slice_index_or, option_to_list}
use Rattle.std.specs.Ordering.{nat_cmp}
use Rattle.std.specs.declared.cmp.Ordering.TheVariants.{Less}
use Rattle.std.specs.List.{filter_map, cons_option, range_with_len, AllByRecursion}
use Rattle.std.specs.List.Sorted.{IsStrictlyIncreasing, IsStrictlySortedBy}
use Rattle.std.proofs.lemmas.List.{take_more}
use Rattle.std.proofs.lemmas.List.Elements.{Contains-append_cases, filter_map-append}
use Rattle.std.proofs.lemmas.Map.Keys.{sorted_from_strictly_increasing, IsStrictlyIncreasing-from_sorted, sorted_head, sorted_tail}

module _ {X : Type 0} where
  -- one number more
  pub filter_map-push : (f : ℕ → Option X) (ns : List ℕ) (i : ℕ) (x : Option X) (xs : List X) → i < length ns → x ≡ f (get_or ns i 0) → xs ≡ filter_map f (take i ns) → xs ++ option_to_list x ≡ filter_map f (take (i + 1) ns)
  filter_map-push f ns i x xs h e so_far =
      ap (λ ys. ys ++ option_to_list x) so_far
      ∙ ap (λ ys. filter_map f (take i ns) ++ ys) (ap option_to_list e ∙ sym (alone (f (get_or ns i 0))))
      ∙ sym (ap (filter_map f) (take_more ns i 0 h) ∙ filter_map-append f (take i ns) (get_or ns i 0 ∷ [])) where
        alone : (x : Option X) → cons_option x [] ≡ option_to_list x
        alone None = refl
        alone (Some x) = refl

  -- two functions that give the same at each number
  pub filter_map-same : (f g : ℕ → Option X) → ((n : ℕ) → f n ≡ g n) → (ns : List ℕ) → filter_map f ns ≡ filter_map g ns
  filter_map-same f g e ns = ap (λ (h : ℕ → Option X). filter_map h ns) (λ i n. e n i)

  pub filter_map-none : (f : ℕ → Option X) → (start count : ℕ) → ((n : ℕ) → start ≤ n → f n ≡ None) → filter_map f (range_with_len start count) ≡ []
  filter_map-none f start zero e = refl
  filter_map-none f start (suc count) e =
      ap (λ x. cons_option x (filter_map f (range_with_len (start + 1) count))) (e start (omega arith))
      ∙ filter_map-none f (start + 1) count (λ n h. e n (omega arith))

  -- a function that gives something at one number at most
  pub filter_map-one : (f : ℕ → Option X) (m start count : ℕ) → start ≤ m → m < start + count → ((n : ℕ) → n ≢ m → f n ≡ None) → filter_map f (range_with_len start count) ≡ option_to_list (f m)
  filter_map-one f m start zero low high e = absurd (omega arith)
  filter_map-one f m start (suc count) low high e = by (nat_eq start m) refl (λ l h. filter_map-one f m (start + 1) count l h e) where
    alone : (x : Option X) → cons_option x [] ≡ option_to_list x
    alone None = refl
    alone (Some x) = refl

    apart : (a b : ℕ) → nat_eq a b ≡ false → a ≢ b
    apart a b f g = grind arith

    by : (t : Bool) → nat_eq start m ≡ t → (start + 1 ≤ m → m < start + 1 + count → filter_map f (range_with_len (start + 1) count) ≡ option_to_list (f m))
        → cons_option (f start) (filter_map f (range_with_len (start + 1) count)) ≡ option_to_list (f m)
    by true h again =
        let same : start ≡ m = eqb-true start m h in
        ap (cons_option (f start)) (filter_map-none f (start + 1) count (λ n l. e n (omega arith))) ∙ alone (f start) ∙ ap (λ n. option_to_list (f n)) same
    by false h again =
        let other : start ≢ m = apart start m h in
        ap (λ x. cons_option x (filter_map f (range_with_len (start + 1) count))) (e start other) ∙ again (omega arith) (omega arith)

-- ---- numbers that ascend

-- each number is above the one before; the first isn't below `low`, and all are below the bound
abbrev Ascend : ℕ → ℕ → List ℕ → Type 0
Ascend low bound [] = Unit {0}
Ascend low bound (n ∷ ns) = (low ≤ n) × ((n < bound) × Ascend (n + 1) bound ns)

not_below : (low bound : ℕ) (ns : List ℕ) → Ascend low bound ns → (n : ℕ) → Contains ns n → low ≤ n
not_below low bound [] a n c = absurd (let l = c.1 in omega arith)
not_below low bound (m ∷ ns) a n c = by (Contains-append_cases (m ∷ []) ns n c) (not_below (m + 1) bound ns a.1.1 n) where
  one : (k : ℕ) → k < length (m ∷ []) → slice_index_or (m ∷ []) k n ≡ n → low ≤ n
  one zero l e = let h = a.0 in omega arith
  one (suc k) l e = absurd (omega arith)

  by : Contains (m ∷ []) n ⊎ Contains ns n → (Contains ns n → m + 1 ≤ n) → low ≤ n
  by (inl x) further = one x.0 x.1 x.2
  by (inr x) further = let h = further x in let g = a.0 in omega arith

less : (a b : ℕ) → nat_cmp a b ≡ Less → a < b
less a b h = grind arith

ascend : (low bound : ℕ) (ns : List ℕ) → IsStrictlySortedBy nat_cmp ns → AllByRecursion (λ n. low ≤ n) ns → AllByRecursion (λ n. n < bound) ns → Ascend low bound ns
ascend low bound [] s l h = tt
ascend low bound (n ∷ ns) s l h = (l.0, (h.0, ascend (n + 1) bound ns (sorted_tail nat_cmp n ns s) (above ns (sorted_head nat_cmp n ns s)) h.1)) where
  above : (ms : List ℕ) → AllByRecursion (λ m. nat_cmp n m ≡ Less) ms → AllByRecursion (λ m. n + 1 ≤ m) ms
  above [] a = tt
  above (m ∷ ms) a = (let g = less n m a.0 in omega arith, above ms a.1)

module _ {X : Type 0} where
  -- where ascending numbers have each one at which the function gives something, it gives the same at all from `start` on
  pub filter_map-all : (f : ℕ → Option X) (start count bound : ℕ) (ns : List ℕ) → start + count ≡ bound → Ascend start bound ns → ((n : ℕ) → start ≤ n → (Contains ns n → ⊥) → f n ≡ None)
      → filter_map f ns ≡ filter_map f (range_with_len start count)
  filter_map-all f start zero bound [] e a none = refl
  filter_map-all f start zero bound (n ∷ ns) e a none = absurd (let l = a.0 in let h = a.1.0 in omega arith)
  filter_map-all f start (suc count) bound [] e a none =
      filter_map-all f (start + 1) count bound [] (omega arith) tt (λ n l c. none n (omega arith) c)
      ∙ ap (λ x. cons_option x (filter_map f (range_with_len (start + 1) count))) (sym (none start (omega arith) (λ c. let l = c.1 in omega arith)))
  filter_map-all f start (suc count) bound (n ∷ ns) e a none = by (nat_eq start n) refl (λ ms b absent. filter_map-all f (start + 1) count bound ms (omega arith) b absent) where
    apart : (x y : ℕ) → nat_eq x y ≡ false → x ≢ y
    apart x y f g = grind arith

    found : (m : ℕ) → Contains (n ∷ ns) m → (n ≡ m) ⊎ Contains ns m
    found m c = or (Contains-append_cases (n ∷ []) ns m c) where
      one : (k : ℕ) → k < length (n ∷ []) → slice_index_or (n ∷ []) k m ≡ m → n ≡ m
      one zero l e = e
      one (suc k) l e = absurd (omega arith)

      or : Contains (n ∷ []) m ⊎ Contains ns m → (n ≡ m) ⊎ Contains ns m
      or (inl x) = inl (one x.0 x.1 x.2)
      or (inr x) = inr x

    by : (t : Bool) → nat_eq start n ≡ t → ((ms : List ℕ) → Ascend (start + 1) bound ms → ((m : ℕ) → start + 1 ≤ m → (Contains ms m → ⊥) → f m ≡ None) → filter_map f ms ≡ filter_map f (range_with_len (start + 1) count))
        → cons_option (f n) (filter_map f ns) ≡ cons_option (f start) (filter_map f (range_with_len (start + 1) count))
    by true h again =
        let same : start ≡ n = eqb-true start n h in
        ap (cons_option (f n)) (again ns (subst (λ m. Ascend (m + 1) bound ns) (sym same) a.1.1) (λ m l c. none m (omega arith) (λ d. not_either m l c (found m d))))
        ∙ ap (λ m. cons_option (f m) (filter_map f (range_with_len (start + 1) count))) (sym same)
      where
        not_either : (m : ℕ) → start + 1 ≤ m → (Contains ns m → ⊥) → (n ≡ m) ⊎ Contains ns m → ⊥
        not_either m l c (inl x) = let s : start ≡ n = eqb-true start n h in omega arith
        not_either m l c (inr x) = c x
    by false h again =
        let other : start ≢ n = apart start n h in
        let low = a.0 in
        again (n ∷ ns) (omega arith, a.1) (λ m l c. none m (omega arith) c)
        ∙ ap (λ x. cons_option x (filter_map f (range_with_len (start + 1) count))) (sym (none start (omega arith) (λ c. missing (found start c))))
      where
        missing : (n ≡ start) ⊎ Contains ns start → ⊥
        missing (inl x) = apart start n h (sym x)
        missing (inr x) = let l = not_below (n + 1) bound ns a.1.1 start x in let g = a.0 in omega arith

  -- the same for numbers from 0 on that rise
  pub filter_map-listed : (f : ℕ → Option X) (bound : ℕ) (ns : List ℕ) → IsStrictlyIncreasing ns → AllByRecursion (λ n. n < bound) ns → ((n : ℕ) → IsSome (f n) → Contains ns n)
      → filter_map f ns ≡ filter_map f (range_with_len 0 bound)
  filter_map-listed f bound ns rises below has =
      filter_map-all f 0 bound bound ns (omega arith) (ascend 0 bound ns (sorted_from_strictly_increasing ns rises) (any ns) below) (λ n l c. absent n (f n) refl c) where
        any : (ms : List ℕ) → AllByRecursion (λ m. 0 ≤ m) ms
        any [] = tt
        any (m ∷ ms) = (omega arith, any ms)

        absent : (n : ℕ) (x : Option X) → f n ≡ x → (Contains ns n → ⊥) → x ≡ None
        absent n None e c = refl
        absent n (Some x) e c = absurd (c (has n (subst (λ (o : Option X). IsSome o) (sym e) refl)))

-- ---- what stands at ascending numbers

lower : (low bound : ℕ) (ns : List ℕ) → Ascend (low + 1) bound ns → Ascend low bound ns
lower low bound [] a = tt
lower low bound (n ∷ ns) a = (let l = a.0 in omega arith, a.1)

sorted_from_ascend : (low bound : ℕ) (ns : List ℕ) → Ascend low bound ns → IsStrictlySortedBy nat_cmp ns
unfolding IsStrictlySortedBy
sorted_from_ascend low bound [] a = tt
sorted_from_ascend low bound (n ∷ ns) a = (above (n + 1) ns a.1.1 (omega arith), sorted_from_ascend (n + 1) bound ns a.1.1) where
  is_less : (m : ℕ) → n < m → nat_cmp n m ≡ Less
  is_less m h = grind arith

  above : (from : ℕ) (ms : List ℕ) → Ascend from bound ms → n < from → AllByRecursion (λ m. nat_cmp n m ≡ Less) ms
  above from [] b h = tt
  above from (m ∷ ms) b h = (is_less m (let l = b.0 in omega arith), above (m + 1) ms b.1.1 (let l = b.0 in omega arith))

module _ {X : Type 0} where
  ascend_by : (f : ℕ → Option X) (number : X → ℕ) → ((n : ℕ) (x : X) → f n ≡ Some x → number x ≡ n) → (start count bound : ℕ) → start + count ≡ bound → Ascend start bound (map number (filter_map f (range_with_len start count)))
  ascend_by f number named start zero bound e = tt
  ascend_by f number named start (suc count) bound e = by (f start) refl (ascend_by f number named (start + 1) count bound (omega arith)) where
    by : (x : Option X) → f start ≡ x → Ascend (start + 1) bound (map number (filter_map f (range_with_len (start + 1) count))) → Ascend start bound (map number (cons_option x (filter_map f (range_with_len (start + 1) count))))
    by None h rest = lower start bound (map number (filter_map f (range_with_len (start + 1) count))) rest
    by (Some x) h rest =
        let n = named start x h in
        (omega arith, (omega arith, subst (λ k. Ascend (k + 1) bound (map number (filter_map f (range_with_len (start + 1) count)))) (sym n) rest))

  -- where what stands at a number names the number, all that stands at numbers from 0 on names them in order
  pub increasing-filter_map : (f : ℕ → Option X) (number : X → ℕ) → ((n : ℕ) (x : X) → f n ≡ Some x → number x ≡ n) → (bound : ℕ) → IsStrictlyIncreasing (map number (filter_map f (range_with_len 0 bound)))
  increasing-filter_map f number named bound =
      let ns = map number (filter_map f (range_with_len 0 bound)) in
      IsStrictlyIncreasing-from_sorted ns (sorted_from_ascend 0 bound ns (ascend_by f number named 0 bound bound (omega arith)))
