-- Places of a text in another, looked for one by one.
use Rattle.std.proofs.Common.{◌≡◌, ℕ, zero, suc, ◌+◌, ◌-◌, ◌<◌, ◌≤◌, Bool, true, false, List, [], ◌∷◌, ◌++◌, length, refl, sym, ◌∙◌, ap, arith, add-one, zero-add, map}
use Rattle.std.specs.Prelude.{nat_le, nat_lt, filter, if◌then◌else◌, Some, None}
use Rattle.std.specs.List.{find, range_with_len}
use Rattle.std.proofs.lemmas.Bool.Decides.{nat_tests}
use Rattle.std.proofs.lemmas.List.{append-nil, map-id}
use Rattle.std.proofs.lemmas.List.FromFn.{filter_of_map_range_with_len_more}
use Rattle.es_values.specs.declared.numbers.Num.{Num}
use Rattle.es_builtins.specs.Texts.{first_place, is_up_to, last, last_place, places_of, stands_at}

-- ---- from the front

nat_le-true : (a b : ℕ) → a ≤ b → nat_le a b ≡ true
nat_le-true a b h = grind (arith, nat_tests)

nat_le-false : (a b : ℕ) → b < a → nat_le a b ≡ false
nat_le-false a b h = grind (arith, nat_tests)

-- what isn't the place itself stands at it or behind it where it stands behind it
le-next : (p : ℕ → Bool) (least x : ℕ) → p least ≡ false → p x ≡ true → nat_le least x ≡ nat_le (suc least) x
le-next p least x miss hit = by (nat_lt least x) refl
  where
    by : (t : Bool) → nat_lt least x ≡ t → nat_le least x ≡ nat_le (suc least) x
    by true e = let h : least < x = grind (arith, nat_tests) in nat_le-true least x (omega arith) ∙ sym (nat_le-true (suc least) x h)
    by false e =
        let h : x ≤ least = grind (arith, nat_tests) in
        let apart : least ≡ x → ⊥ = λ same. absurd (cc (ap p same)) in
        nat_le-false least x (omega arith) ∙ sym (nat_le-false (suc least) x (omega arith))

skipped : (p : ℕ → Bool) (least : ℕ) (xs : List ℕ) → p least ≡ false → find (nat_le least) (filter p xs) ≡ find (nat_le (suc least)) (filter p xs)
skipped p least [] miss = refl
skipped p least (x ∷ xs) miss = by (p x) refl (skipped p least xs miss)
  where
    by : (t : Bool) → p x ≡ t → find (nat_le least) (filter p xs) ≡ find (nat_le (suc least)) (filter p xs) → find (nat_le least) (if t then x ∷ filter p xs else filter p xs) ≡ find (nat_le (suc least)) (if t then x ∷ filter p xs else filter p xs)
    by false e rest = rest
    by true e rest = rw (le-next p least x miss e, rest) refl

-- it is one of the sought, which go on behind it
found-here : (p : ℕ → Bool) (least from : ℕ) (t : Bool) (more : List ℕ) → p from ≡ t → p least ≡ true → from ≡ least → find (nat_le least) (if t then from ∷ more else more) ≡ Some least
found-here p least from true more e hit same = rw (nat_le-true least from (omega arith)) (ap (λ k. Some k) same)
found-here p least from false more e hit same = let is = ap p same in absurd (cc)

found-later : (p : ℕ → Bool) (least from : ℕ) (t : Bool) (more : List ℕ) → from < least → find (nat_le least) more ≡ Some least → find (nat_le least) (if t then from ∷ more else more) ≡ Some least
found-later p least from true more h rest = rw (nat_le-false least from h) rest
found-later p least from false more h rest = rest

found : (p : ℕ → Bool) (least from count : ℕ) → p least ≡ true → from ≤ least → least < from + count → find (nat_le least) (filter p (range_with_len from count)) ≡ Some least
found p least from zero hit low high = absurd (omega arith)
found p least from (suc count) hit low high = by (nat_lt from least) refl (λ h. found p least (from + 1) count hit (omega arith) (omega arith))
  where
    by : (t : Bool) → nat_lt from least ≡ t → (from < least → find (nat_le least) (filter p (range_with_len (from + 1) count)) ≡ Some least) → find (nat_le least) (filter p (range_with_len from (suc count))) ≡ Some least
    by true e later = let h : from < least = grind (arith, nat_tests) in found-later p least from (p from) (filter p (range_with_len (from + 1) count)) h (later h)
    by false e later = let h : least ≤ from = grind (arith, nat_tests) in found-here p least from (p from) (filter p (range_with_len (from + 1) count)) refl hit (omega arith)

past : (p : ℕ → Bool) (least from count : ℕ) → from + count ≤ least → find (nat_le least) (filter p (range_with_len from count)) ≡ None
past p least from zero high = refl
past p least from (suc count) high = skip (p from) (past p least (from + 1) count (omega arith))
  where
    skip : (t : Bool) → find (nat_le least) (filter p (range_with_len (from + 1) count)) ≡ None → find (nat_le least) (if t then from ∷ filter p (range_with_len (from + 1) count) else filter p (range_with_len (from + 1) count)) ≡ None
    skip true rest = rw (nat_le-false least from (omega arith)) rest
    skip false rest = rest

pub first_place-found : (wanted text : List ℕ) (place : ℕ) → stands_at wanted text place ≡ true → place ≤ length text → first_place wanted text place ≡ Some place
unfolding first_place
first_place-found wanted text place hit h = found (stands_at wanted text) place 0 (suc (length text)) hit (omega arith) (omega arith)

pub first_place-next : (wanted text : List ℕ) (place : ℕ) → stands_at wanted text place ≡ false → first_place wanted text place ≡ first_place wanted text (place + 1)
unfolding first_place
first_place-next wanted text place miss = skipped (stands_at wanted text) place (range_with_len 0 (suc (length text))) miss ∙ ap (λ k. find (nat_le k) (places_of wanted text)) (sym (add-one place))

pub first_place-past : (wanted text : List ℕ) (place : ℕ) → length text < place → first_place wanted text place ≡ None
unfolding first_place
first_place-past wanted text place h = past (stands_at wanted text) place 0 (suc (length text)) (omega arith)

-- ---- from the end

last-snoc : (xs : List ℕ) (x : ℕ) → last (xs ++ x ∷ []) ≡ Some x
last-snoc [] x = refl
last-snoc (y ∷ []) x = refl
last-snoc (y ∷ (z ∷ zs)) x = last-snoc (z ∷ zs) x

places-more : (p : ℕ → Bool) (count : ℕ) → filter p (range_with_len 0 (count + 1)) ≡ filter p (range_with_len 0 count) ++ (if p count then count ∷ [] else [])
places-more p count =
    let e = filter_of_map_range_with_len_more p (λ (k : ℕ). k) 0 count count (zero-add count) in
    let one : map (λ (k : ℕ). k) (range_with_len 0 (count + 1)) ≡ range_with_len 0 (count + 1) = map-id (range_with_len 0 (count + 1)) in
    let other : map (λ (k : ℕ). k) (range_with_len 0 count) ≡ range_with_len 0 count = map-id (range_with_len 0 count) in
    ap (filter p) (sym one) ∙ (e ∙ ap (λ l. filter p l ++ (if p count then count ∷ [] else [])) other)

one-less : (n : ℕ) → 0 < n → n - 1 + 1 ≡ n
one-less n h = omega arith

pub last-here : (p : ℕ → Bool) (n : ℕ) → 0 < n → p (n - 1) ≡ true → last (filter p (range_with_len 0 n)) ≡ Some (n - 1)
last-here p n h hit =
    ap (λ k. last (filter p (range_with_len 0 k))) (sym (one-less n h))
    ∙ (ap last (places-more p (n - 1) ∙ ap (λ t. filter p (range_with_len 0 (n - 1)) ++ (if t then (n - 1) ∷ [] else [])) hit)
    ∙ last-snoc (filter p (range_with_len 0 (n - 1))) (n - 1))

pub last-before : (p : ℕ → Bool) (n : ℕ) → 0 < n → p (n - 1) ≡ false → last (filter p (range_with_len 0 n)) ≡ last (filter p (range_with_len 0 (n - 1)))
last-before p n h miss =
    ap (λ k. last (filter p (range_with_len 0 k))) (sym (one-less n h))
    ∙ ap last (places-more p (n - 1) ∙ (ap (λ t. filter p (range_with_len 0 (n - 1)) ++ (if t then (n - 1) ∷ [] else [])) miss ∙ append-nil (filter p (range_with_len 0 (n - 1)))))

-- what is asked for are the first places, so many of them
none-up : (r p : ℕ → Bool) (xs : List ℕ) → ((x : ℕ) → r x ≡ false) → filter r (filter p xs) ≡ []
none-up r p [] off = refl
none-up r p (x ∷ xs) off = by (p x) (none-up r p xs off)
  where
    by : (t : Bool) → filter r (filter p xs) ≡ [] → filter r (if t then x ∷ filter p xs else filter p xs) ≡ []
    by true rest = rw (off x, rest) refl
    by false rest = rest

cut-none : (r p : ℕ → Bool) (from count : ℕ) → ((x : ℕ) → from ≤ x → x < from + count → r x ≡ false) → filter r (filter p (range_with_len from count)) ≡ []
cut-none r p from zero off = refl
cut-none r p from (suc count) off = by (p from) (cut-none r p (from + 1) count (λ x low high. off x (omega arith) (omega arith)))
  where
    by : (t : Bool) → filter r (filter p (range_with_len (from + 1) count)) ≡ [] → filter r (if t then from ∷ filter p (range_with_len (from + 1) count) else filter p (range_with_len (from + 1) count)) ≡ []
    by true rest = rw (off from (omega arith) (omega arith), rest) refl
    by false rest = rest

cut-same : (r p : ℕ → Bool) (from count most : ℕ) → most ≤ count → ((x : ℕ) → from ≤ x → x < from + count → r x ≡ nat_lt x (from + most)) → filter r (filter p (range_with_len from count)) ≡ filter p (range_with_len from most)
cut-same r p from count zero h same = cut-none r p from count (λ x low high. same x low high ∙ off x low)
  where
    off : (x : ℕ) → from ≤ x → nat_lt x (from + zero) ≡ false
    off x low = grind (arith, nat_tests)
cut-same r p from zero (suc most) h same = absurd (omega arith)
cut-same r p from (suc count) (suc most) h same = by (p from) (cut-same r p (from + 1) count most (omega arith) (λ x low high. same x (omega arith) (omega arith) ∙ ap (nat_lt x) (omega arith)))
  where
    on : r from ≡ true
    on = same from (omega arith) (omega arith) ∙ grind (arith, nat_tests)

    by : (t : Bool) → filter r (filter p (range_with_len (from + 1) count)) ≡ filter p (range_with_len (from + 1) most) → filter r (if t then from ∷ filter p (range_with_len (from + 1) count) else filter p (range_with_len (from + 1) count)) ≡ (if t then from ∷ filter p (range_with_len (from + 1) most) else filter p (range_with_len (from + 1) most))
    by true rest = rw (on, rest) refl
    by false rest = rest

pub last_place-none : (wanted text : List ℕ) (most : Num) → ((place : ℕ) → is_up_to most (length text) place ≡ false) → last_place wanted text most ≡ None
unfolding last_place
last_place-none wanted text most off = ap last (none-up (is_up_to most (length text)) (stands_at wanted text) (range_with_len 0 (suc (length text))) off)

pub last_place-of : (wanted text : List ℕ) (most : Num) (start : ℕ) → start ≤ length text → ((place : ℕ) → place ≤ length text → is_up_to most (length text) place ≡ nat_le place start) → last_place wanted text most ≡ last (filter (stands_at wanted text) (range_with_len 0 (start + 1)))
unfolding last_place
last_place-of wanted text most start h same =
    ap last (cut-same (is_up_to most (length text)) (stands_at wanted text) 0 (suc (length text)) (start + 1) (omega arith) (λ x low high. same x (omega arith) ∙ as_below x))
  where
    by : (x : ℕ) (t : Bool) → nat_le x start ≡ t → nat_lt x (0 + (start + 1)) ≡ t
    by x true e = grind (arith, nat_tests)
    by x false e = grind (arith, nat_tests)

    as_below : (x : ℕ) → nat_le x start ≡ nat_lt x (0 + (start + 1))
    as_below x = sym (by x (nat_le x start) refl)
