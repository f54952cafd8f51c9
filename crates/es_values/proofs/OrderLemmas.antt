-- The order of insertion, an array's length, and elements at their places.
use Rattle.std.proofs.Common.{◌≡◌, ℕ, zero, suc, ◌+◌, ◌<◌, ◌≤◌, Bool, true, false, List, [], ◌∷◌, ◌++◌, length, map, refl, sym, ◌∙◌, ap, arith, ⊎_elim}
use Rattle.std.specs.Prelude.{nat_le, nat_lt, max, not, ◌||◌, if◌then◌else◌, slice_get, Option, Some, None}
use Rattle.std.specs.Option.{option_map_or}
use Rattle.std.specs.List.{list_any}
use Rattle.std.specs.Map.{lookup, remove_entry}
use Rattle.std.specs.Set.{remove_key}
use Rattle.std.proofs.lemmas.Bool.{cases_lt}
use Rattle.std.proofs.lemmas.Bool.Decides.{nat_tests}
use Rattle.std.proofs.lemmas.Map.Entries.{lookup-filter-keys}
use Rattle.indexmap.specs.IndexMap.{insert_entry}
use Rattle.bml_bytes.specs.Numerals.{decimal_digits, decimal_number}
use Rattle.bml_bytes.specs.Words.{is_same}
use Rattle.es_values.specs.declared.values.Value.{Value}
use Rattle.es_values.specs.Objects.{ObjectState}
use Rattle.es_values.specs.Heaps.{cut_at, index_of, is_array_length, length_for, names_of, new_object, with_property, without_property}
use Rattle.es_values.specs.Arrays.{array_of, element_at, with_elements, with_first_elements}
use Rattle.es_values.specs.Slots.{is_element_name}
use Rattle.es_values.proofs.JoinLemmas.{digits-other, index_of-digits}
use Rattle.es_values.proofs.LawLemmas.{found, kept}
use Rattle.es_values.proofs.SlotLemmas.{same-name}

-- Names in order of insertion

pub names-put : (es : List (List ℕ × Value)) (name : List ℕ) (v : Value) → map (λ p. p.0) (insert_entry is_same es name v) ≡ (if list_any (is_same name) (map (λ p. p.0) es) then map (λ p. p.0) es else map (λ p. p.0) es ++ name ∷ [])
names-put [] name v = refl
names-put (e ∷ es) name v = by (is_same name e.0) (names-put es name v)
  where
    split : (b : Bool) (xs : List (List ℕ)) → e.0 ∷ (if b then xs else xs ++ name ∷ []) ≡ (if b then e.0 ∷ xs else e.0 ∷ (xs ++ name ∷ []))
    split true xs = refl
    split false xs = refl

    by : (t : Bool) → map (λ p. p.0) (insert_entry is_same es name v) ≡ (if list_any (is_same name) (map (λ p. p.0) es) then map (λ p. p.0) es else map (λ p. p.0) es ++ name ∷ []) → map (λ p. p.0) (if t then (e.0, v) ∷ es else e ∷ insert_entry is_same es name v) ≡ (if t || list_any (is_same name) (map (λ p. p.0) es) then e.0 ∷ map (λ p. p.0) es else e.0 ∷ (map (λ p. p.0) es ++ name ∷ []))
    by true more = refl
    by false more = ap (λ l. e.0 ∷ l) more ∙ split (list_any (is_same name) (map (λ p. p.0) es)) (map (λ p. p.0) es)

names-removed : (test : List ℕ → Bool) (es : List (List ℕ × Value)) → map (λ p. p.0) (remove_entry test es) ≡ remove_key test (map (λ p. p.0) es)
names-removed test [] = refl
names-removed test (e ∷ es) = by (test e.0) (names-removed test es)
  where
    by : (t : Bool) → map (λ p. p.0) (remove_entry test es) ≡ remove_key test (map (λ p. p.0) es) → map (λ p. p.0) (if t then es else e ∷ remove_entry test es) ≡ (if t then map (λ p. p.0) es else e.0 ∷ remove_key test (map (λ p. p.0) es))
    by true more = refl
    by false more = ap (λ l. e.0 ∷ l) more

pub names-without : (o : ObjectState) (name : List ℕ) → is_array_length o name ≡ false → names_of (without_property o name) ≡ remove_key (is_same name) (names_of o)
names-without o name h =
    ap (λ b. names_of (if b then o else record { array_length = o.array_length; properties = remove_entry (is_same name) o.properties })) h
    ∙ names-removed (is_same name) o.properties

-- The length of an array

pub put-longer : (o : ObjectState) (name : List ℕ) (v : Value) (n index : ℕ) → o.array_length ≡ Some n → index_of name ≡ Some index → (with_property o name v).array_length ≡ Some (max n (index + 1))
put-longer o name v n index h k =
    ap (λ (a : Option ℕ). option_map_or (λ old. Some (max old (length_for name))) a None) h
    ∙ ap (λ (i : Option ℕ). Some (max n (option_map_or (λ j. j + 1) i 0))) k

at-least : (a b : ℕ) → nat_lt a b ≡ false → nat_le b a ≡ true
at-least a b h = let k : b ≤ a = grind (arith, nat_tests, h) in grind (arith, nat_tests, k)

less-than : (a b : ℕ) → nat_lt a b ≡ true → nat_le b a ≡ false
less-than a b h = let k : a < b = grind (arith, nat_tests, h) in grind (arith, nat_tests, k)

not-le : (a b : ℕ) → not (nat_le a b) ≡ nat_lt b a
not-le a b = by (nat_lt b a) refl
  where
    by : (t : Bool) → nat_lt b a ≡ t → not (nat_le a b) ≡ t
    by true e = ap not (less-than b a e)
    by false e = ap not (at-least b a e)

pub cut-element : ((n : ℕ) → decimal_number (decimal_digits n) ≡ n) → (ps : List (List ℕ × Value)) (count index : ℕ) → index < 2147483647 → element_at (cut_at count ps) index ≡ (if nat_lt index count then element_at ps index else None)
cut-element back ps count index small =
    let name = decimal_digits index in
    let stays = λ (n : List ℕ). not (is_element_name count n) in
    let tested : stays name ≡ nat_lt index count =
    ap (λ (o : Option ℕ). not (option_map_or (nat_le count) o false)) (index_of-digits back index small) ∙ not-le count index in
    lookup-filter-keys (is_same name) stays (stays name) (λ k e. ap stays (sym (same-name name k e))) ps
    ∙ ap (λ b. if b then lookup (is_same name) ps else None) tested

-- Values as elements

below-first : ((n : ℕ) → decimal_number (decimal_digits n) ≡ n) → (vs : List Value) (o : ObjectState) (place k : ℕ) → k < place → element_at (with_elements o place vs).properties k ≡ element_at o.properties k
below-first back [] o place k h = refl
below-first back (v ∷ vs) o place k h =
    below-first back vs (with_property o (decimal_digits place) v) (place + 1) k (omega arith)
    ∙ kept o.properties (decimal_digits place) (decimal_digits k) v (digits-other back place k (λ same. omega arith))

inside : ((n : ℕ) → decimal_number (decimal_digits n) ≡ n) → (vs : List Value) (o : ObjectState) (place i : ℕ) → i < length vs → element_at (with_elements o place vs).properties (place + i) ≡ slice_get vs i
inside back [] o place i h = let e : i < 0 = h in absurd (omega arith)
inside back (v ∷ vs) o place zero h =
    let same : place + 0 ≡ place = omega arith in
    let next = with_property o (decimal_digits place) v in
    ap (element_at (with_elements next (place + 1) vs).properties) same
    ∙ (below-first back vs next (place + 1) place (omega arith)
    ∙ found o.properties (decimal_digits place) v)
inside back (v ∷ vs) o place (suc i) h =
    let same : place + suc i ≡ place + 1 + i = omega arith in
    let next = with_property o (decimal_digits place) v in
    ap (element_at (with_elements next (place + 1) vs).properties) same
    ∙ inside back vs next (place + 1) i (omega arith)

beyond : ((n : ℕ) → decimal_number (decimal_digits n) ≡ n) → (vs : List Value) (o : ObjectState) (place k : ℕ) → place + length vs ≤ k → element_at (with_elements o place vs).properties k ≡ element_at o.properties k
beyond back [] o place k h = refl
beyond back (v ∷ vs) o place k h =
    let far : place + suc (length vs) ≤ k = h in
    beyond back vs (with_property o (decimal_digits place) v) (place + 1) k (omega arith)
    ∙ kept o.properties (decimal_digits place) (decimal_digits k) v (digits-other back place k (λ same. omega arith))

past : (vs : List Value) (k : ℕ) → length vs ≤ k → slice_get vs k ≡ None
past [] k h = refl
past (v ∷ vs) zero h = let e : suc (length vs) ≤ 0 = h in absurd (omega arith)
past (v ∷ vs) (suc k) h = past vs k (omega arith)

pub made-element : ((n : ℕ) → decimal_number (decimal_digits n) ≡ n) → (vs : List Value) (place : ℕ) → element_at (array_of vs).properties place ≡ slice_get vs place
made-element back vs place = ⊎_elim
    (λ (h : place < length vs). let same : place ≡ 0 + place = omega arith in
    ap (element_at (array_of vs).properties) same ∙ inside back vs (new_object true) 0 place h)
    (λ (h : length vs ≤ place). beyond back vs (new_object true) 0 place (omega arith) ∙ sym (past vs place h))
    (cases_lt place (length vs))

pub set-element : ((n : ℕ) → decimal_number (decimal_digits n) ≡ n) → (o : ObjectState) (vs : List Value) (place : ℕ) → place < 2147483647 → element_at (with_first_elements o vs).properties place ≡ slice_get vs place
set-element back o vs place small =
    let all = (with_elements o 0 vs).properties in
    cut-element back all (length vs) place small ∙ by (nat_lt place (length vs)) refl
  where
    by : (t : Bool) → nat_lt place (length vs) ≡ t → (if t then element_at (with_elements o 0 vs).properties place else None) ≡ slice_get vs place
    by true e =
        let h : place < length vs = grind (arith, nat_tests, e) in
        let same : place ≡ 0 + place = omega arith in
        ap (element_at (with_elements o 0 vs).properties) same ∙ inside back vs o 0 place h
    by false e = let h : length vs ≤ place = grind (arith, nat_tests, e) in sym (past vs place h)

length-elements : ((n : ℕ) → decimal_number (decimal_digits n) ≡ n) → (vs : List Value) (o : ObjectState) (place : ℕ) → place + length vs ≤ 2147483647 → o.array_length ≡ Some place → (with_elements o place vs).array_length ≡ Some (place + length vs)
length-elements back [] o place few h = let same : place ≡ place + 0 = omega arith in h ∙ ap (λ n. Some n) same
length-elements back (v ∷ vs) o place few h =
    let far : place + suc (length vs) ≤ 2147483647 = few in
    let longer : max place (place + 1) ≡ place + 1 = omega arith in
    let next = with_property o (decimal_digits place) v in
    let same : place + 1 + length vs ≡ place + suc (length vs) = omega arith in
    length-elements back vs next (place + 1) (omega arith) (put-longer o (decimal_digits place) v place place h (index_of-digits back place (omega arith)) ∙ ap (λ n. Some n) longer)
    ∙ ap (λ n. Some n) same

pub made-length : ((n : ℕ) → decimal_number (decimal_digits n) ≡ n) → (vs : List Value) → length vs ≤ 2147483647 → (array_of vs).array_length ≡ Some (length vs)
made-length back vs few =
    let same : 0 + length vs ≡ length vs = omega arith in
    length-elements back vs (new_object true) 0 (omega arith) refl ∙ ap (λ n. Some n) same
