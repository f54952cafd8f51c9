-- The indices of elements, which are kept in ascending order beside the properties.
use Rattle.std.proofs.Common.{◌≡◌, ℕ, zero, suc, ◌+◌, ◌^◌, ◌<◌, ◌≤◌, Bool, true, false, not, List, [], ◌∷◌, ◌++◌, length, refl, sym, ◌∙◌, ap, subst, arith, Bor}
use Rattle.std.specs.Prelude.{◌&&◌, ◌||◌, nat_le, if◌then◌else◌, slice_get, Option, Some, None, is_some, option_to_list, count_by, filter}
use Rattle.std.specs.Option.{option_map_or}
use Rattle.std.specs.declared.cmp.Ordering.{Ordering}
use Rattle.std.specs.declared.cmp.Ordering.TheVariants.{Less, Equal, Greater}
use Rattle.std.specs.Ordering.{is_eq, is_le, match_ordering, nat_cmp}
use Rattle.std.specs.Iterator.{Drains}
use Rattle.std.specs.Map.Iter.{TakesFirst, deref}
use Rattle.std.proofs.lemmas.Iterator.Consumers.{YieldsList-from_shown, count_from_yields_List}
use Rattle.std.specs.BTreeMap.{is_at}
use Rattle.std.specs.BTreeSet.{BTreeSet, insert_key}
use Rattle.std.specs.Map.{lookup, remove_entry}
use Rattle.std.specs.Set.{remove_key}
use Rattle.std.specs.List.{cons_option, list_any, sum_by}
use Rattle.std.proofs.lemmas.Bool.Decides.{nat_tests}
use Rattle.std.proofs.lemmas.List.{append-nil}
use Rattle.std.proofs.lemmas.List.Sums.{length-filter, sum_by-append, sum_by-cons}
use Rattle.indexmap.specs.IndexMap.{insert_entry}
use Rattle.bml_bytes.specs.Numerals.{decimal_digits, decimal_number}
use Rattle.bml_bytes.specs.Words.{is_same}
use Rattle.es_values.specs.declared.values.Value.{Value}
use Rattle.es_values.specs.Heaps.{cut_at, index_of, is_element_from}
use Rattle.es_values.specs.Slots.{is_element_name}
use Rattle.es_values.specs.devices.Indices.{AreKept, indices_of}
use Rattle.es_values.proofs.DecimalLemmas.{few-digits}
use Rattle.es_values.proofs.JoinLemmas.{index_of-digits, index_of-is}
use Rattle.es_values.proofs.LawLemmas.{same-itself}
use Rattle.es_values.proofs.SlotLemmas.{same-name}

-- Tests of numbers

at-same : (k x : ℕ) → is_at (nat_cmp k) x ≡ true → k ≡ x
at-same k x h = grind (arith, nat_tests, h)

at-itself : (k : ℕ) → is_at (nat_cmp k) k ≡ true
at-itself k = grind (arith, nat_tests)

at-equal : (k x : ℕ) → nat_cmp k x ≡ Equal → is_at (nat_cmp k) x ≡ true
at-equal k x h = ap is_eq h

-- the test of a range that begins at a place
abbrev pub is_from : ℕ → ℕ → Bool
is_from place number = is_le (nat_cmp place number) && true

from-le : (place number : ℕ) → is_from place number ≡ nat_le place number
from-le place number = grind (arith, nat_tests)

first-count : (test : ℕ → Bool) (x : ℕ) (xs : List ℕ) → count_by test (x ∷ xs) ≡ (if test x then 1 else 0) + count_by test xs
first-count test x xs = sum_by-cons (λ y. if test y then 1 else 0) x xs

-- nothing passes a test: not the first number, and none behind it
none-first : (test : ℕ → Bool) (x : ℕ) (xs : List ℕ) → count_by test (x ∷ xs) ≡ 0 → (test x ≡ false) × (count_by test xs ≡ 0)
none-first test x xs h = by (test x) refl (sym (first-count test x xs) ∙ h)
  where
    by : (t : Bool) → test x ≡ t → (if t then 1 else 0) + count_by test xs ≡ 0 → (test x ≡ false) × (count_by test xs ≡ 0)
    by true e k = let no : 1 + count_by test xs ≡ 0 = k in absurd (omega (arith, no))
    by false e k = let none : 0 + count_by test xs ≡ 0 = k in (e, omega (arith, none))

-- Keys of a set

keys-added : (k : ℕ) (keys : List ℕ) → count_by (is_at (nat_cmp k)) keys ≡ 0 → (weight : ℕ → ℕ) → sum_by weight (insert_key nat_cmp keys k) ≡ weight k + sum_by weight keys
keys-added k [] h weight = sum_by-cons weight k []
keys-added k (x ∷ xs) h weight =
    let parts = none-first (is_at (nat_cmp k)) x xs h in
    by (nat_cmp k x) refl parts.0 (keys-added k xs parts.1 weight)
  where
    by : (o : Ordering) → nat_cmp k x ≡ o → is_at (nat_cmp k) x ≡ false → sum_by weight (insert_key nat_cmp xs k) ≡ weight k + sum_by weight xs → sum_by weight (match_ordering o (k ∷ x ∷ xs) (x ∷ xs) (x ∷ insert_key nat_cmp xs k)) ≡ weight k + sum_by weight (x ∷ xs)
    by Less e apart more = sum_by-cons weight k (x ∷ xs)
    by Equal e apart more = absurd (cc (sym apart ∙ at-equal k x e))
    by Greater e apart more =
        let left = sum_by-cons weight x (insert_key nat_cmp xs k) in
        let right = sum_by-cons weight x xs in
        omega (arith, left, right, more)

keys-removed : (k : ℕ) (keys : List ℕ) → 0 < count_by (is_at (nat_cmp k)) keys → (weight : ℕ → ℕ) → sum_by weight (remove_key (is_at (nat_cmp k)) keys) + weight k ≡ sum_by weight keys
keys-removed k [] h weight = let no : 0 < 0 = h in absurd (omega arith)
keys-removed k (x ∷ xs) h weight = by (is_at (nat_cmp k) x) refl (subst (λ n. 0 < n) (first-count (is_at (nat_cmp k)) x xs) h) (λ some. keys-removed k xs some weight)
  where
    by : (t : Bool) → is_at (nat_cmp k) x ≡ t → 0 < (if t then 1 else 0) + count_by (is_at (nat_cmp k)) xs → (0 < count_by (is_at (nat_cmp k)) xs → sum_by weight (remove_key (is_at (nat_cmp k)) xs) + weight k ≡ sum_by weight xs) → sum_by weight (if t then xs else x ∷ remove_key (is_at (nat_cmp k)) xs) + weight k ≡ sum_by weight (x ∷ xs)
    by true e some more =
        let first = sum_by-cons weight x xs in
        let same : weight k ≡ weight x = ap weight (at-same k x e) in
        omega (arith, first, same)
    by false e some more =
        let there : 0 < 0 + count_by (is_at (nat_cmp k)) xs = some in
        let left = sum_by-cons weight x (remove_key (is_at (nat_cmp k)) xs) in
        let right = sum_by-cons weight x xs in
        let rest = more (omega (arith, there)) in
        omega (arith, left, right, rest)

-- What is kept of indices

pub kept-added : (kept : Option (BTreeSet ℕ)) (old new : BTreeSet ℕ) (index : ℕ) → kept ≡ Some old → new.keys ≡ insert_key nat_cmp old.keys index → (indices : List ℕ) → AreKept kept indices → count_by (is_at (nat_cmp index)) indices ≡ 0 → AreKept (Some new) (indices ++ index ∷ [])
kept-added kept old new index is step indices are none set same weight =
    let here = are old is in
    let absent : count_by (is_at (nat_cmp index)) old.keys ≡ 0 = here (λ o. if is_at (nat_cmp index) o then 1 else 0) ∙ none in
    let e : new ≡ set = cc same in
    let one = keys-added index old.keys absent weight in
    let last = sum_by-append weight indices (index ∷ []) in
    let only = sum_by-cons weight index [] in
    let more : sum_by weight set.keys ≡ sum_by weight (insert_key nat_cmp old.keys index) = ap (λ (s : BTreeSet ℕ). sum_by weight s.keys) (sym e) ∙ ap (sum_by weight) step in
    let before = here weight in
    omega (arith, one, last, only, more, before)

-- 1 for this number, and 0 for every other
abbrev one_at : ℕ → ℕ → ℕ
one_at index number = if is_at (nat_cmp index) number then 1 else 0

pub kept-without : (kept : Option (BTreeSet ℕ)) (old new : BTreeSet ℕ) (index : ℕ) → kept ≡ Some old → new.keys ≡ remove_key (is_at (nat_cmp index)) old.keys → (before after : List ℕ) → AreKept kept before → ((weight : ℕ → ℕ) → sum_by weight before ≡ sum_by weight after + weight index) → AreKept (Some new) after
kept-without kept old new index is step before after are fewer set same weight =
    let here = are old is in
    let own : one_at index index ≡ 1 = ap (λ (b : Bool). if b then 1 else 0) (at-itself index) in
    let count : sum_by (one_at index) old.keys ≡ sum_by (one_at index) after + 1 = here (one_at index) ∙ (fewer (one_at index) ∙ ap (λ n. sum_by (one_at index) after + n) own) in
    let there : 0 < count_by (is_at (nat_cmp index)) old.keys = omega (arith, count) in
    let e : new ≡ set = cc same in
    let less = keys-removed index old.keys there weight in
    let more : sum_by weight set.keys ≡ sum_by weight (remove_key (is_at (nat_cmp index)) old.keys) = ap (λ (s : BTreeSet ℕ). sum_by weight s.keys) (sym e) ∙ ap (sum_by weight) step in
    let all = here weight in
    let rest = fewer weight in
    omega (arith, less, more, all, rest)

pub kept-none : (indices : List ℕ) → AreKept None indices
kept-none indices set same = absurd (cc same)

-- the last of the numbers that are kept passes no test that none passes
none-at : (test : ℕ → Bool) (keys : List ℕ) (i k : ℕ) → slice_get keys i ≡ Some k → count_by test keys ≡ 0 → test k ≡ false
none-at test [] i k h none = absurd (cc h)
none-at test (x ∷ xs) zero k h none = let e : x ≡ k = cc h in ap test (sym e) ∙ (none-first test x xs none).0
none-at test (x ∷ xs) (suc i) k h none = none-at test xs i k h (none-first test x xs none).1

pub kept-greatest : (kept : Option (BTreeSet ℕ)) (set : BTreeSet ℕ) (i index : ℕ) → kept ≡ Some set → slice_get set.keys i ≡ Some index → (indices : List ℕ) → AreKept kept indices → (test : ℕ → Bool) → count_by test indices ≡ 0 → test index ≡ false
kept-greatest kept set i index is at indices are test none = none-at test set.keys i index at (are set is (λ o. if test o then 1 else 0) ∙ none)

-- the items that an iterator over a set counts are those that it has left
pub drained : (rest : List ℕ) (n : ℕ) → ((xs : List (Bor ℕ)) × Drains (TakesFirst deref) rest xs × (n ≡ length xs)) → n ≡ length rest
drained rest n ran = count_from_yields_List rest n ran (YieldsList-from_shown (TakesFirst deref) (λ (x : Bor ℕ). x.now) (λ (l : List ℕ). l) (λ l t k. ap length k.0) (λ l x t k. k) rest)

-- Indices of properties

sum-cons_option : (weight : ℕ → ℕ) (o : Option ℕ) (xs : List ℕ) → sum_by weight (cons_option o xs) ≡ sum_by weight (option_to_list o) + sum_by weight xs
sum-cons_option weight None xs = omega arith
sum-cons_option weight (Some x) xs = sum_by-append weight (x ∷ []) xs

cons_option-append : (o : Option ℕ) (xs ys : List ℕ) → cons_option o (xs ++ ys) ≡ cons_option o xs ++ ys
cons_option-append None xs ys = refl
cons_option-append (Some x) xs ys = refl

cons_option-last : (o : Option ℕ) → cons_option o [] ≡ option_to_list o
cons_option-last None = refl
cons_option-last (Some x) = refl

pub indices-inserted : (ps : List (List ℕ × Value)) (name : List ℕ) (v : Value) → indices_of (insert_entry is_same ps name v) ≡ indices_of ps ++ option_to_list (if is_some (lookup (is_same name) ps) then None else index_of name)
indices-inserted [] name v = cons_option-last (index_of name)
indices-inserted (p ∷ ps) name v = by (is_same name p.0) (indices-inserted ps name v)
  where
    by : (t : Bool) → indices_of (insert_entry is_same ps name v) ≡ indices_of ps ++ option_to_list (if is_some (lookup (is_same name) ps) then None else index_of name) → indices_of (if t then (p.0, v) ∷ ps else p ∷ insert_entry is_same ps name v) ≡ cons_option (index_of p.0) (indices_of ps) ++ option_to_list (if is_some (if t then Some p.1 else lookup (is_same name) ps) then None else index_of name)
    by true more = sym (append-nil (cons_option (index_of p.0) (indices_of ps)))
    by false more =
        ap (cons_option (index_of p.0)) more
        ∙ cons_option-append (index_of p.0) (indices_of ps) (option_to_list (if is_some (lookup (is_same name) ps) then None else index_of name))

-- a value in the place of another, and a property behind the last one
pub kept-replaced : (kept : Option (BTreeSet ℕ)) (ps next : List (List ℕ × Value)) (name : List ℕ) (v : Value) → next ≡ insert_entry is_same ps name v → is_some (lookup (is_same name) ps) ≡ true → AreKept kept (indices_of ps) → AreKept kept (indices_of next)
kept-replaced kept ps next name v step there are =
    let same : indices_of next ≡ indices_of ps =
    ap indices_of step
    ∙ (indices-inserted ps name v
    ∙ (ap (λ b. indices_of ps ++ option_to_list (if b then None else index_of name)) there ∙ append-nil (indices_of ps))) in
    subst (AreKept kept) (sym same) are

pub kept-behind : (kept : Option (BTreeSet ℕ)) (ps next : List (List ℕ × Value)) (name : List ℕ) (v : Value) → next ≡ insert_entry is_same ps name v → lookup (is_same name) ps ≡ None → AreKept kept (indices_of ps ++ option_to_list (index_of name)) → AreKept kept (indices_of next)
kept-behind kept ps next name v step absent are =
    let same : indices_of next ≡ indices_of ps ++ option_to_list (index_of name) =
    ap indices_of step
    ∙ (indices-inserted ps name v
    ∙ ap (λ (o : Option Value). indices_of ps ++ option_to_list (if is_some o then None else index_of name)) absent) in
    subst (AreKept kept) (sym same) are

-- the index of a name that has no property is none of the properties'
absent-first : {X : Type 0} (t : Bool) (x : X) (o : Option X) → (if t then Some x else o) ≡ None → (t ≡ false) × (o ≡ None)
absent-first true x o h = absurd (cc h)
absent-first false x o h = (refl, h)

pub index-absent : (ps : List (List ℕ × Value)) (name : List ℕ) (index : ℕ) → index_of name ≡ Some index → lookup (is_same name) ps ≡ None → count_by (is_at (nat_cmp index)) (indices_of ps) ≡ 0
index-absent [] name index at h = refl
index-absent (p ∷ ps) name index at h =
    let parts = absent-first (is_same name p.0) p.1 (lookup (is_same name) ps) h in
    by (index_of p.0) refl (index-absent ps name index at parts.1) parts.0
  where
    by : (o : Option ℕ) → index_of p.0 ≡ o → count_by (is_at (nat_cmp index)) (indices_of ps) ≡ 0 → is_same name p.0 ≡ false → count_by (is_at (nat_cmp index)) (cons_option o (indices_of ps)) ≡ 0
    by None e rest apart = rest
    by (Some i) e rest apart = within (is_at (nat_cmp index) i) refl
      where
        within : (t : Bool) → is_at (nat_cmp index) i ≡ t → count_by (is_at (nat_cmp index)) (i ∷ indices_of ps) ≡ 0
        within true k =
            let same : name ≡ p.0 = (index_of-is name index at).0 ∙ (ap decimal_digits (at-same index i k) ∙ sym (index_of-is p.0 i e).0) in
            let no : is_same name p.0 ≡ true = ap (is_same name) (sym same) ∙ same-itself name in
            absurd (cc (sym apart ∙ no))
        within false k = first-count (is_at (nat_cmp index)) i (indices_of ps) ∙ (ap (λ b. (if b then 1 else 0) + count_by (is_at (nat_cmp index)) (indices_of ps)) k ∙ ap (λ n. 0 + n) rest)

pub indices-removed : (ps : List (List ℕ × Value)) (name : List ℕ) → is_some (lookup (is_same name) ps) ≡ true → (weight : ℕ → ℕ) → sum_by weight (indices_of ps) ≡ sum_by weight (indices_of (remove_entry (is_same name) ps)) + sum_by weight (option_to_list (index_of name))
indices-removed [] name there weight = absurd (cc there)
indices-removed (p ∷ ps) name there weight = by (is_same name p.0) refl there (λ h. indices-removed ps name h weight)
  where
    by : (t : Bool) → is_same name p.0 ≡ t → is_some (if t then Some p.1 else lookup (is_same name) ps) ≡ true → (is_some (lookup (is_same name) ps) ≡ true → sum_by weight (indices_of ps) ≡ sum_by weight (indices_of (remove_entry (is_same name) ps)) + sum_by weight (option_to_list (index_of name))) → sum_by weight (cons_option (index_of p.0) (indices_of ps)) ≡ sum_by weight (indices_of (if t then ps else p ∷ remove_entry (is_same name) ps)) + sum_by weight (option_to_list (index_of name))
    by true e h more =
        let first = sum-cons_option weight (index_of p.0) (indices_of ps) in
        let same = ap (λ (n : List ℕ). sum_by weight (option_to_list (index_of n))) (same-name name p.0 e) in
        omega (arith, first, same)
    by false e h more =
        let first = sum-cons_option weight (index_of p.0) (indices_of ps) in
        let rest = sum-cons_option weight (index_of p.0) (indices_of (remove_entry (is_same name) ps)) in
        let fewer = more h in
        omega (arith, first, rest, fewer)

-- the properties without one of a name that is an element's, and of one that isn't
pub without-element : (ps : List (List ℕ × Value)) (name : List ℕ) (index : ℕ) → index_of name ≡ Some index → is_some (lookup (is_same name) ps) ≡ true → (weight : ℕ → ℕ) → sum_by weight (indices_of ps) ≡ sum_by weight (indices_of (remove_entry (is_same name) ps)) + weight index
without-element ps name index at there weight =
    indices-removed ps name there weight
    ∙ (ap (λ (o : Option ℕ). sum_by weight (indices_of (remove_entry (is_same name) ps)) + sum_by weight (option_to_list o)) at
    ∙ ap (λ n. sum_by weight (indices_of (remove_entry (is_same name) ps)) + n) (sum_by-cons weight index [] ∙ added (weight index)))
  where
    added : (n : ℕ) → n + 0 ≡ n
    added n = omega arith

pub without-other : (kept : Option (BTreeSet ℕ)) (ps : List (List ℕ × Value)) (name : List ℕ) → index_of name ≡ None → is_some (lookup (is_same name) ps) ≡ true → AreKept kept (indices_of ps) → AreKept kept (indices_of (remove_entry (is_same name) ps))
without-other kept ps name at there are set is weight =
    let all = are set is weight in
    let parts = indices-removed ps name there weight in
    let none : sum_by weight (option_to_list (index_of name)) ≡ 0 = ap (λ (o : Option ℕ). sum_by weight (option_to_list o)) at in
    omega (arith, all, parts, none)

-- an index that isn't kept is no element's
any-none : (test : ℕ → Bool) (xs : List ℕ) → list_any test xs ≡ false → count_by test xs ≡ 0
any-none test [] h = refl
any-none test (x ∷ xs) h = by (test x) refl h (any-none test xs)
  where
    by : (t : Bool) → test x ≡ t → (t || list_any test xs) ≡ false → (list_any test xs ≡ false → count_by test xs ≡ 0) → count_by test (x ∷ xs) ≡ 0
    by true e k more = absurd (cc k)
    by false e k more = first-count test x xs ∙ (ap (λ b. (if b then 1 else 0) + count_by test xs) e ∙ ap (λ n. 0 + n) (more k))

pub not-true : (t : Bool) → not t ≡ true → t ≡ false
not-true true h = absurd (cc h)
not-true false h = refl

pub kept-absent : ((n : ℕ) → decimal_number (decimal_digits n) ≡ n) → (kept : Option (BTreeSet ℕ)) (set : BTreeSet ℕ) (place : ℕ) (ps : List (List ℕ × Value)) → kept ≡ Some set → list_any (is_at (nat_cmp place)) set.keys ≡ false → AreKept kept (indices_of ps) → place < 2147483647 → lookup (is_same (decimal_digits place)) ps ≡ None
kept-absent back kept set place ps is none are small = by (lookup (is_same (decimal_digits place)) ps) refl
  where
    here : sum_by (one_at place) (indices_of ps) ≡ 0
    here = sym (are set is (one_at place)) ∙ any-none (is_at (nat_cmp place)) set.keys none

    by : (o : Option Value) → lookup (is_same (decimal_digits place)) ps ≡ o → lookup (is_same (decimal_digits place)) ps ≡ None
    by None e = e
    by (Some v) e =
        let own : one_at place place ≡ 1 = ap (λ (b : Bool). if b then 1 else 0) (at-itself place) in
        let parts = without-element ps (decimal_digits place) place (index_of-digits back place small) (ap is_some e) (one_at place) in
        absurd (omega (arith, here, own, parts))

-- as many elements stand from a place on as there are indices from it on
pub count-indices : (place : ℕ) (ps : List (List ℕ × Value)) → count_by (is_from place) (indices_of ps) ≡ count_by (is_element_from place) ps
count-indices place [] = refl
count-indices place (p ∷ ps) =
    let first = sum_by-cons (λ q. if is_element_from place q then 1 else 0) p ps in
    let rest = count-indices place ps in
    omega (arith, first, rest, by (index_of p.0))
  where
    by : (o : Option ℕ) → count_by (is_from place) (cons_option o (indices_of ps)) ≡ (if option_map_or (nat_le place) o false then 1 else 0) + count_by (is_from place) (indices_of ps)
    by None = omega arith
    by (Some index) = first-count (is_from place) index (indices_of ps) ∙ ap (λ b. (if b then 1 else 0) + count_by (is_from place) (indices_of ps)) (from-le place index)

pub kept-count : (kept : Option (BTreeSet ℕ)) (set : BTreeSet ℕ) (place : ℕ) (part : List ℕ) → kept ≡ Some set → part ≡ filter (is_from place) set.keys → (indices : List ℕ) → AreKept kept indices → length part ≡ count_by (is_from place) indices
kept-count kept set place part is range indices are =
    ap length range ∙ (length-filter (is_from place) set.keys ∙ are set is (λ o. if is_from place o then 1 else 0))

-- no property has an index past the greatest
pub indices-small : (ps : List (List ℕ × Value)) → count_by (is_from 2147483647) (indices_of ps) ≡ 0
indices-small [] = refl
indices-small (p ∷ ps) = by (index_of p.0) refl (indices-small ps)
  where
    by : (o : Option ℕ) → index_of p.0 ≡ o → count_by (is_from 2147483647) (indices_of ps) ≡ 0 → count_by (is_from 2147483647) (cons_option o (indices_of ps)) ≡ 0
    by None e more = more
    by (Some index) e more =
        let small : index < 2147483647 = (index_of-is p.0 index e).1 in
        let below : is_from 2147483647 index ≡ false = from-le 2147483647 index ∙ grind (arith, nat_tests, small) in
        first-count (is_from 2147483647) index (indices_of ps) ∙ (ap (λ b. (if b then 1 else 0) + count_by (is_from 2147483647) (indices_of ps)) below ∙ ap (λ n. 0 + n) more)

-- the name of an index that is kept, and isn't below a place, is an element's there or behind
pub kept-name : ((n : ℕ) → decimal_number (decimal_digits n) ≡ n) → (index place : ℕ) (name : List ℕ) → is_from 2147483647 index ≡ false → place ≤ index → name ≡ decimal_digits index → is_element_name place name ≡ true
kept-name back index place name below from is =
    let small : index < 2147483647 = let e = sym (from-le 2147483647 index) ∙ below in grind (arith, nat_tests, e) in
    let tested : nat_le place index ≡ true = grind (arith, nat_tests, from) in
    ap (is_element_name place) is ∙ (ap (λ (o : Option ℕ). option_map_or (nat_le place) o false) (index_of-digits back index small) ∙ tested)

-- Elements that go

pub cut-removed : (place : ℕ) (name : List ℕ) (ps : List (List ℕ × Value)) → is_element_name place name ≡ true → cut_at place (remove_entry (is_same name) ps) ≡ cut_at place ps
cut-removed place name [] h = refl
cut-removed place name (p ∷ ps) h = by (is_same name p.0) refl (cut-removed place name ps h)
  where
    kept : (t : Bool) (ls ms : List (List ℕ × Value)) → ls ≡ ms → (if t then p ∷ ls else ls) ≡ (if t then p ∷ ms else ms)
    kept true ls ms e = ap (λ l. p ∷ l) e
    kept false ls ms e = e

    by : (t : Bool) → is_same name p.0 ≡ t → cut_at place (remove_entry (is_same name) ps) ≡ cut_at place ps → cut_at place (if t then ps else p ∷ remove_entry (is_same name) ps) ≡ cut_at place (p ∷ ps)
    by true e more =
        let goes : is_element_from place p ≡ true = ap (is_element_name place) (sym (same-name name p.0 e)) ∙ h in
        sym (ap (λ b. if not b then p ∷ cut_at place ps else cut_at place ps) goes)
    by false e more = kept (not (is_element_from place p)) (cut_at place (remove_entry (is_same name) ps)) (cut_at place ps) more

pub cut-none : (place : ℕ) (ps : List (List ℕ × Value)) → count_by (is_element_from place) ps ≡ 0 → cut_at place ps ≡ ps
cut-none place [] h = refl
cut-none place (p ∷ ps) h = by (is_element_from place p) (sym (sum_by-cons (λ q. if is_element_from place q then 1 else 0) p ps) ∙ h) (cut-none place ps)
  where
    by : (t : Bool) → (if t then 1 else 0) + count_by (is_element_from place) ps ≡ 0 → (count_by (is_element_from place) ps ≡ 0 → cut_at place ps ≡ ps) → (if not t then p ∷ cut_at place ps else cut_at place ps) ≡ p ∷ ps
    by true e more = let no : 1 + count_by (is_element_from place) ps ≡ 0 = e in absurd (omega (arith, no))
    by false e more = let none : 0 + count_by (is_element_from place) ps ≡ 0 = e in ap (λ l. p ∷ l) (more (omega (arith, none)))

-- Long names

-- a name of more than ten codes is no index
pub long-no_index : (name : List ℕ) → 10 < length name → None ≡ index_of name
long-no_index name h = by (index_of name) refl
  where
    by : (o : Option ℕ) → index_of name ≡ o → None ≡ o
    by None e = refl
    by (Some i) e =
        let is = index_of-is name i e in
        let below : i < 10 ^ 10 = omega (arith, is.1) in
        let few = few-digits 9 i below in
        absurd (omega (arith, h, few, ap length is.0))
