-- What is among the entries of a cache.
use Rattle.std.proofs.Common.{◌≡◌, ℕ, zero, suc, ◌<◌, ◌≤◌, Bool, true, false, cond, not, ◌⊎◌, inl, inr, List, [], ◌∷◌, ◌++◌, filter, take, length, Contains, Option, Some, None, refl, sym, ◌∙◌, ap, subst, arith}
use Rattle.std.specs.Prelude.{slice_get}
use Rattle.std.proofs.lemmas.List.{length-take}
use Rattle.std.proofs.lemmas.List.Elements.{Contains-append_cases}
use Rattle.lru.proofs.CallerLemmas.{Contains-take}
use Rattle.document_cache.specs.Caching.{Entry, is_same_key, entries_of, others_of, cached_under, brought_to_front, kept_in_front, most_documents}
use Rattle.document_cache.specs.devices.KeyLaws.{is_same_key-true, is_same_key-same}
use Rattle.document_cache.specs.declared.keys.CacheKey.{CacheKey}

in-front : {A : Type 0} (x : A) (xs : List A) → Contains (x ∷ xs) x
in-front x xs = (0, omega arith, refl)

behind : {A : Type 0} (x : A) (xs : List A) (y : A) → Contains xs y → Contains (x ∷ xs) y
behind x xs y c = let lt = c.1 in (suc c.0, omega arith, c.2)

either : {A : Type 0} (x : A) (xs : List A) (y : A) → Contains (x ∷ xs) y → (x ≡ y) ⊎ Contains xs y
either x xs y (zero, lt, is) = inl is
either x xs y (suc k, lt, is) = inr (k, omega (arith, lt), is)

-- what passes a test is among the rest
passing : {A : Type 0} (t : A → Bool) (xs : List A) (y : A) → Contains (filter t xs) y → Contains xs y
passing t [] y c = c
passing t (x ∷ xs) y c = by (passing t xs y) (t x) refl
  where
    by : (Contains (filter t xs) y → Contains xs y) → (b : Bool) → t x ≡ b → Contains (x ∷ xs) y
    by more true h = elim (either x (filter t xs) y (rw h at c)) [
      | inl is ↦ subst (Contains (x ∷ xs)) is (in-front x xs)
      | inr d ↦ behind x xs y (more d)
    ]
    by more false h = behind x xs y (more (rw h at c))

-- the first that passes a test passes it, and is among the rest
first-passing : {A : Type 0} (t : A → Bool) (xs : List A) (y : A) → slice_get (filter t xs) 0 ≡ Some y → (t y ≡ true) × Contains xs y
first-passing t [] y h = absurd (cc h)
first-passing t (x ∷ xs) y h = by (first-passing t xs y) (t x) refl
  where
    by : (slice_get (filter t xs) 0 ≡ Some y → (t y ≡ true) × Contains xs y) → (b : Bool) → t x ≡ b → (t y ≡ true) × Contains (x ∷ xs) y
    by more true p =
        let same : x ≡ y = cc (rw p at h) in
        (subst (λ z. t z ≡ true) same p, subst (Contains (x ∷ xs)) same (in-front x xs))
    by more false p = let it = more (rw p at h) in (it.0, behind x xs y it.1)

pub found-kept : (key : CacheKey) (entries : List Entry) (entry : Entry) → cached_under key entries ≡ Some entry → (entry.key ≡ key) × Contains entries entry
found-kept key entries entry h =
    let it = first-passing (λ (e : Entry). is_same_key key e.key) entries entry h in
    (sym (is_same_key-true key entry.key it.0), it.1)

pub use-within : (key : CacheKey) (entries : List Entry) (entry : Entry) → Contains (brought_to_front key entries) entry → Contains entries entry
use-within key entries entry c = elim (Contains-append_cases (entries_of key entries) (others_of key entries) entry c) [
  | inl d ↦ passing (λ (e : Entry). is_same_key key e.key) entries entry d
  | inr d ↦ passing (λ (e : Entry). not (is_same_key key e.key)) entries entry d
]

pub newest-found : (kept : Entry) (entries : List Entry) → cached_under kept.key (kept_in_front kept entries) ≡ Some kept
newest-found kept entries = rw (is_same_key-same kept.key) refl

pub kept-within : (kept : Entry) (entries : List Entry) (entry : Entry) → Contains (kept_in_front kept entries) entry → (kept ≡ entry) ⊎ Contains entries entry
kept-within kept entries entry c =
    elim (either kept (others_of kept.key entries) entry (Contains-take most_documents (kept ∷ others_of kept.key entries) entry c)) [
      | inl is ↦ inl is
      | inr d ↦ inr (passing (λ (e : Entry). not (is_same_key kept.key e.key)) entries entry d)
    ]

pub few-kept : (kept : Entry) (entries : List Entry) → length (kept_in_front kept entries) ≤ most_documents
few-kept kept entries = omega (arith, length-take most_documents (kept ∷ others_of kept.key entries))
