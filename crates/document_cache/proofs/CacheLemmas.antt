-- What a look-up, a use and a new document are to the entries of a cache.
use Rattle.std.proofs.Common.{◌≡◌, ℕ, suc, ◌+◌, ◌-◌, ◌≤◌, Bool, true, false, cond, not, List, [], ◌∷◌, ◌++◌, filter, take, length, Option, Some, None, refl, sym, ◌∙◌, ap, ap₂, subst, arith}
use Rattle.std.specs.Prelude.{map, option_map, slice_get}
use Rattle.std.specs.List.{AllByRecursion, IsDistinct}
use Rattle.std.specs.Map.{keys_of, lookup, lookup_entry, remove_entry}
use Rattle.std.specs.Option.{option_map_or}
use Rattle.std.proofs.lemmas.List.{append-nil, take_all, take-map, length-map}
use Rattle.std.proofs.lemmas.List.Elements.{filter-append}
use Rattle.lru.specs.LruCache.{LruCache, IsValid, promoted, put_entries}
use Rattle.document_cache.specs.Caching.{Entry, is_same_key, entries_of, others_of, cached_under, brought_to_front, kept_in_front, most_documents}
use Rattle.document_cache.specs.devices.KeyLaws.{is_same_key-true, is_same_key-equiv}
use Rattle.document_cache.specs.CacheViews.{entry_under, entry_of}
use Rattle.document_cache.specs.declared.caches.Cached.{Cached}
use Rattle.document_cache.specs.declared.keys.CacheKey.{CacheKey}

-- ---- looking up

-- what is found is the first entry under the key
pub found : (key : CacheKey) (es : List (CacheKey × Cached)) → option_map (entry_under key) (lookup (is_same_key key) es) ≡ cached_under key (map entry_of es)
found key [] = refl
found key (e ∷ es) = by (found key es) (is_same_key key e.0) refl
  where
    by : option_map (entry_under key) (lookup (is_same_key key) es) ≡ cached_under key (map entry_of es) → (b : Bool) → is_same_key key e.0 ≡ b → option_map (entry_under key) (lookup (is_same_key key) (e ∷ es)) ≡ cached_under key (map entry_of (e ∷ es))
    by more true h = rw h (ap (λ k. Some (entry_under k e.1)) (is_same_key-true key e.0 h))
    by more false h = rw h more

passing-twice : (t : Entry → Bool) (es : List Entry) → filter t (filter t es) ≡ filter t es
passing-twice t [] = refl
passing-twice t (e ∷ es) = by (passing-twice t es) (t e) refl
  where
    by : filter t (filter t es) ≡ filter t es → (b : Bool) → t e ≡ b → filter t (filter t (e ∷ es)) ≡ filter t (e ∷ es)
    by more true h = rw h (rw h (ap (λ x. e ∷ x) more))
    by more false h = rw h more

passing-never : (t : Entry → Bool) (es : List Entry) → filter t (filter (λ x. not (t x)) es) ≡ []
passing-never t [] = refl
passing-never t (e ∷ es) = by (passing-never t es) (t e) refl
  where
    by : filter t (filter (λ x. not (t x)) es) ≡ [] → (b : Bool) → t e ≡ b → filter t (filter (λ x. not (t x)) (e ∷ es)) ≡ []
    by more true h = rw h more
    by more false h = rw h (rw h more)

-- a use leaves what is found
pub found-in_front : (key : CacheKey) (entries : List Entry) → cached_under key (brought_to_front key entries) ≡ cached_under key entries
found-in_front key entries =
    let t : Entry → Bool = λ entry. is_same_key key entry.key in
    ap (λ (es : List Entry). slice_get es 0)
    (filter-append t (entries_of key entries) (others_of key entries)
    ∙ (ap₂ (λ (x y : List Entry). x ++ y) (passing-twice t entries) (passing-never t entries) ∙ append-nil (entries_of key entries)))

-- ---- entries under a key, and the others

-- none of them is under the key
pub record HasNone (key : CacheKey) (es : List (CacheKey × Cached)) : Type 0 where
  pub none : entries_of key (map entry_of es) ≡ []
  pub others : others_of key (map entry_of es) ≡ map entry_of es

-- one of them is, and these are left without it
pub record HasOne (key : CacheKey) (es : List (CacheKey × Cached)) (e : CacheKey × Cached) (left : List (CacheKey × Cached)) : Type 0 where
  pub key_is : e.0 ≡ key
  pub one : entries_of key (map entry_of es) ≡ entry_of e ∷ []
  pub others : others_of key (map entry_of es) ≡ map entry_of left
  pub count : length left + 1 ≡ length es

none-of : (key : CacheKey) (es : List (CacheKey × Cached)) → lookup_entry (is_same_key key) es ≡ None → HasNone key es
none-of key [] h = record { none = refl; others = refl }
none-of key (e ∷ es) h = by (λ t. none-of key es (rw t at h)) (is_same_key key e.0) refl
  where
    by : (is_same_key key e.0 ≡ false → HasNone key es) → (b : Bool) → is_same_key key e.0 ≡ b → HasNone key (e ∷ es)
    by more true t = absurd (cc (rw t at h))
    by more false t = record {
      none = rw t (more t).none;
      others = rw t (ap (λ x. entry_of e ∷ x) (more t).others);
    }

-- where none has this key, which all differ from
none-apart : (key : CacheKey) (es : List (CacheKey × Cached)) → AllByRecursion (λ k. is_same_key key k ≡ false) (keys_of es) → lookup_entry (is_same_key key) es ≡ None
none-apart key [] h = refl
none-apart key (e ∷ es) h = rw h.0 (none-apart key es h.1)

first-is : (key : CacheKey) (f : CacheKey × Cached) (es : List (CacheKey × Cached)) (e : CacheKey × Cached) → is_same_key key f.0 ≡ true → AllByRecursion (λ k. is_same_key f.0 k ≡ false) (keys_of es) → f ≡ e → HasOne key (f ∷ es) e (remove_entry (is_same_key key) (f ∷ es))
first-is key f es e t apart same =
    let key_is : key ≡ f.0 = is_same_key-true key f.0 t in
    let rest = none-of key es (none-apart key es (subst (λ k. AllByRecursion (λ other. is_same_key k other ≡ false) (keys_of es)) (sym key_is) apart)) in
    record {
      key_is = sym (ap (λ x. x.0) same) ∙ sym key_is;
      one = rw t (ap₂ (λ x y. entry_of x ∷ y) same rest.none);
      others = rw t rest.others;
      count = rw t (omega arith);
    }

later-is : (key : CacheKey) (f : CacheKey × Cached) (es : List (CacheKey × Cached)) (e : CacheKey × Cached) (left : List (CacheKey × Cached)) → is_same_key key f.0 ≡ false → HasOne key es e (remove_entry (is_same_key key) es) → HasOne key (f ∷ es) e (remove_entry (is_same_key key) (f ∷ es))
later-is key f es e left t more = record {
  key_is = more.key_is;
  one = rw t more.one;
  others = rw t (ap (λ x. entry_of f ∷ x) more.others);
  count = rw t (omega (arith, more.count));
}

one-of : (key : CacheKey) (es : List (CacheKey × Cached)) (e : CacheKey × Cached) → IsDistinct is_same_key (keys_of es) → lookup_entry (is_same_key key) es ≡ Some e → HasOne key es e (remove_entry (is_same_key key) es)
unfolding IsDistinct
one-of key [] e distinct h = absurd (cc h)
one-of key (f ∷ es) e distinct h = by (λ t. one-of key es e distinct.1 (rw t at h)) (is_same_key key f.0) refl
  where
    by : (is_same_key key f.0 ≡ false → HasOne key es e (remove_entry (is_same_key key) es)) → (b : Bool) → is_same_key key f.0 ≡ b → HasOne key (f ∷ es) e (remove_entry (is_same_key key) (f ∷ es))
    by more true t = first-is key f es e t distinct.0 (cc (rw t at h))
    by more false t = later-is key f es e (remove_entry (is_same_key key) es) t (more t)

-- ---- a use, and a new document

pub use-in_front : (key : CacheKey) (es : List (CacheKey × Cached)) → IsDistinct is_same_key (keys_of es) → map entry_of (promoted (is_same_key key) es) ≡ brought_to_front key (map entry_of es)
use-in_front key es distinct = by (lookup_entry (is_same_key key) es) refl
  where
    by : (o : Option (CacheKey × Cached)) → lookup_entry (is_same_key key) es ≡ o → map entry_of (promoted (is_same_key key) es) ≡ brought_to_front key (map entry_of es)
    by None h = let it = none-of key es h in rw h (sym (ap₂ (λ x y. x ++ y) it.none it.others))
    by (Some e) h = let it = one-of key es e distinct h in rw h (sym (ap₂ (λ x y. x ++ y) it.one it.others))

pub kept-in_front : (c : LruCache CacheKey Cached) (key : CacheKey) (cached : Cached) → c.cap ≡ most_documents → IsValid is_same_key c → map entry_of (put_entries is_same_key c key cached) ≡ kept_in_front (entry_of (key, cached)) (map entry_of c.entries)
kept-in_front c key cached room valid = by (lookup_entry (is_same_key key) c.entries) refl
  where
    by : (o : Option (CacheKey × Cached)) → lookup_entry (is_same_key key) c.entries ≡ o → map entry_of (put_entries is_same_key c key cached) ≡ kept_in_front (entry_of (key, cached)) (map entry_of c.entries)
    by None h =
        let it = none-of key c.entries h in
        let seven : c.cap - 1 ≡ 7 = ap (λ n. n - 1) room in
        rw h (ap (λ x. entry_of (key, cached) ∷ x) (ap (λ n. map entry_of (take n c.entries)) seven
        ∙ (sym (take-map entry_of 7 c.entries) ∙ ap (take 7) (sym it.others))))
    by (Some e) h =
        let it = one-of key c.entries e valid.0 h in
        let left = remove_entry (is_same_key key) c.entries in
        let fits : length (map entry_of left) ≤ 7 = rw (length-map left entry_of) (omega (arith, valid.1, room, it.count)) in
        rw h (ap₂ (λ (k : CacheKey) (x : List Entry). entry_of (k, cached) ∷ x) it.key_is
        (sym (take_all 7 (map entry_of left) fits) ∙ ap (take 7) (sym it.others)))
