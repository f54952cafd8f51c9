-- What a page remembers of its loads: what is found for a load, what is kept of one, and which loads are of a document
-- that is remembered.
use Rattle.std.proofs.Common.{◌≡◌, ◌∙◌, ℕ, ◌+◌, ◌-◌, ◌≤◌, ◌^◌, suc, Bool, true, false, cond, eqb, ◌&&◌, ◌||◌, not, List, [], ◌∷◌, ◌++◌, length, filter, take, refl, sym, ap, ap₂, subst, append_assoc, append-nil, arith}
use Rattle.std.specs.Prelude.{zero, All, IfOk, OnErr, OnOk, min, Option, Some, None, Result, Ok, Err, is_some, map, option_and_then, option_map, slice_get}
use Rattle.std.specs.List.{list_all, list_any}
use Rattle.std.proofs.lemmas.List.{length-append, length-map, length-take, take_all, take-map}
use Rattle.std.proofs.lemmas.List.Elements.{All-nil, All-cons, All-head, All-tail, All-filter, All-take, All-append, All-weaker, filter_passes}
use Rattle.std.proofs.lemmas.List.Filters.{length-filter_both}
use Rattle.document_cache.specs.Caching.{Entry, brought_to_front, cached_under, entries_of, is_same_key, kept_in_front, others_of}
use Rattle.document_cache.specs.devices.KeyLaws.{is_same_key-true}
use Rattle.document_cache.specs.declared.caches.Cached.{Cached}
use Rattle.document_cache.specs.declared.keys.CacheKey.{CacheKey}
use Rattle.document_load.specs.Drafts.{DraftState}
use Rattle.document_load.specs.ToldDocuments.{ToldDocument, told_document}
use Rattle.document_load.specs.declared.drafts.Document.{Document}
use Rattle.module_locks.specs.Histories.{Happening, behind_all}
use Rattle.module_locks.specs.Locks.{Modules, look_up}
use Rattle.module_locks.specs.Standing.{ModulesState, StandsFor}
use Rattle.multipart_entities.specs.declared.paths.Path.{Path}
use Rattle.page.specs.Loading.{are_settled, is_settled, loadable_reading}
use Rattle.page.specs.Remembering.{Loaded, are_same_numbers, hits_among, is_hit, is_same_document, is_same_load, is_same_number, is_same_path, most_remembered, number_at, remembered_behind, tells_delivery, with_loaded}
use Rattle.page.specs.Standing.{PageState, Remembers, RemembersStill, memory_of}
use Rattle.page.specs.devices.Gifts.{IsDocumentOf}
use Rattle.page.specs.devices.Memories.{AreApart, FitsModule, HasDocument, HasPlaces, MemoryState, RemembersBehind, RemembersTruly, WasKept, IsUsableUnder, Recalls, UsesAgain, entries_with, entry_for, if_usable, is_as_kept, key_of, loaded_of, may_be_used, memory_with, numbered, one_more, usable_at, usable_under}
use Rattle.page.proofs.ReadingLaws.{AreAsKept, NumbersTell, PathsStay, are_as_kept, both_true, loadable, loads_again, needs_read, number_same, number_there, read_again}

-- ---- the same document

both_ways : (a b : Bool) → (a && b) ≡ (b && a)
both_ways true true = refl
both_ways true false = refl
both_ways false true = refl
both_ways false false = refl

-- the load at a path of a document whose module has that number
abbrev pub load_of : Path → ℕ → List (Option ℕ) → Loaded
load_of path number needs = record { path = path; own = Some number; needs = needs }

-- it is of the same document exactly where the keys are the same
same_key : (path : Path) (number : ℕ) (needs : List (Option ℕ)) (entry : Entry) → is_same_document (load_of path number needs) (loaded_of entry) ≡ is_same_key (key_of path number) entry.key
same_key path number needs entry = both_ways (is_same_path path entry.key.path) (eqb number entry.key.own)

others_same : (path : Path) (number : ℕ) (needs : List (Option ℕ)) (entries : List Entry)
    → filter (λ other. not (is_same_document (load_of path number needs) other)) (map loaded_of entries) ≡ map loaded_of (others_of (key_of path number) entries)
others_same path number needs [] = refl
others_same path number needs (entry ∷ entries) =
    ap (λ (b : Bool). cond (not b) (loaded_of entry ∷ filter (λ other. not (is_same_document (load_of path number needs) other)) (map loaded_of entries)) (filter (λ other. not (is_same_document (load_of path number needs) other)) (map loaded_of entries)))
    (same_key path number needs entry)
    ∙ by (is_same_key (key_of path number) entry.key) (others_same path number needs entries)
  where
    by : (b : Bool) → {rest : List Loaded} → rest ≡ map loaded_of (others_of (key_of path number) entries)
        → cond (not b) (loaded_of entry ∷ rest) rest ≡ map loaded_of (cond (not b) (entry ∷ others_of (key_of path number) entries) (others_of (key_of path number) entries))
    by true e = e
    by false e = ap (λ (l : List Loaded). loaded_of entry ∷ l) e

-- ---- entries under a key

either_false : (a b : Bool) → (a || b) ≡ false → (a ≡ false) × (b ≡ false)
either_false true b e = absurd (cc e)
either_false false b e = (refl, e)

-- what is found under a key
pub record HasEntry (key : CacheKey) (entries : List Entry) (entry : Entry) : Type 0 where
  pub key_is : entry.key ≡ key
  pub one : entries_of key entries ≡ entry ∷ []

none_under : (key : CacheKey) (entries : List Entry) → list_any (λ other. is_same_key key other.key) entries ≡ false → entries_of key entries ≡ []
none_under key [] e = refl
none_under key (entry ∷ entries) e =
    let both = either_false (is_same_key key entry.key) (list_any (λ other. is_same_key key other.key) entries) e in
    ap (λ (b : Bool). cond b (entry ∷ entries_of key entries) (entries_of key entries)) both.0 ∙ none_under key entries both.1

pub entry_found : (key : CacheKey) (entries : List Entry) (entry : Entry) → AreApart entries → cached_under key entries ≡ Some entry → HasEntry key entries entry
entry_found key [] entry apart e = absurd (cc e)
entry_found key (first ∷ entries) entry apart e = by (entry_found key entries entry apart.1) (is_same_key key first.key) refl
  where
    by : (cached_under key entries ≡ Some entry → HasEntry key entries entry) → (b : Bool) → is_same_key key first.key ≡ b → HasEntry key (first ∷ entries) entry
    by more true same =
        let whole = ap (λ (b : Bool). cond b (first ∷ entries_of key entries) (entries_of key entries)) same in
        let found : first ≡ entry = cc (sym (ap (λ (l : List Entry). slice_get l 0) whole) ∙ e) in
        let key_is = is_same_key-true key first.key same in
        let none = none_under key entries (subst (λ (k : CacheKey). list_any (λ other. is_same_key k other.key) entries ≡ false) (sym key_is) apart.0) in
        record {
          key_is = sym (key_is ∙ ap (λ (x : Entry). x.key) found);
          one = whole ∙ ap₂ (λ (x : Entry) (l : List Entry). x ∷ l) found none;
        }
    by more false other =
        let whole = ap (λ (b : Bool). cond b (first ∷ entries_of key entries) (entries_of key entries)) other in
        let later = more (sym (ap (λ (l : List Entry). slice_get l 0) whole) ∙ e) in
        record { key_is = later.key_is; one = whole ∙ later.one }

-- what is found is one of them
all_found : (P : Entry → Type 0) (key : CacheKey) (entries : List Entry) (entry : Entry) → entries_of key entries ≡ entry ∷ [] → All P entries → P entry
all_found P key entries entry one all = All-head P entry [] (subst (All P) one (All-filter (λ other. is_same_key key other.key) P entries all))

-- ---- they stay apart

fewer_any : (test keeps : Entry → Bool) (entries : List Entry) → list_any test entries ≡ false → list_any test (filter keeps entries) ≡ false
fewer_any test keeps [] e = refl
fewer_any test keeps (entry ∷ entries) e =
    let both = either_false (test entry) (list_any test entries) e in
    by (keeps entry) both.0 (fewer_any test keeps entries both.1)
  where
    by : (b : Bool) → test entry ≡ false → list_any test (filter keeps entries) ≡ false → list_any test (cond b (entry ∷ filter keeps entries) (filter keeps entries)) ≡ false
    by true first rest = ap₂ (λ (a b : Bool). a || b) first rest
    by false first rest = rest

any_taken : (test : Entry → Bool) (count : ℕ) (entries : List Entry) → list_any test entries ≡ false → list_any test (take count entries) ≡ false
any_taken test zero entries e = refl
any_taken test (suc count) [] e = refl
any_taken test (suc count) (entry ∷ entries) e =
    let both = either_false (test entry) (list_any test entries) e in
    ap₂ (λ (a b : Bool). a || b) both.0 (any_taken test count entries both.1)

apart_fewer : (keeps : Entry → Bool) (entries : List Entry) → AreApart entries → AreApart (filter keeps entries)
apart_fewer keeps [] apart = tt
apart_fewer keeps (entry ∷ entries) apart = by (keeps entry) (fewer_any (λ other. is_same_key entry.key other.key) keeps entries apart.0) (apart_fewer keeps entries apart.1)
  where
    by : (b : Bool) → list_any (λ other. is_same_key entry.key other.key) (filter keeps entries) ≡ false → AreApart (filter keeps entries) → AreApart (cond b (entry ∷ filter keeps entries) (filter keeps entries))
    by true first rest = (first, rest)
    by false first rest = rest

apart_taken : (count : ℕ) (entries : List Entry) → AreApart entries → AreApart (take count entries)
apart_taken zero entries apart = tt
apart_taken (suc count) [] apart = tt
apart_taken (suc count) (entry ∷ entries) apart = (any_taken (λ other. is_same_key entry.key other.key) count entries apart.0, apart_taken count entries apart.1)

none_left : (key : CacheKey) (entries : List Entry) → list_any (λ other. is_same_key key other.key) (others_of key entries) ≡ false
none_left key [] = refl
none_left key (entry ∷ entries) = by (is_same_key key entry.key) refl (none_left key entries)
  where
    by : (b : Bool) → is_same_key key entry.key ≡ b → list_any (λ other. is_same_key key other.key) (others_of key entries) ≡ false
        → list_any (λ other. is_same_key key other.key) (cond (not b) (entry ∷ others_of key entries) (others_of key entries)) ≡ false
    by true e rest = rest
    by false e rest = ap₂ (λ (a b : Bool). a || b) e rest

apart_in_front : (entry : Entry) (entries : List Entry) → AreApart entries → AreApart (entry ∷ others_of entry.key entries)
apart_in_front entry entries apart = (none_left entry.key entries, apart_fewer (λ other. not (is_same_key entry.key other.key)) entries apart)

-- ---- which loads are hits

-- a need is as it was kept exactly where its number is the same and tells its delivery
tests_agree : (same was is settled rest tells others : Bool) → settled ≡ true → (same ≡ true → is ≡ was) → rest ≡ (tells && others) → (((same && was) && settled) && rest) ≡ ((is && tells) && (same && others))
tests_agree true true is true rest tells others s e r = r ∙ ap (λ (b : Bool). (b && tells) && others) (sym (e refl))
tests_agree true false is true rest tells others s e r = ap (λ (b : Bool). (b && tells) && others) (sym (e refl))
tests_agree false was true true rest true others s e r = refl
tests_agree false was true true rest false others s e r = refl
tests_agree false was false true rest tells others s e r = refl
tests_agree same was is false rest tells others s e r = absurd (cc s)

needs_agree : (was is : Modules) (needs : List Path) → are_settled is needs ≡ true
    → list_all (is_as_kept is) (map (numbered was) needs) ≡ (list_all tells_delivery (map (number_at is) needs) && are_same_numbers (map (number_at is) needs) (map (λ need. need.1) (map (numbered was) needs)))
needs_agree was is [] settled = refl
needs_agree was is (need ∷ needs) settled =
    let both = both_true (is_settled (look_up is need)) (are_settled is needs) settled in
    tests_agree (is_same_number (number_at is need) (number_at was need)) (tells_delivery (number_at was need)) (tells_delivery (number_at is need)) (is_settled (look_up is need)) (list_all (is_as_kept is) (map (numbered was) needs))
    (list_all tells_delivery (map (number_at is) needs)) (are_same_numbers (map (number_at is) needs) (map (λ need. need.1) (map (numbered was) needs))) both.0
    (λ e. ap tells_delivery (number_is (number_at is need) (number_at was need) e)) (needs_agree was is needs both.1)
  where
    number_is : (a b : Option ℕ) → is_same_number a b ≡ true → a ≡ b
    number_is a b e = number_same a b e

never_both : (b : Bool) → (b && false) ≡ false
never_both true = refl
never_both false = refl

regrouped : (a b c : Bool) → (a && (b && c)) ≡ ((a && b) && c)
regrouped true b c = refl
regrouped false b c = refl

-- nothing that a document needs which can be loaded is waited for
draft_settled : (modules : Modules) (path : Path) (draft : DraftState) → loadable_reading modules path ≡ Some (Ok draft) → are_settled modules draft.needs ≡ true
draft_settled modules path draft e =
    let is = loadable modules path draft e in
    subst (λ (needs : List Path). are_settled modules needs ≡ true) (sym (needs_read modules path draft is)) is.settled

-- an entry of the document may be used exactly where it has the same numbers, which tell their deliveries
entry_agrees : PathsStay → (happened : List Happening) (path : Path) (number : ℕ) (draft : DraftState) (entry : Entry) → FitsModule path → number_at (behind_all happened) path ≡ Some number → loadable_reading (behind_all happened) path ≡ Some (Ok draft)
    → WasKept happened entry → entry.key ≡ key_of path number
    → ((tells_delivery (Some number) && list_all tells_delivery (map (number_at (behind_all happened)) draft.needs)) && are_same_numbers (map (number_at (behind_all happened)) draft.needs) (map (λ need. need.1) entry.needs)) ≡ may_be_used (behind_all happened) entry
entry_agrees paths happened path number draft entry fits number_is reading_is kept key_is =
    by (tells_delivery (Some number)) refl ∙ ap (λ (key : CacheKey). tells_delivery (Some key.own) && list_all (is_as_kept is) entry.needs) (sym key_is)
  where
    is : Modules
    is = behind_all happened

    was : Modules
    was = behind_all kept.before

    numbers : List (Option ℕ)
    numbers = map (number_at is) draft.needs

    by : (b : Bool) → tells_delivery (Some number) ≡ b → ((b && list_all tells_delivery numbers) && are_same_numbers numbers (map (λ need. need.1) entry.needs)) ≡ (b && list_all (is_as_kept is) entry.needs)
    by false tells = refl
    by true tells =
        let own_was : number_at was path ≡ Some number = subst (λ (key : CacheKey). number_at was key.path ≡ Some key.own) key_is kept.own_is in
        let reading_was : loadable_reading was path ≡ Some (Ok kept.draft) = subst (λ (key : CacheKey). loadable_reading was key.path ≡ Some (Ok kept.draft)) key_is kept.reading_is in
        let number_now = subst (λ (h : List Happening). number_at (behind_all h) path ≡ Some number) kept.happened_is number_is in
        let reading_now = subst (λ (h : List Happening). loadable_reading (behind_all h) path ≡ Some (Ok draft)) kept.happened_is reading_is in
        let needs = read_again paths kept.before kept.since path number kept.draft draft fits own_was number_now tells reading_was reading_now in
        let own : entry.needs ≡ map (numbered was) draft.needs = kept.needs_are ∙ ap (map (numbered was)) (sym needs) in
        ap (λ (l : List (Path × Option ℕ)). list_all tells_delivery numbers && are_same_numbers numbers (map (λ need. need.1) l)) own
        ∙ sym (needs_agree was is draft.needs (draft_settled is path draft reading_is))
        ∙ ap (list_all (is_as_kept is)) (sym own)

-- no load of another document is the same
none_loads : (path : Path) (number : ℕ) (needs : List (Option ℕ)) (entries : List Entry) → list_any (λ other. is_same_key (key_of path number) other.key) entries ≡ false
    → list_any (is_same_load (load_of path number needs)) (map loaded_of entries) ≡ false
none_loads path number needs [] e = refl
none_loads path number needs (entry ∷ entries) e =
    let both = either_false (is_same_key (key_of path number) entry.key) (list_any (λ other. is_same_key (key_of path number) other.key) entries) e in
    ap₂ (λ (a b : Bool). (a && are_same_numbers needs (map (λ need. need.1) entry.needs)) || b) (same_key path number needs entry ∙ both.0) (none_loads path number needs entries both.1)

or_none : (b : Bool) → (b || false) ≡ b
or_none true = refl
or_none false = refl

some_if : (b : Bool) (entry : Entry) → is_some (cond b (Some entry) None) ≡ b
some_if true entry = refl
some_if false entry = refl

-- a load is a hit exactly where an entry may be used
hits_as : PathsStay → (happened : List Happening) (path : Path) (number : ℕ) (draft : DraftState) → FitsModule path → number_at (behind_all happened) path ≡ Some number → loadable_reading (behind_all happened) path ≡ Some (Ok draft)
    → (entries : List Entry) → All (WasKept happened) entries → AreApart entries
    → is_hit (map loaded_of entries) (load_of path number (map (number_at (behind_all happened)) draft.needs)) ≡ is_some (usable_under (behind_all happened) entries (key_of path number))
hits_as paths happened path number draft fits number_is reading_is [] kept apart = never_both (tells_delivery (Some number) && list_all tells_delivery (map (number_at (behind_all happened)) draft.needs))
hits_as paths happened path number draft fits number_is reading_is (entry ∷ entries) kept apart =
    by (hits_as paths happened path number draft fits number_is reading_is entries (All-tail (WasKept happened) entry entries kept) apart.1) (is_same_key key entry.key) refl
  where
    is : Modules
    is = behind_all happened

    numbers : List (Option ℕ)
    numbers = map (number_at is) draft.needs

    key : CacheKey
    key = key_of path number

    tell : Bool
    tell = tells_delivery (Some number) && list_all tells_delivery numbers

    agree : Bool
    agree = are_same_numbers numbers (map (λ need. need.1) entry.needs)

    by : is_hit (map loaded_of entries) (load_of path number numbers) ≡ is_some (usable_under is entries key)
        → (b : Bool) → is_same_key key entry.key ≡ b → is_hit (map loaded_of (entry ∷ entries)) (load_of path number numbers) ≡ is_some (usable_under is (entry ∷ entries) key)
    by rest true same =
        let key_is = is_same_key-true key entry.key same in
        let others = none_loads path number numbers entries (subst (λ (k : CacheKey). list_any (λ other. is_same_key k other.key) entries ≡ false) (sym key_is) apart.0) in
        let whole : entries_of key (entry ∷ entries) ≡ entry ∷ entries_of key entries = ap (λ (b : Bool). cond b (entry ∷ entries_of key entries) (entries_of key entries)) same in
        ap₂ (λ (a b : Bool). tell && ((a && agree) || b)) (same_key path number numbers entry ∙ same) others
        ∙ ap (λ (b : Bool). tell && b) (or_none agree)
        ∙ entry_agrees paths happened path number draft entry fits number_is reading_is (All-head (WasKept happened) entry entries kept) (sym key_is)
        ∙ sym (some_if (may_be_used is entry) entry)
        ∙ ap (λ (l : List Entry). is_some (option_and_then (if_usable is) (slice_get l 0))) (sym whole)
    by rest false other =
        let whole : entries_of key (entry ∷ entries) ≡ entries_of key entries = ap (λ (b : Bool). cond b (entry ∷ entries_of key entries) (entries_of key entries)) other in
        ap (λ (a : Bool). tell && ((a && agree) || list_any (is_same_load (load_of path number numbers)) (map loaded_of entries))) (same_key path number numbers entry ∙ other)
        ∙ rest
        ∙ ap (λ (l : List Entry). is_some (option_and_then (if_usable is) (slice_get l 0))) (sym whole)

-- ---- what is found for a load

-- the entry that may be used
record IsUsable (modules : Modules) (path : Path) (entries : List Entry) (entry : Entry) : Type 0 where
  pub number : ℕ
  pub number_is : number_at modules path ≡ Some number
  pub found : cached_under (key_of path number) entries ≡ Some entry
  pub used : may_be_used modules entry ≡ true

usable_as : (modules : Modules) (path : Path) (entries : List Entry) (entry : Entry) → usable_at modules path entries ≡ Some entry → IsUsable modules path entries entry
usable_as modules path entries entry e = by_number (number_at modules path) refl e
  where
    by_use : (number : ℕ) (one : Entry) → number_at modules path ≡ Some number → cached_under (key_of path number) entries ≡ Some one → (b : Bool) → may_be_used modules one ≡ b → cond b (Some one) None ≡ Some entry → IsUsable modules path entries entry
    by_use number one number_is found true used e =
        let same : one ≡ entry = cc e in
        record {
          number = number;
          number_is = number_is;
          found = found ∙ ap (λ (x : Entry). Some x) same;
          used = subst (λ (x : Entry). may_be_used modules x ≡ true) same used;
        }
    by_use number one number_is found false used e = absurd (cc e)

    by_entry : (number : ℕ) → number_at modules path ≡ Some number → (o : Option Entry) → cached_under (key_of path number) entries ≡ o → option_and_then (if_usable modules) o ≡ Some entry → IsUsable modules path entries entry
    by_entry number number_is None found e = absurd (cc e)
    by_entry number number_is (Some one) found e = by_use number one number_is found (may_be_used modules one) refl e

    by_number : (o : Option ℕ) → number_at modules path ≡ o → option_and_then (usable_under modules entries) (option_map (key_of path) o) ≡ Some entry → IsUsable modules path entries entry
    by_number None number_is e = absurd (cc e)
    by_number (Some number) number_is e = by_entry number number_is (cached_under (key_of path number) entries) refl e

pub most_is : most_remembered ≡ 8
unfolding most_remembered
most_is = refl

-- the load at a path of this draft
abbrev pub load_at : Modules → Path → DraftState → Loaded
load_at modules path draft = record { path = path; own = number_at modules path; needs = map (number_at modules) draft.needs }

load_numbered : (modules : Modules) (path : Path) (number : ℕ) (draft : DraftState) → number_at modules path ≡ Some number → load_at modules path draft ≡ load_of path number (map (number_at modules) draft.needs)
load_numbered modules path number draft e = ap (λ (own : Option ℕ). record { path = path; own = own; needs = map (number_at modules) draft.needs }) e

-- what is remembered behind one load of it
behind_one : (path : Path) (number : ℕ) (needs : List (Option ℕ)) (remembered : List Loaded) (entries : List Entry) → remembered ≡ map loaded_of entries
    → remembered_behind (load_of path number needs ∷ []) remembered ≡ take 8 (load_of path number needs ∷ map loaded_of (others_of (key_of path number) entries))
behind_one path number needs remembered entries e =
    ap (λ (l : List Loaded). remembered_behind (load_of path number needs ∷ []) l) e
    ∙ ap₂ (λ (n : ℕ) (l : List Loaded). take n (load_of path number needs ∷ l)) most_is (others_same path number needs entries)

hits_of : (one : Loaded) (remembered : List Loaded) (hits : ℕ) (hit : Bool) → is_hit remembered one ≡ hit → min (hits + hits_among (one ∷ []) remembered) (2 ^ 64 - 1) ≡ min (hits + (cond hit 1 0 + 0)) (2 ^ 64 - 1)
hits_of one remembered hits hit e = ap (λ (b : Bool). min (hits + (cond b 1 0 + 0)) (2 ^ 64 - 1)) e

shorter : (limit count : ℕ) → min limit count ≤ limit
shorter limit count = omega arith

at_most : (hits limit : ℕ) → min hits limit ≤ limit
at_most hits limit = omega arith

still_at : (hits limit : ℕ) → hits ≤ limit → hits ≡ min (hits + 0) limit
still_at hits limit h = omega arith

front_length : (key : CacheKey) (entries : List Entry) → length (brought_to_front key entries) ≡ length entries
front_length key entries =
    length-append (entries_of key entries) (others_of key entries)
    ∙ length-filter_both (λ entry. is_same_key key entry.key) (λ entry. not (is_same_key key entry.key)) (λ x. refl) entries

pub recalled : PathsStay → NumbersTell → (happened : List Happening) (path : Path) (document : ToldDocument) (old : MemoryState) (entry : Entry) → FitsModule path → RemembersTruly happened old
    → usable_at (behind_all happened) path old.entries ≡ Some entry → document ≡ entry.document
    → HasDocument (behind_all happened) happened path document old (memory_with (brought_to_front entry.key old.entries) (one_more old.hits))
recalled paths numbers happened path document old entry fits truly usable copied =
    let is = behind_all happened in
    let usage = usable_as is path old.entries entry usable in
    let key = key_of path usage.number in
    let has = entry_found key old.entries entry truly.apart usage.found in
    let kept = all_found (WasKept happened) key old.entries entry has.one truly.kept in
    let was = behind_all kept.before in
    let used = both_true (tells_delivery (Some entry.key.own)) (list_all (is_as_kept is) entry.needs) usage.used in
    let tells : tells_delivery (Some usage.number) ≡ true = subst (λ (k : CacheKey). tells_delivery (Some k.own) ≡ true) has.key_is used.0 in
    let own_was : number_at was path ≡ Some usage.number = subst (λ (k : CacheKey). number_at was k.path ≡ Some k.own) has.key_is kept.own_is in
    let reading_was : loadable_reading was path ≡ Some (Ok kept.draft) = subst (λ (k : CacheKey). loadable_reading was k.path ≡ Some (Ok kept.draft)) has.key_is kept.reading_is in
    let number_now = subst (λ (h : List Happening). number_at (behind_all h) path ≡ Some usage.number) kept.happened_is usage.number_is in
    let as_kept : list_all (is_as_kept (behind_all (kept.before ++ kept.since))) (map (numbered was) kept.draft.needs) ≡ true =
    subst (λ (h : List Happening). list_all (is_as_kept (behind_all h)) (map (numbered was) kept.draft.needs) ≡ true) kept.happened_is (subst (λ (l : List (Path × Option ℕ)). list_all (is_as_kept is) l ≡ true) kept.needs_are used.1) in
    let reading : loadable_reading is path ≡ Some (Ok kept.draft) =
    subst (λ (h : List Happening). loadable_reading (behind_all h) path ≡ Some (Ok kept.draft)) (sym kept.happened_is)
    (loads_again paths numbers kept.before kept.since path usage.number kept.draft fits kept.needs_fit own_was number_now tells reading_was as_kept) in
    let same = subst (λ (h : List Happening). AreAsKept was (behind_all h) kept.draft.needs) (sym kept.happened_is) (are_as_kept paths numbers kept.before kept.since kept.draft.needs kept.needs_fit as_kept) in
    let load = load_of path usage.number (map (number_at is) kept.draft.needs) in
    let loaded : loaded_of entry ≡ load =
    ap₂ (λ (k : CacheKey) (l : List (Option ℕ)). record { path = k.path; own = Some k.own; needs = l }) has.key_is
    (ap (map (λ need. need.1)) kept.needs_are ∙ sym same.numbers) in
    let front : brought_to_front entry.key old.entries ≡ entry ∷ others_of key old.entries =
    ap (λ (k : CacheKey). brought_to_front k old.entries) has.key_is ∙ ap (λ (l : List Entry). l ++ others_of key old.entries) has.one in
    let few : length (brought_to_front entry.key old.entries) ≤ 8 = subst (λ (n : ℕ). n ≤ 8) (sym (front_length entry.key old.entries)) (subst (λ (n : ℕ). length old.entries ≤ n) most_is truly.few) in
    let few_loads : length (load ∷ map loaded_of (others_of key old.entries)) ≤ 8 =
    subst (λ (n : ℕ). n ≤ 8) (ap length front ∙ ap suc (sym (length-map (others_of key old.entries) loaded_of))) few in
    let hit : is_hit old.remembered load ≡ true =
    ap (λ (l : List Loaded). is_hit l load) truly.remembered_are
    ∙ hits_as paths happened path usage.number kept.draft fits usage.number_is reading old.entries truly.kept truly.apart
    ∙ ap (λ (o : Option Entry). is_some (option_and_then (if_usable is) o)) usage.found
    ∙ some_if (may_be_used is entry) entry ∙ usage.used in
    record {
      draft = kept.draft;
      reading_is = reading;
      document_is = subst (IsDocumentOf kept.draft) (sym copied) kept.document_is;
      remembers = subst (λ (one : Loaded). RemembersBehind happened (one ∷ []) old (memory_with (brought_to_front entry.key old.entries) (one_more old.hits))) (sym (load_numbered is path usage.number kept.draft usage.number_is)) (record {
        truly = record {
          remembered_are = refl;
          kept = All-append (WasKept happened) (entries_of entry.key old.entries) (others_of entry.key old.entries)
              (All-filter (λ other. is_same_key entry.key other.key) (WasKept happened) old.entries truly.kept)
              (All-filter (λ other. not (is_same_key entry.key other.key)) (WasKept happened) old.entries truly.kept);
          apart = subst AreApart (sym (front ∙ ap (λ (k : CacheKey). entry ∷ others_of k old.entries) (sym has.key_is))) (apart_in_front entry old.entries truly.apart);
          few = subst (λ (n : ℕ). length (brought_to_front entry.key old.entries) ≤ n) (sym most_is) few;
          counted = at_most (old.hits + 1) (2 ^ 64 - 1);
        };
        remembered_is =
            ap (map loaded_of) front ∙ ap (λ (one : Loaded). one ∷ map loaded_of (others_of key old.entries)) loaded
            ∙ sym (take_all 8 (load ∷ map loaded_of (others_of key old.entries)) few_loads)
            ∙ sym (behind_one path usage.number (map (number_at is) kept.draft.needs) old.remembered old.entries truly.remembered_are);
        hits_are = sym (hits_of load old.remembered old.hits true hit);
      });
    }

-- ---- what is kept of a load

numbers_kept : (modules : Modules) (needs : List Path) → map (λ need. need.1) (map (numbered modules) needs) ≡ map (number_at modules) needs
numbers_kept modules [] = refl
numbers_kept modules (need ∷ needs) = ap (λ (l : List (Option ℕ)). number_at modules need ∷ l) (numbers_kept modules needs)

pub kept_anew : PathsStay → NumbersTell → (happened : List Happening) (path : Path) (document : ToldDocument) (draft : DraftState) (old : MemoryState) → FitsModule path → RemembersTruly happened old
    → usable_at (behind_all happened) path old.entries ≡ None → loadable_reading (behind_all happened) path ≡ Some (Ok draft) → IsDocumentOf draft document → All FitsModule draft.needs
    → HasDocument (behind_all happened) happened path document old (memory_with (entries_with (number_at (behind_all happened) path) path (map (numbered (behind_all happened)) draft.needs) document old.entries) old.hits)
kept_anew paths numbers happened path document draft old fits truly unusable reading document_is needs_fit =
    let is = behind_all happened in
    let there = loadable is path draft reading in
    let at = number_there numbers happened path there.bytes fits there.found in
    let key = key_of path at.0 in
    let needs = map (numbered is) draft.needs in
    let entry = entry_for path at.0 needs document in
    let load = load_of path at.0 (map (number_at is) draft.needs) in
    let loaded : loaded_of entry ≡ load = ap (load_of path at.0) (numbers_kept is draft.needs) in
    let hit : is_hit old.remembered load ≡ false =
    ap (λ (l : List Loaded). is_hit l load) truly.remembered_are
    ∙ hits_as paths happened path at.0 draft fits at.1 reading old.entries truly.kept truly.apart
    ∙ ap is_some (sym (ap (λ (o : Option ℕ). option_and_then (usable_under is old.entries) (option_map (key_of path) o)) at.1) ∙ unusable) in
    let kept : WasKept happened entry = record {
      before = happened;
      since = [];
      happened_is = sym (append-nil happened);
      own_is = at.1;
      draft = draft;
      reading_is = reading;
      needs_are = refl;
      document_is = document_is;
      own_fits = fits;
      needs_fit = needs_fit;
    } in
    let all : All (WasKept happened) (entry ∷ others_of key old.entries) = All-cons (WasKept happened) entry (others_of key old.entries) kept (All-filter (λ other. not (is_same_key key other.key)) (WasKept happened) old.entries truly.kept) in
    record {
      draft = draft;
      reading_is = reading;
      document_is = document_is;
      remembers = subst (λ (one : Loaded). RemembersBehind happened (one ∷ []) old (memory_with (entries_with (number_at is path) path needs document old.entries) old.hits)) (sym (load_numbered is path at.0 draft at.1))
          (subst (λ (o : Option ℕ). RemembersBehind happened (load ∷ []) old (memory_with (entries_with o path needs document old.entries) old.hits)) (sym at.1) (record {
            truly = record {
              remembered_are = refl;
              kept = All-take (WasKept happened) 8 (entry ∷ others_of key old.entries) all;
              apart = apart_taken 8 (entry ∷ others_of key old.entries) (apart_in_front entry old.entries truly.apart);
              few = subst (λ (n : ℕ). length (kept_in_front entry old.entries) ≤ n) (sym most_is) (subst (λ (n : ℕ). n ≤ 8) (sym (length-take 8 (entry ∷ others_of key old.entries))) (shorter 8 (length (entry ∷ others_of key old.entries))));
              counted = truly.counted;
            };
            remembered_is =
                sym (take-map loaded_of 8 (entry ∷ others_of key old.entries)) ∙ ap (λ (one : Loaded). take 8 (one ∷ map loaded_of (others_of key old.entries))) loaded
                ∙ sym (behind_one path at.0 (map (number_at is) draft.needs) old.remembered old.entries truly.remembered_are);
            hits_are = still_at old.hits (2 ^ 64 - 1) truly.counted ∙ sym (hits_of load old.remembered old.hits false hit);
          }));
    }

-- ---- at the start

pub first_truly : (memory : MemoryState) → memory ≡ memory_with [] 0 → RemembersTruly [] memory
first_truly memory is = subst (RemembersTruly []) (sym is) (record {
  remembered_are = refl;
  kept = All-nil (WasKept []);
  apart = tt;
  few = omega arith;
  counted = omega arith;
})

-- ---- no load

pub none_more : (happened : List Happening) (memory : MemoryState) → RemembersTruly happened memory → RemembersBehind happened [] memory memory
none_more happened memory truly = record {
  truly = truly;
  remembered_is = refl;
  hits_are = still_at memory.hits (2 ^ 64 - 1) truly.counted;
}

-- ---- the places of documents

-- the places of its document are its programs'
abbrev pub FitsPlaces : Entry → Type 0
FitsPlaces entry = HasPlaces entry.document

pub places_in_front : (key : CacheKey) (entries : List Entry) → All FitsPlaces entries → All FitsPlaces (brought_to_front key entries)
places_in_front key entries all =
    All-append FitsPlaces (entries_of key entries) (others_of key entries) (All-filter (λ other. is_same_key key other.key) FitsPlaces entries all)
    (All-filter (λ other. not (is_same_key key other.key)) FitsPlaces entries all)

pub places_kept : (entry : Entry) (entries : List Entry) → HasPlaces entry.document → All FitsPlaces entries → All FitsPlaces (kept_in_front entry entries)
places_kept entry entries own all = All-take FitsPlaces 8 (entry ∷ others_of entry.key entries) (All-cons FitsPlaces entry (others_of entry.key entries) own (All-filter (λ other. not (is_same_key entry.key other.key)) FitsPlaces entries all))

first_places : (entries : List Entry) (entry : Entry) → slice_get entries 0 ≡ Some entry → All FitsPlaces entries → HasPlaces entry.document
first_places [] entry e all = absurd (cc e)
first_places (first ∷ entries) entry e all =
    let same : first ≡ entry = cc e in
    subst FitsPlaces same (All-head FitsPlaces first entries all)

pub places_found : (key : CacheKey) (entries : List Entry) (entry : Entry) → cached_under key entries ≡ Some entry → All FitsPlaces entries → HasPlaces entry.document
places_found key entries entry e all = first_places (entries_of key entries) entry e (All-filter (λ other. is_same_key key other.key) FitsPlaces entries all)

-- where something was kept, or no memory was found
pub places_behind : {A E : Type 0} (result : Result A E) (old new : List Entry) (entry : Entry) → OnOk result (new ≡ kept_in_front entry old) → OnErr result (new ≡ old) → HasPlaces entry.document → All FitsPlaces old → All FitsPlaces new
places_behind (Ok done) old new entry kept same own all = subst (All FitsPlaces) (sym kept) (places_kept entry old own all)
places_behind (Err error) old new entry kept same own all = subst (All FitsPlaces) (sym same) all

-- ---- what happens later

kept_later : (happened more : List Happening) (entry : Entry) → WasKept happened entry → WasKept (happened ++ more) entry
kept_later happened more entry kept = record {
  before = kept.before;
  since = kept.since ++ more;
  happened_is = ap (λ (h : List Happening). h ++ more) kept.happened_is ∙ append_assoc kept.before kept.since more;
  own_is = kept.own_is;
  draft = kept.draft;
  reading_is = kept.reading_is;
  needs_are = kept.needs_are;
  document_is = kept.document_is;
  own_fits = kept.own_fits;
  needs_fit = kept.needs_fit;
}

pub truly_later : (happened more : List Happening) (memory : MemoryState) → RemembersTruly happened memory → RemembersTruly (happened ++ more) memory
truly_later happened more memory truly = record {
  remembered_are = truly.remembered_are;
  kept = All-weaker (WasKept happened) (WasKept (happened ++ more)) (kept_later happened more) memory.entries truly.kept;
  apart = truly.apart;
  few = truly.few;
  counted = truly.counted;
}

-- ---- loads one behind the other

behind_both : (first more remembered : List Loaded) → remembered_behind (first ++ more) remembered ≡ remembered_behind more (remembered_behind first remembered)
behind_both [] more remembered = refl
behind_both (one ∷ first) more remembered = behind_both first more (with_loaded one remembered)

grouped : (hit first more whole : ℕ) → whole ≡ first + more → hit + whole ≡ (hit + first) + more
grouped hit first more whole e = omega (arith, e)

none_first : (count : ℕ) → count ≡ 0 + count
none_first count = omega arith

among_both : (first more remembered : List Loaded) → hits_among (first ++ more) remembered ≡ hits_among first remembered + hits_among more (remembered_behind first remembered)
among_both [] more remembered = none_first (hits_among more remembered)
among_both (one ∷ first) more remembered =
    grouped (cond (is_hit remembered one) 1 0) (hits_among first (with_loaded one remembered)) (hits_among more (remembered_behind first (with_loaded one remembered))) (hits_among (first ++ more) (with_loaded one remembered))
    (among_both first more (with_loaded one remembered))

saturates : (hits first more limit : ℕ) → min (min (hits + first) limit + more) limit ≡ min (hits + (first + more)) limit
saturates hits first more limit = omega arith

pub remembers_both : (first more : List Loaded) (old between new : PageState) → Remembers first old between → Remembers more between new → Remembers (first ++ more) old new
remembers_both first more old between new one other = record {
  remembered_is = other.remembered_is ∙ ap (remembered_behind more) one.remembered_is ∙ sym (behind_both first more old.remembered);
  hits_are =
      other.hits_are
      ∙ ap₂ (λ (hits : ℕ) (remembered : List Loaded). min (hits + hits_among more remembered) (2 ^ 64 - 1)) one.hits_are one.remembered_is
      ∙ saturates old.hits (hits_among first old.remembered) (hits_among more (remembered_behind first old.remembered)) (2 ^ 64 - 1)
      ∙ ap (λ (n : ℕ). min (old.hits + n) (2 ^ 64 - 1)) (sym (among_both first more old.remembered));
}

-- nothing is loaded
pub remembers_none : (happened : List Happening) (old new : PageState) → RemembersTruly happened (memory_of old) → RemembersStill old new → Remembers [] old new
remembers_none happened old new truly still = record {
  remembered_is = still.0;
  hits_are = still.1 ∙ still_at old.hits (2 ^ 64 - 1) truly.counted;
}

-- what the cache has under a key, as an entry
abbrev pub entry_under : CacheKey → Cached → Entry
entry_under key cached = record { key = key; needs = cached.needs.items; document = told_document cached.document }

-- ---- a key under which an entry may be used

entry_there : (o : Option Entry) → is_some o ≡ true → (entry : Entry) × (o ≡ Some entry)
entry_there None e = absurd (cc e)
entry_there (Some entry) e = (entry, refl)

used_there : (modules : Modules) (entry : Entry) → true ≡ is_some (if_usable modules entry) → if_usable modules entry ≡ Some entry
used_there modules entry e = by (may_be_used modules entry) e
  where
    by : (b : Bool) → true ≡ is_some (cond b (Some entry) None) → cond b (Some entry) None ≡ Some entry
    by true e = refl
    by false e = absurd (cc e)

pub usable_key : (state : ModulesState) (path : Path) (number : ℕ) (entries : List Entry) → is_some (cached_under (key_of path number) entries) ≡ true
    → ((modules : Modules) → StandsFor state modules → number_at modules path ≡ Some number)
    → ((modules : Modules) → StandsFor state modules → true ≡ is_some (usable_under modules entries (key_of path number))) → IsUsableUnder state path (key_of path number) entries
usable_key state path number entries there numbers usable =
    let found = entry_there (cached_under (key_of path number) entries) there in
    record {
      entry = found.0;
      found = found.1;
      usable = λ modules stands.
          ap (λ (o : Option ℕ). option_and_then (usable_under modules entries) (option_map (key_of path) o)) (numbers modules stands)
          ∙ ap (option_and_then (if_usable modules)) found.1
          ∙ used_there modules found.0 (usable modules stands ∙ ap (λ (o : Option Entry). is_some (option_and_then (if_usable modules) o)) found.1);
    }

-- what is found under a key has it
key_found : (key : CacheKey) (entries : List Entry) (entry : Entry) → cached_under key entries ≡ Some entry → entry.key ≡ key
key_found key entries entry e = by (entries_of key entries) e (filter_passes (λ other. is_same_key key other.key) entries)
  where
    by : (l : List Entry) → slice_get l 0 ≡ Some entry → All (λ other. is_same_key key other.key ≡ true) l → entry.key ≡ key
    by [] e all = absurd (cc e)
    by (first ∷ l) e all =
        let same : first ≡ entry = cc e in
        sym (is_same_key-true key entry.key (subst (λ (x : Entry). is_same_key key x.key ≡ true) same (All-head (λ other. is_same_key key other.key ≡ true) first l all)))

same_entry : (o : Option Entry) (one other : Entry) → o ≡ Some one → o ≡ Some other → one ≡ other
same_entry o one other e f = cc (e, f)

-- the entry under that key is used
pub recalls_used : {E : Type 0} (result : Result (Option Document) E) (state : ModulesState) (path : Path) (key : CacheKey) (old new : MemoryState) → IsUsableUnder state path key old.entries
    → IfOk result (λ found. UsesAgain key (option_map told_document found) old new) → IfOk result (λ found. Recalls state path (option_map told_document found) old new)
recalls_used (Err error) state path key old new usable used = tt
recalls_used (Ok None) state path key old new usable used = absurd (cc (used, usable.found))
recalls_used (Ok (Some document)) state path key old new usable used = record {
  entry = usable.entry;
  usable = usable.usable;
  copied = used.copied ∙ ap (λ (x : Entry). x.document) (same_entry (cached_under key old.entries) used.entry usable.entry used.found usable.found);
  new_is = used.new_is ∙ ap (λ (k : CacheKey). memory_with (brought_to_front k old.entries) (one_more old.hits)) (sym (key_found key old.entries usable.entry usable.found));
}
