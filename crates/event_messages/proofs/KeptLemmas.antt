-- What is kept, behind one more happening.
use Rattle.std.proofs.Common.{◌≡◌, ℕ, nat_eq, Bool, true, false, ◌&&◌, cond, Result, Ok, Err, List, [], ◌∷◌, ◌++◌, Option, Some, None, refl, sym, ap, subst, ◌∙◌}
use Rattle.std.specs.Prelude.{OnErr, OnOk, unwrap_or}
use Rattle.std.specs.List.{AllByRecursion, IsDistinct}
use Rattle.std.specs.Map.{keys_of, lookup, set_value}
use Rattle.std.proofs.lemmas.Bool.{eqb-true, eq-eqb}
use Rattle.std.proofs.lemmas.Map.Keys.{IsDistinct-head, IsDistinct-tail}
use Rattle.std.proofs.lemmas.Option.{same_Some}
use Rattle.indexmap.specs.IndexMap.{insert_entry}
use Rattle.event_messages.specs.declared.messages.Message.{Message}
use Rattle.event_messages.specs.Firings.{Happening, firing_of, last_version, version_behind}
use Rattle.event_messages.specs.Firings.Happening.{Forgets}
use Rattle.event_messages.specs.ItemFirings.{KeptFirings, is_key, no_firings, with_firing}
use Rattle.event_messages.specs.Kept.{FiringsOfItems, StandsFor, version_in, with_forgotten, with_noted}
use Rattle.event_messages.proofs.FiringLemmas.{after-more}
use Rattle.event_messages.proofs.ItemFiringLemmas.{lookup-with_firing}

-- the look-ups of items are as before, but for one item, which has these versions now
abbrev pub Sets : ℕ → Option KeptFirings → List (ℕ × KeptFirings) → List (ℕ × KeptFirings) → Type 0
Sets item versions old new = (other : ℕ) → lookup (nat_eq other) new ≡ cond (nat_eq item other) versions (lookup (nat_eq other) old)

abbrev pub version_same : Option KeptFirings → KeptFirings → Type 0
version_same kept versions = (group id : ℕ) → version_in group id kept ≡ lookup (is_key group id) versions

pub stands-fired : (item : ℕ) (message : Message) (old new : List (ℕ × KeptFirings)) (before after : KeptFirings) → Sets item (Some after) old new → version_same (lookup (nat_eq item) old) before → after ≡ with_firing message before
    → (happenings : List Happening) → StandsFor old happenings → StandsFor new (happenings ++ firing_of item message ∷ [])
stands-fired item message old new before after sets was noted happenings stands other other_group other_id =
    ap (version_in other_group other_id) (sets other) ∙ by (nat_eq item other) refl ∙ sym (after-more other other_group other_id None happenings (firing_of item message))
  where
    known : item ≡ other → lookup (is_key other_group other_id) before ≡ last_version other other_group other_id happenings
    known e = sym (was other_group other_id) ∙ ap (λ i. version_in other_group other_id (lookup (nat_eq i) old)) e ∙ stands other other_group other_id

    by : (test : Bool) → nat_eq item other ≡ test → version_in other_group other_id (cond test (Some after) (lookup (nat_eq other) old)) ≡ version_behind other other_group other_id (last_version other other_group other_id happenings) (firing_of item message)
    by true e = rw e (ap (lookup (is_key other_group other_id)) noted ∙ lookup-with_firing message before other_group other_id ∙ ap (cond (nat_eq message.group other_group && nat_eq message.id other_id) (Some message.version)) (known (eqb-true _ _ e)))
    by false e = rw e (stands other other_group other_id)

-- ---- forgotten firings

-- the firings of the item are found to be none
forgotten-here : (item other group id : ℕ) (kept : FiringsOfItems) → nat_eq item other ≡ true → version_in group id (lookup (nat_eq other) (with_forgotten item kept)) ≡ None
forgotten-here item other group id [] same = refl
forgotten-here item other group id (entry ∷ kept) same = by (nat_eq item entry.0) (nat_eq other entry.0) refl refl (forgotten-here item other group id kept same)
  where
    by : (s t : Bool) → nat_eq item entry.0 ≡ s → nat_eq other entry.0 ≡ t → version_in group id (lookup (nat_eq other) (with_forgotten item kept)) ≡ None
        → version_in group id (cond (nat_eq other (cond s (entry.0, no_firings) entry).0) (Some (cond s (entry.0, no_firings) entry).1) (lookup (nat_eq other) (with_forgotten item kept))) ≡ None
    by true true s t rest = rw t refl
    by true false s t rest = rw t rest
    by false true s t rest =
        let yes = eq-eqb item entry.0 (eqb-true item other same ∙ eqb-true other entry.0 t) in
        absurd cc
    by false false s t rest = rw t rest

-- those of each other item are as before
forgotten-there : (item other : ℕ) (kept : FiringsOfItems) → nat_eq item other ≡ false → lookup (nat_eq other) (with_forgotten item kept) ≡ lookup (nat_eq other) kept
forgotten-there item other [] apart = refl
forgotten-there item other (entry ∷ kept) apart = by (nat_eq item entry.0) (nat_eq other entry.0) refl refl (forgotten-there item other kept apart)
  where
    by : (s t : Bool) → nat_eq item entry.0 ≡ s → nat_eq other entry.0 ≡ t → lookup (nat_eq other) (with_forgotten item kept) ≡ lookup (nat_eq other) kept
        → cond (nat_eq other (cond s (entry.0, no_firings) entry).0) (Some (cond s (entry.0, no_firings) entry).1) (lookup (nat_eq other) (with_forgotten item kept)) ≡ cond t (Some entry.1) (lookup (nat_eq other) kept)
    by true true s t rest =
        let yes = eq-eqb item other (eqb-true item entry.0 s ∙ sym (eqb-true other entry.0 t)) in
        absurd cc
    by true false s t rest = rw t rest
    by false true s t rest = rw t refl
    by false false s t rest = rw t rest

forgets-stand : (item : ℕ) (kept : FiringsOfItems) (happenings : List Happening) → StandsFor kept happenings → StandsFor (with_forgotten item kept) (happenings ++ Forgets item ∷ [])
forgets-stand item kept happenings stands other group id = by (nat_eq item other) refl ∙ sym (after-more other group id None happenings (Forgets item))
  where
    by : (test : Bool) → nat_eq item other ≡ test → version_in group id (lookup (nat_eq other) (with_forgotten item kept)) ≡ version_behind other group id (last_version other group id happenings) (Forgets item)
    by true e = rw e (forgotten-here item other group id kept e)
    by false e = rw e (ap (version_in group id) (forgotten-there item other kept e) ∙ stands other group id)

pub stands-forgotten : (item : ℕ) (old new : FiringsOfItems) → new ≡ with_forgotten item old → (happenings : List Happening) → StandsFor old happenings → StandsFor new (happenings ++ Forgets item ∷ [])
stands-forgotten item old new is happenings stands = subst (λ kept. StandsFor kept (happenings ++ Forgets item ∷ [])) (sym is) (forgets-stand item old happenings stands)

-- an item that never fired has nothing to forget
pub forgotten-absent : (item : ℕ) (kept : FiringsOfItems) → lookup (nat_eq item) kept ≡ None → with_forgotten item kept ≡ kept
forgotten-absent item [] none = refl
forgotten-absent item (entry ∷ kept) none = by (nat_eq item entry.0) none (forgotten-absent item kept)
  where
    by : (test : Bool) → cond test (Some entry.1) (lookup (nat_eq item) kept) ≡ None → (lookup (nat_eq item) kept ≡ None → with_forgotten item kept ≡ kept)
        → cond test (entry.0, no_firings) entry ∷ with_forgotten item kept ≡ entry ∷ kept
    by true e rest = absurd cc
    by false e rest = ap (λ entries. entry ∷ entries) (rest e)

forgotten-among-others : (item : ℕ) (kept : FiringsOfItems) → AllByRecursion (λ other. nat_eq item other ≡ false) (keys_of kept) → with_forgotten item kept ≡ kept
forgotten-among-others item [] others = refl
forgotten-among-others item (entry ∷ kept) others = rw others.0 (ap (λ entries. entry ∷ entries) (forgotten-among-others item kept others.1))

-- each item has one entry, so forgetting clears it
forgotten-set : (item : ℕ) (kept : FiringsOfItems) → IsDistinct nat_eq (keys_of kept) → set_value (nat_eq item) kept no_firings ≡ with_forgotten item kept
forgotten-set item [] distinct = refl
forgotten-set item (entry ∷ kept) distinct = by (nat_eq item entry.0) refl (forgotten-set item kept (IsDistinct-tail nat_eq entry.0 (keys_of kept) distinct))
  where
    others : nat_eq item entry.0 ≡ true → AllByRecursion (λ other. nat_eq item other ≡ false) (keys_of kept)
    others e = subst (λ it. AllByRecursion (λ other. nat_eq it other ≡ false) (keys_of kept)) (sym (eqb-true item entry.0 e)) (IsDistinct-head nat_eq entry.0 (keys_of kept) distinct)

    by : (test : Bool) → nat_eq item entry.0 ≡ test → set_value (nat_eq item) kept no_firings ≡ with_forgotten item kept
        → cond test ((entry.0, no_firings) ∷ kept) (entry ∷ set_value (nat_eq item) kept no_firings) ≡ cond test (entry.0, no_firings) entry ∷ with_forgotten item kept
    by true e rest = ap (λ entries. (entry.0, no_firings) ∷ entries) (sym (forgotten-among-others item kept (others e)))
    by false e rest = ap (λ entries. entry ∷ entries) rest

pub forgotten-through : (item : ℕ) (held old new : FiringsOfItems) (after : KeptFirings) → held ≡ old → IsDistinct nat_eq (keys_of held) → new ≡ set_value (nat_eq item) held after → after ≡ no_firings → new ≡ with_forgotten item old
forgotten-through item held old new after is distinct set none =
    set ∙ ap (set_value (nat_eq item) held) none ∙ forgotten-set item held distinct ∙ ap (with_forgotten item) is

-- ---- noted firings

-- an item that has firings takes others in their place
inserted-set : (item : ℕ) (kept : FiringsOfItems) (before after : KeptFirings) → lookup (nat_eq item) kept ≡ Some before → set_value (nat_eq item) kept after ≡ insert_entry nat_eq kept item after
inserted-set item [] before after there = absurd cc
inserted-set item (entry ∷ kept) before after there = by (nat_eq item entry.0) there (inserted-set item kept before after)
  where
    by : (test : Bool) → cond test (Some entry.1) (lookup (nat_eq item) kept) ≡ Some before → (lookup (nat_eq item) kept ≡ Some before → set_value (nat_eq item) kept after ≡ insert_entry nat_eq kept item after)
        → cond test ((entry.0, after) ∷ kept) (entry ∷ set_value (nat_eq item) kept after) ≡ cond test ((entry.0, after) ∷ kept) (entry ∷ insert_entry nat_eq kept item after)
    by true e rest = refl
    by false e rest = ap (λ entries. entry ∷ entries) (rest e)

set-same : (item : ℕ) (kept : FiringsOfItems) (before : KeptFirings) → lookup (nat_eq item) kept ≡ Some before → set_value (nat_eq item) kept before ≡ kept
set-same item [] before there = absurd cc
set-same item (entry ∷ kept) before there = by (nat_eq item entry.0) there (set-same item kept before)
  where
    by : (test : Bool) → cond test (Some entry.1) (lookup (nat_eq item) kept) ≡ Some before → (lookup (nat_eq item) kept ≡ Some before → set_value (nat_eq item) kept before ≡ kept)
        → cond test ((entry.0, before) ∷ kept) (entry ∷ set_value (nat_eq item) kept before) ≡ entry ∷ kept
    by true e rest = ap (λ versions. (entry.0, versions) ∷ kept) (sym (same_Some entry.1 before e))
    by false e rest = ap (λ entries. entry ∷ entries) (rest e)

-- the firings of an item are written where they stood
pub noted-through : (item : ℕ) (message : Message) (held old new : FiringsOfItems) (before after : KeptFirings) → held ≡ old → lookup (nat_eq item) old ≡ Some before → new ≡ set_value (nat_eq item) held after → after ≡ with_firing message before
    → new ≡ with_noted item message old
noted-through item message held old new before after is there set noted =
    set ∙ ap (λ kept. set_value (nat_eq item) kept after) is ∙ inserted-set item old before after there
    ∙ ap (insert_entry nat_eq old item) (noted ∙ ap (λ found. with_firing message (unwrap_or found no_firings)) (sym there))

pub noted-new : (item : ℕ) (message : Message) (old new : FiringsOfItems) (after : KeptFirings) → lookup (nat_eq item) old ≡ None → new ≡ insert_entry nat_eq old item after → after ≡ with_firing message no_firings → new ≡ with_noted item message old
noted-new item message old new after none inserted noted =
    inserted ∙ ap (insert_entry nat_eq old item) (noted ∙ ap (λ found. with_firing message (unwrap_or found no_firings)) (sym none))

pub same-through : (item : ℕ) (held old new : FiringsOfItems) (before after : KeptFirings) → held ≡ old → lookup (nat_eq item) old ≡ Some before → new ≡ set_value (nat_eq item) held after → after ≡ before → new ≡ old
same-through item held old new before after is there set same =
    set ∙ ap (λ kept. set_value (nat_eq item) kept after) is ∙ ap (set_value (nat_eq item) old) same ∙ set-same item old before there

pub on-err : {A E : Type 0} {P Q : Type 0} (result : Result A E) → (P → Q) → OnErr result P → OnErr result Q
on-err (Ok a) f p = tt
on-err (Err e) f p = f p

pub on-ok : {A E : Type 0} {P Q : Type 0} (result : Result A E) → (P → Q) → OnOk result P → OnOk result Q
on-ok (Ok a) f p = f p
on-ok (Err e) f p = tt

-- an item that has no versions yet is noted for the first time
pub noted-first : (kept : Option KeptFirings) → kept ≡ None → version_same kept []
noted-first kept e group id = ap (version_in group id) e

pub noted-again : (kept : Option KeptFirings) (versions : KeptFirings) → kept ≡ Some versions → version_same kept versions
noted-again kept versions e group id = ap (version_in group id) e
