-- What a lock keeps stays as it is.
use Rattle.std.proofs.Common.{◌≡◌, ◌≢◌, ◌∙◌, ℕ, ◌≤◌, Bool, true, false, cond, eqb, List, [], ◌∷◌, ◌++◌, length, map, Option, Some, None, refl, sym, ap, subst, inl, inr, arith}
use Rattle.std.specs.Prelude.{All, ◌⊎◌, ◌&&◌, not, find, filter, is_some, option_and_then, option_to_list}
use Rattle.std.specs.Option.{option_map_or, option_or}
use Rattle.std.proofs.lemmas.Bool.{and_parts, eqb-true, ltb-true}
use Rattle.std.proofs.lemmas.Bool.Decides.{eqb_tells}
use Rattle.std.proofs.lemmas.List.{length-append, length-map}
use Rattle.std.proofs.lemmas.List.Elements.{All-cons, All-map}
use Rattle.std.proofs.lemmas.List.Folds.{find-append}
use Rattle.carousel_blocks.specs.declared.changes.Change.{Change}
use Rattle.multipart_entities.specs.declared.paths.Path.{Path}
use Rattle.carousel_blocks.specs.DataEvents.{data_event, data_event_between}
use Rattle.module_store.specs.Copies.{KeptModule}
use Rattle.module_store.specs.DataEvents.{data_event_by, event_id}
use Rattle.module_store.specs.Resources.{Found, Presence, Resource, look, start_component}
use Rattle.module_store.specs.Resources.Presence.{Absent, Announced, Held}
use Rattle.module_store.specs.Resources as resources
use Rattle.module_store.specs.Staying.{tells_of}
use Rattle.module_store.specs.Store.{Stored}
use Rattle.module_store.specs.Store as store
use Rattle.module_locks.specs.declared.answers.LockAnswer.{LockAnswer}
use Rattle.module_locks.specs.declared.answers.LockAnswer.TheVariants as answers
use Rattle.module_locks.specs.Locks.{Lock, Modules, answer_at, answer_by, change_told, changes_by, delivers, has_place, is_delivery, is_lock_on, kept_now, kept_on, lock_answer, lock_behind, lock_on, lock_with, locks_at, locks_behind, locks_left, locks_with, look_kept, look_up, module_changes_by, most_locks, start_path, with_lock, with_section}
use Rattle.module_locks.proofs.ListLaws.{any-made, any-weaker, found_left}
use Rattle.module_locks.proofs.HeldLaws.{held_look}

-- ---- locks that change one after the other

-- they stay on their modules
abbrev Stays : (Lock → Lock) → Type 0
Stays f = (component number : ℕ) (lock : Lock) → is_lock_on component number (f lock) ≡ is_lock_on component number lock

-- and keep what they keep
abbrev Keeps : (Lock → Lock) → Type 0
Keeps f = (lock : Lock) → is_some lock.kept ≡ true → f lock ≡ lock

-- so a lock stands behind where one stood before
stands_still : (f : Lock → Lock) → Stays f → (component number : ℕ) (locks : List Lock) → is_some (lock_on (map f locks) component number) ≡ is_some (lock_on locks component number)
stands_still f stays component number [] = refl
stands_still f stays component number (lock ∷ locks) =
    ap (λ b. is_some (cond b (Some (f lock)) (find (is_lock_on component number) (map f locks)))) (stays component number lock)
    ∙ elim (is_lock_on component number lock)
    as (λ b. is_some (cond b (Some (f lock)) (find (is_lock_on component number) (map f locks))) ≡ is_some (cond b (Some lock) (find (is_lock_on component number) locks)))
    [ true ↦ refl | false ↦ stands_still f stays component number locks ]

kept_stays : (f : Lock → Lock) → Stays f → Keeps f → (component number : ℕ) (kept : KeptModule) (locks : List Lock) → kept_on locks component number ≡ Some kept → kept_on (map f locks) component number ≡ Some kept
kept_stays f stays keeps component number kept [] e = absurd cc
kept_stays f stays keeps component number kept (lock ∷ locks) e =
    ap (λ b. option_and_then (λ (l : Lock). l.kept) (cond b (Some (f lock)) (find (is_lock_on component number) (map f locks)))) (stays component number lock)
    ∙ by_test (is_lock_on component number lock) (kept_stays f stays keeps component number kept locks) e
  where
    is_kept : (o : Option KeptModule) → o ≡ Some kept → is_some o ≡ true
    is_kept None e = absurd cc
    is_kept (Some k) e = refl

    by_test : (b : Bool) → (kept_on locks component number ≡ Some kept → kept_on (map f locks) component number ≡ Some kept)
        → option_and_then (λ (l : Lock). l.kept) (cond b (Some lock) (find (is_lock_on component number) locks)) ≡ Some kept
        → option_and_then (λ (l : Lock). l.kept) (cond b (Some (f lock)) (find (is_lock_on component number) (map f locks))) ≡ Some kept
    by_test true behind h = ap (λ (l : Lock). l.kept) (keeps lock (is_kept lock.kept h)) ∙ h
    by_test false behind h = behind h

-- a module that no lock keeps isn't kept behind either
none_stays : (f : Lock → Lock) → Stays f → (component number : ℕ) → ((lock : Lock) → is_lock_on component number lock ≡ true → lock.kept ≡ None → (f lock).kept ≡ None)
    → (locks : List Lock) → kept_on locks component number ≡ None → kept_on (map f locks) component number ≡ None
none_stays f stays component number none [] e = refl
none_stays f stays component number none (lock ∷ locks) e =
    ap (λ b. option_and_then (λ (l : Lock). l.kept) (cond b (Some (f lock)) (find (is_lock_on component number) (map f locks)))) (stays component number lock)
    ∙ by_test (is_lock_on component number lock) refl (none_stays f stays component number none locks) e
  where
    by_test : (b : Bool) → is_lock_on component number lock ≡ b → (kept_on locks component number ≡ None → kept_on (map f locks) component number ≡ None)
        → option_and_then (λ (l : Lock). l.kept) (cond b (Some lock) (find (is_lock_on component number) locks)) ≡ None
        → option_and_then (λ (l : Lock). l.kept) (cond b (Some (f lock)) (find (is_lock_on component number) (map f locks))) ≡ None
    by_test true is behind h = none lock is h
    by_test false is behind h = behind h

-- ---- a section

abbrev pub with_bytes : Option KeptModule → Lock → Lock
with_bytes now lock = record lock { kept = now }

pub behind_stays : (component : ℕ) (changes : List Change) (now : Stored) → Stays (lock_behind component changes now)
behind_stays component changes now its_component number lock =
    elim ((eqb lock.component component && not (is_some lock.kept)) && delivers lock.«module» changes)
    as (λ b. is_lock_on its_component number (cond b (with_bytes (kept_now now component lock.«module») lock) lock) ≡ is_lock_on its_component number lock)
    [ true ↦ refl | false ↦ refl ]

-- one that keeps something isn't changed
unchanged : (is_it is_told : Bool) (kept : Option KeptModule) (new lock : Lock) → is_some kept ≡ true → cond ((is_it && not (is_some kept)) && is_told) new lock ≡ lock
unchanged is_it is_told None new lock e = absurd cc
unchanged true is_told (Some kept) new lock e = refl
unchanged false is_told (Some kept) new lock e = refl

behind_keeps : (component : ℕ) (changes : List Change) (now : Stored) → Keeps (lock_behind component changes now)
behind_keeps component changes now lock e =
    unchanged (eqb lock.component component) (delivers lock.«module» changes) lock.kept (with_bytes (kept_now now component lock.«module») lock) lock e

-- where it is no data event, the locks are left
left_all : (modules : Modules) (component : ℕ) (section : List ℕ) → data_event_by component section modules.stored ≡ None → locks_at component section modules ≡ modules.locks
left_all modules component section none = ap (λ event. locks_left event modules.locks) none

pub kept_behind : (modules : Modules) (component : ℕ) (section : List ℕ) (its_component number : ℕ) (kept : KeptModule) → data_event_by component section modules.stored ≡ None
    → kept_on modules.locks its_component number ≡ Some kept → kept_on (with_section component section modules).locks its_component number ≡ Some kept
kept_behind modules component section its_component number kept none e =
    let changes = store.changes_by component section modules.stored in
    let now = store.with_section component section modules.stored in
    ap (λ l. kept_on (map (lock_behind component changes now) l) its_component number) (left_all modules component section none)
    ∙ kept_stays (lock_behind component changes now) (behind_stays component changes now) (behind_keeps component changes now) its_component number kept modules.locks e

-- then the changes tell of the modules that the carousels' changes tell of
told_same : (modules : Modules) (component : ℕ) (section : List ℕ) (number : ℕ) → data_event_by component section modules.stored ≡ None
    → tells_of number (changes_by component section modules) ≡ tells_of number (store.changes_by component section modules.stored)
told_same modules component section number none =
    ap (λ event. tells_of number (option_to_list event ++ module_changes_by component section modules)) none
    ∙ any-made (λ (change : Change). eqb change.«module» number) (change_told component (locks_at component section modules)) (store.changes_by component section modules.stored)

-- a module that is delivered is told
delivered_told : (number : ℕ) (changes : List Change) → delivers number changes ≡ true → tells_of number changes ≡ true
delivered_told number changes e =
    any-weaker (λ (change : Change). eqb change.«module» number && is_delivery change) (λ (change : Change). eqb change.«module» number)
    (λ change h. (and_parts (eqb change.«module» number) (is_delivery change) h).0) changes e

-- a module of which no change is told isn't kept where it wasn't
none_behind : (modules : Modules) (component : ℕ) (section : List ℕ) (its_component number : ℕ) → data_event_by component section modules.stored ≡ None
    → (component ≡ its_component → tells_of number (changes_by component section modules) ≡ false)
    → kept_on modules.locks its_component number ≡ None → kept_on (with_section component section modules).locks its_component number ≡ None
none_behind modules component section its_component number no_event quiet e =
    ap (λ l. kept_on (map (lock_behind component changes now) l) its_component number) (left_all modules component section no_event)
    ∙ none_stays (lock_behind component changes now) (behind_stays component changes now) its_component number still modules.locks e
  where
    changes : List Change
    changes = store.changes_by component section modules.stored

    now : Stored
    now = store.with_section component section modules.stored

    still : (lock : Lock) → is_lock_on its_component number lock ≡ true → lock.kept ≡ None → (lock_behind component changes now lock).kept ≡ None
    still lock on none =
        by_tests (eqb_tells lock.component component) (delivers lock.«module» changes) refl
      where
        on_it : (eqb lock.component its_component ≡ true) × (eqb lock.«module» number ≡ true)
        on_it = and_parts (eqb lock.component its_component) (eqb lock.«module» number) on

        by_tests : ((eqb lock.component component ≡ true) × (lock.component ≡ component)) ⊎ ((eqb lock.component component ≡ false) × (lock.component ≢ component))
            → (d : Bool) → delivers lock.«module» changes ≡ d → (lock_behind component changes now lock).kept ≡ None
        by_tests (inr differ) d is = rw differ.0 none
        by_tests (inl same) false is = rw (same.0, none, is) refl
        by_tests (inl same) true is =
            let told = delivered_told lock.«module» changes is in
            let here = ap (λ n. tells_of n changes) (sym (eqb-true lock.«module» number on_it.1)) ∙ told in
            let silent = sym (told_same modules component section number no_event) ∙ quiet (sym same.1 ∙ eqb-true lock.component its_component on_it.0) in
            absurd cc

-- What is found under a path stays.
pub found_behind : (modules : Modules) (component : ℕ) (section : List ℕ) (path : Path) (bytes : List ℕ)
    → ((look modules.stored path ≡ Found bytes) → (component ≡ path.component → tells_of path.«module» (store.changes_by component section modules.stored) ≡ false)
    → look (store.with_section component section modules.stored) path ≡ Found bytes)
    → look_up modules path ≡ Found bytes → data_event_by component section modules.stored ≡ None
    → (component ≡ path.component → tells_of path.«module» (changes_by component section modules) ≡ false)
    → look_up (with_section component section modules) path ≡ Found bytes
found_behind modules component section path bytes in_store found no_event quiet = by_kept (kept_on modules.locks path.component path.«module») refl
  where
    now : Modules
    now = with_section component section modules

    by_kept : (o : Option KeptModule) → kept_on modules.locks path.component path.«module» ≡ o → look_up now path ≡ Found bytes
    by_kept (Some kept) is =
        rw (kept_behind modules component section path.component path.«module» kept no_event is) (rw is at found)
    by_kept None is =
        rw (none_behind modules component section path.component path.«module» no_event quiet is)
        (in_store (rw is at found) (λ same. sym (told_same modules component section path.«module» no_event) ∙ quiet same))

-- The start path stays.
pub start_behind : (modules : Modules) (component : ℕ) (section : List ℕ)
    → ((component ≡ start_component → tells_of 0 (store.changes_by component section modules.stored) ≡ false)
    → resources.start_path (store.with_section component section modules.stored) ≡ resources.start_path modules.stored)
    → data_event_by component section modules.stored ≡ None
    → (component ≡ start_component → tells_of 0 (changes_by component section modules) ≡ false)
    → start_path (with_section component section modules) ≡ start_path modules
start_behind modules component section in_store no_event quiet = by_kept (kept_on modules.locks start_component 0) refl
  where
    now : Modules
    now = with_section component section modules

    by_kept : (o : Option KeptModule) → kept_on modules.locks start_component 0 ≡ o → start_path now ≡ start_path modules
    by_kept (Some kept) is =
        rw (kept_behind modules component section start_component 0 kept no_event is, is) refl
    by_kept None is =
        rw (none_behind modules component section start_component 0 no_event quiet is, is)
        (in_store (λ same. sym (told_same modules component section 0 no_event) ∙ quiet same))

pub lock_behind_stands : (modules : Modules) (component : ℕ) (section : List ℕ) (its_component number : ℕ) → data_event_by component section modules.stored ≡ None
    → is_some (lock_on (with_section component section modules).locks its_component number) ≡ is_some (lock_on modules.locks its_component number)
lock_behind_stands modules component section its_component number none =
    let changes = store.changes_by component section modules.stored in
    let now = store.with_section component section modules.stored in
    stands_still (lock_behind component changes now) (behind_stays component changes now) its_component number (locks_at component section modules)
    ∙ ap (λ l. is_some (lock_on l its_component number)) (left_all modules component section none)

-- ---- a data event

-- no lock is left
pub none_left_behind : (modules : Modules) (component : ℕ) (section : List ℕ) → is_some (data_event_by component section modules.stored) ≡ true → (with_section component section modules).locks ≡ []
none_left_behind modules component section is = by_event (data_event_by component section modules.stored) is
  where
    by_event : (event : Option Change) → is_some event ≡ true
        → map (lock_behind component (store.changes_by component section modules.stored) (store.with_section component section modules.stored)) (locks_left event modules.locks) ≡ []
    by_event None e = absurd cc
    by_event (Some event) e = refl

-- its own change tells of no lock
event_unlocked : (before after : Option ℕ) (event : Change) → data_event_between before after ≡ Some event → event.locked ≡ false
event_unlocked None after event e = absurd cc
event_unlocked (Some before) None event e = absurd cc
event_unlocked (Some before) (Some after) event e = by_test (eqb before after) e
  where
    by_test : (b : Bool) → cond b None (Some (data_event before after)) ≡ Some event → event.locked ≡ false
    by_test true e = absurd cc
    by_test false e = let same : data_event before after ≡ event = cc in ap (λ (change : Change). change.locked) (sym same)

abbrev IsUnlocked : Change → Type 0
IsUnlocked change = change.locked ≡ false

pub all_unlocked : (modules : Modules) (component : ℕ) (section : List ℕ) → is_some (data_event_by component section modules.stored) ≡ true → All IsUnlocked (changes_by component section modules)
all_unlocked modules component section is = by_event (data_event_by component section modules.stored) refl is
  where
    found : List Change
    found = store.changes_by component section modules.stored

    by_event : (event : Option Change) → data_event_by component section modules.stored ≡ event → is_some event ≡ true
        → All IsUnlocked (option_to_list event ++ map (change_told component (locks_left event modules.locks)) found)
    by_event None told e = absurd cc
    by_event (Some event) told e =
        All-cons IsUnlocked event (map (change_told component []) found)
        (event_unlocked (event_id modules.stored) (event_id (store.with_section component section modules.stored)) event told)
        (All-map IsUnlocked (change_told component []) found (λ k d low. refl))

-- ---- another lock

with_stays : (component other : ℕ) (now : Option KeptModule) → Stays (lock_with component other now)
with_stays component other now its_component number lock =
    elim (is_lock_on component other lock && not (is_some lock.kept))
    as (λ b. is_lock_on its_component number (cond b (with_bytes now lock) lock) ≡ is_lock_on its_component number lock)
    [ true ↦ refl | false ↦ refl ]

with_keeps : (component other : ℕ) (now : Option KeptModule) → Keeps (lock_with component other now)
with_keeps component other now lock e = by_kept (is_lock_on component other lock) lock.kept e
  where
    by_kept : (b : Bool) (kept : Option KeptModule) → is_some kept ≡ true → cond (b && not (is_some kept)) (with_bytes now lock) lock ≡ lock
    by_kept b None e = absurd cc
    by_kept true (Some k) e = refl
    by_kept false (Some k) e = refl

-- one more behind the others
kept_before : (locks more : List Lock) (component number : ℕ) (kept : KeptModule) → kept_on locks component number ≡ Some kept → kept_on (locks ++ more) component number ≡ Some kept
kept_before locks more component number kept e =
    ap (λ o. option_and_then (λ (l : Lock). l.kept) o) (find-append (is_lock_on component number) locks more)
    ∙ first (lock_on locks component number) (lock_on more component number) e
  where
    first : (o p : Option Lock) → option_and_then (λ (l : Lock). l.kept) o ≡ Some kept → option_and_then (λ (l : Lock). l.kept) (option_or o p) ≡ Some kept
    first None p e = absurd cc
    first (Some lock) p e = e

locked_kept : (component other : ℕ) (now : Option KeptModule) (locks : List Lock) (its_component number : ℕ) (kept : KeptModule) → kept_on locks its_component number ≡ Some kept
    → kept_on (locks_with component other now locks) its_component number ≡ Some kept
locked_kept component other now locks its_component number kept e =
    elim (is_some (lock_on locks component other))
    as (λ b. kept_on (cond b (map (lock_with component other now) locks) (locks ++ record { component = component; «module» = other; kept = now } ∷ [])) its_component number ≡ Some kept) [
      | true ↦ kept_stays (lock_with component other now) (with_stays component other now) (with_keeps component other now) its_component number kept locks e
      | false ↦ kept_before locks (record { component = component; «module» = other; kept = now } ∷ []) its_component number kept e
    ]

pub kept_locked : (answer : LockAnswer) (component other : ℕ) (now : Option KeptModule) (locks : List Lock) (its_component number : ℕ) (kept : KeptModule) → kept_on locks its_component number ≡ Some kept
    → kept_on (locks_behind answer component other now locks) its_component number ≡ Some kept
kept_locked answers.NoEntry component other now locks its_component number kept e = e
kept_locked answers.Full component other now locks its_component number kept e = e
kept_locked answers.Had component other now locks its_component number kept e = e
kept_locked answers.Kept component other now locks its_component number kept e = locked_kept component other now locks its_component number kept e
kept_locked answers.Wanted component other now locks its_component number kept e = locked_kept component other now locks its_component number kept e

-- a lock that stands stays
locked_stands : (component other : ℕ) (now : Option KeptModule) (locks : List Lock) (its_component number : ℕ) → is_some (lock_on locks its_component number) ≡ true
    → is_some (lock_on (locks_with component other now locks) its_component number) ≡ true
locked_stands component other now locks its_component number e =
    elim (is_some (lock_on locks component other))
    as (λ b. is_some (lock_on (cond b (map (lock_with component other now) locks) (locks ++ record { component = component; «module» = other; kept = now } ∷ [])) its_component number) ≡ true) [
      | true ↦ stands_still (lock_with component other now) (with_stays component other now) its_component number locks ∙ e
      | false ↦ ap (λ (o : Option Lock). is_some o) (find-append (is_lock_on its_component number) locks (record { component = component; «module» = other; kept = now } ∷ []))
          ∙ first (lock_on locks its_component number) _ e
    ]
  where
    first : (o p : Option Lock) → is_some o ≡ true → is_some (option_or o p) ≡ true
    first None p e = absurd cc
    first (Some lock) p e = refl

pub lock_stands : (answer : LockAnswer) (component other : ℕ) (now : Option KeptModule) (locks : List Lock) (its_component number : ℕ) → is_some (lock_on locks its_component number) ≡ true
    → is_some (lock_on (locks_behind answer component other now locks) its_component number) ≡ true
lock_stands answers.NoEntry component other now locks its_component number e = e
lock_stands answers.Full component other now locks its_component number e = e
lock_stands answers.Had component other now locks its_component number e = e
lock_stands answers.Kept component other now locks its_component number e = locked_stands component other now locks its_component number e
lock_stands answers.Wanted component other now locks its_component number e = locked_stands component other now locks its_component number e

-- A module that wasn't kept isn't kept behind either, or it is the one that is locked, and what there is of it is kept.
module _ (component other : ℕ) (now : Option KeptModule) (its_component number : ℕ) (P : Option KeptModule → Type 0) (without : P None)
    (within : component ≡ its_component → other ≡ number → P now) where
  map_holds : (locks : List Lock) → kept_on locks its_component number ≡ None → P (kept_on (map (lock_with component other now) locks) its_component number)
  map_holds [] e = without
  map_holds (lock ∷ locks) e =
      subst (λ b. P (option_and_then (λ (l : Lock). l.kept) (cond b (Some (lock_with component other now lock)) (find (is_lock_on its_component number) (map (lock_with component other now) locks)))))
      (sym (with_stays component other now its_component number lock))
      (by_test (is_lock_on its_component number lock) refl (map_holds locks) e)
    where
      same : (is_lock_on its_component number lock ≡ true) → (is_lock_on component other lock ≡ true) → P now
      same here there =
          let its = and_parts (eqb lock.component its_component) (eqb lock.«module» number) here in
          let that = and_parts (eqb lock.component component) (eqb lock.«module» other) there in
          within (sym (eqb-true lock.component component that.0) ∙ eqb-true lock.component its_component its.0)
          (sym (eqb-true lock.«module» other that.1) ∙ eqb-true lock.«module» number its.1)

      on_it : (kept : Option KeptModule) → kept ≡ lock.kept → kept ≡ None → is_lock_on its_component number lock ≡ true → (b : Bool) → is_lock_on component other lock ≡ b
          → P (cond (b && not (is_some kept)) (with_bytes now lock) lock).kept
      on_it (Some kept) its none here b there = absurd cc
      on_it None its none here true there = same here there
      on_it None its none here false there = subst P its without

      by_test : (b : Bool) → is_lock_on its_component number lock ≡ b → (kept_on locks its_component number ≡ None → P (kept_on (map (lock_with component other now) locks) its_component number))
          → option_and_then (λ (l : Lock). l.kept) (cond b (Some lock) (find (is_lock_on its_component number) locks)) ≡ None
          → P (option_and_then (λ (l : Lock). l.kept) (cond b (Some (lock_with component other now lock)) (find (is_lock_on its_component number) (map (lock_with component other now) locks))))
      by_test true here behind h = on_it lock.kept refl h here (is_lock_on component other lock) refl
      by_test false here behind h = behind h

  more_holds : (locks : List Lock) → kept_on locks its_component number ≡ None
      → P (kept_on (locks ++ record { component = component; «module» = other; kept = now } ∷ []) its_component number)
  more_holds locks e =
      subst (λ (o : Option Lock). P (option_and_then (λ (l : Lock). l.kept) o)) (sym (find-append (is_lock_on its_component number) locks (record { component = component; «module» = other; kept = now } ∷ [])))
      (first (lock_on locks its_component number) e)
    where
      new : (b : Bool) → (eqb component its_component && eqb other number) ≡ b
          → P (option_and_then (λ (l : Lock). l.kept) (cond b (Some (record { component = component; «module» = other; kept = now })) None))
      new false on = without
      new true on =
          let its = and_parts (eqb component its_component) (eqb other number) on in
          within (eqb-true component its_component its.0) (eqb-true other number its.1)

      first : (o : Option Lock) → option_and_then (λ (l : Lock). l.kept) o ≡ None
          → P (option_and_then (λ (l : Lock). l.kept) (option_or o (cond (eqb component its_component && eqb other number) (Some (record { component = component; «module» = other; kept = now })) None)))
      first None e = new (eqb component its_component && eqb other number) refl
      first (Some lock) e = subst P (sym e) without

  with_holds : (locks : List Lock) → kept_on locks its_component number ≡ None → P (kept_on (locks_with component other now locks) its_component number)
  with_holds locks e =
      elim (is_some (lock_on locks component other))
      as (λ b. P (kept_on (cond b (map (lock_with component other now) locks) (locks ++ record { component = component; «module» = other; kept = now } ∷ [])) its_component number))
      [ true ↦ map_holds locks e | false ↦ more_holds locks e ]

  pub locked_holds : (answer : LockAnswer) (locks : List Lock) → kept_on locks its_component number ≡ None → P (kept_on (locks_behind answer component other now locks) its_component number)
  locked_holds answers.NoEntry locks e = subst P (sym e) without
  locked_holds answers.Full locks e = subst P (sym e) without
  locked_holds answers.Had locks e = subst P (sym e) without
  locked_holds answers.Kept locks e = with_holds locks e
  locked_holds answers.Wanted locks e = with_holds locks e

-- A lock changes no look-up.
pub look_locked : (modules : Modules) (component number : ℕ) (path : Path) → look_up (with_lock component number modules) path ≡ look_up modules path
unfolding with_lock
look_locked modules component number path = by_kept (kept_on modules.locks path.component path.«module») refl
  where
    now : Option KeptModule
    now = kept_now modules.stored component number

    answer : LockAnswer
    answer = lock_answer component number modules

    seen : Option KeptModule → Resource
    seen o = option_map_or (λ kept. look_kept kept path.name) o (look modules.stored path)

    there : (o : Option KeptModule) → kept_now modules.stored path.component path.«module» ≡ o → seen o ≡ look modules.stored path
    there None is = refl
    there (Some kept) is = sym (held_look modules.stored path kept is)

    is_there : component ≡ path.component → number ≡ path.«module» → seen now ≡ look modules.stored path
    is_there here it =
        ap seen (ap (λ c. kept_now modules.stored c number) here ∙ ap (λ n. kept_now modules.stored path.component n) it)
        ∙ there (kept_now modules.stored path.component path.«module») refl

    by_kept : (o : Option KeptModule) → kept_on modules.locks path.component path.«module» ≡ o
        → seen (kept_on (locks_behind answer component number now modules.locks) path.component path.«module») ≡ seen (kept_on modules.locks path.component path.«module»)
    by_kept (Some kept) is = ap seen (kept_locked answer component number now modules.locks path.component path.«module» kept is ∙ sym is)
    by_kept None is =
        locked_holds component number now path.component path.«module» (λ o. seen o ≡ look modules.stored path) refl is_there answer modules.locks is
        ∙ ap seen (sym is)

-- ---- a lock that goes

pub kept_unlocked : (locks : List Lock) (component other its_component number : ℕ) → ((component ≡ its_component) × (other ≡ number) → ⊥)
    → kept_on (filter (λ lock. not (is_lock_on component other lock)) locks) its_component number ≡ kept_on locks its_component number
kept_unlocked locks component other its_component number differ =
    ap (λ o. option_and_then (λ (l : Lock). l.kept) o)
    (found_left (is_lock_on its_component number) (λ lock. not (is_lock_on component other lock)) stays locks)
  where
    stays : (lock : Lock) → is_lock_on its_component number lock ≡ true → not (is_lock_on component other lock) ≡ true
    stays lock on = by_test (is_lock_on component other lock) refl
      where
        by_test : (b : Bool) → is_lock_on component other lock ≡ b → not b ≡ true
        by_test false is = refl
        by_test true is =
            let its = and_parts (eqb lock.component its_component) (eqb lock.«module» number) on in
            let that = and_parts (eqb lock.component component) (eqb lock.«module» other) is in
            absurd (differ (
              sym (eqb-true lock.component component that.0) ∙ eqb-true lock.component its_component its.0,
              sym (eqb-true lock.«module» other that.1) ∙ eqb-true lock.«module» number its.1,
            ))

-- ---- how many locks stand

few_locked : (component number : ℕ) (now : Option KeptModule) (locks : List Lock) → (is_some (lock_on locks component number) ≡ false → has_place locks ≡ true) → length locks ≤ most_locks
    → length (locks_with component number now locks) ≤ most_locks
few_locked component number now locks place few = by_test (is_some (lock_on locks component number)) place
  where
    by_test : (b : Bool) → (b ≡ false → has_place locks ≡ true)
        → length (cond b (map (lock_with component number now) locks) (locks ++ record { component = component; «module» = number; kept = now } ∷ [])) ≤ most_locks
    by_test true place = let same = length-map locks (lock_with component number now) in omega arith
    by_test false place =
        let low = ltb-true (length locks) most_locks (place refl) in
        let new : Lock = record { component = component; «module» = number; kept = now } in
        let more = length-append locks (new ∷ []) in
        omega arith

-- where no lock stands on the module, one is added only where there is a place
new_placed : (place : Bool) (now : Option KeptModule) (answer : LockAnswer) → answer_by place None now ≡ answer → (answer ≡ answers.Kept) ⊎ (answer ≡ answers.Wanted) → place ≡ true
new_placed true now answer is added = refl
new_placed false None answer is (inl e) = absurd cc
new_placed false None answer is (inr e) = absurd cc
new_placed false (Some kept) answer is (inl e) = absurd cc
new_placed false (Some kept) answer is (inr e) = absurd cc

placed : (there : Presence) (place : Bool) (lock : Option Lock) (now : Option KeptModule) (answer : LockAnswer) → answer_at there place lock now ≡ answer → (answer ≡ answers.Kept) ⊎ (answer ≡ answers.Wanted)
    → is_some lock ≡ false → place ≡ true
placed there place (Some lock) now answer is added none = absurd cc
placed Absent place None now answer is (inl e) none = absurd cc
placed Absent place None now answer is (inr e) none = absurd cc
placed Announced place None now answer is added none = new_placed place now answer is added
placed (Held is_entity bytes) place None now answer is added none = new_placed place now answer is added

pub few_behind : (modules : Modules) (component number : ℕ) → length modules.locks ≤ most_locks → length (with_lock component number modules).locks ≤ most_locks
unfolding with_lock lock_answer
few_behind modules component number few =
    by_answer (answer_at there (has_place modules.locks) (lock_on modules.locks component number) now) refl
  where
    there : Presence
    there = resources.presence modules.stored component number

    now : Option KeptModule
    now = kept_now modules.stored component number

    by_answer : (answer : LockAnswer) → answer_at there (has_place modules.locks) (lock_on modules.locks component number) now ≡ answer
        → length (locks_behind answer component number now modules.locks) ≤ most_locks
    by_answer answers.NoEntry is = few
    by_answer answers.Full is = few
    by_answer answers.Had is = few
    by_answer answers.Kept is =
        few_locked component number now modules.locks (placed there (has_place modules.locks) (lock_on modules.locks component number) now answers.Kept is (inl refl)) few
    by_answer answers.Wanted is =
        few_locked component number now modules.locks (placed there (has_place modules.locks) (lock_on modules.locks component number) now answers.Wanted is (inr refl)) few
