-- What is had of the locks stands for them behind each step.
use Rattle.std.proofs.Common.{◌≡◌, ◌≢◌, ◌∙◌, ℕ, Bool, true, false, cond, eqb, List, [], ◌∷◌, ◌++◌, length, map, Option, Some, None, refl, sym, ap, ap₂, subst, inl, inr}
use Rattle.std.specs.Prelude.{All, ◌⊎◌, ◌&&◌, not, nat_lt, find, filter, is_some, option_map, option_and_then}
use Rattle.std.specs.Option.{option_map_or}
use Rattle.std.proofs.lemmas.Bool.{and_parts, eqb-true}
use Rattle.std.proofs.lemmas.Bool.Decides.{eqb_tells}
use Rattle.std.proofs.lemmas.List.{length-map, map-append}
use Rattle.std.proofs.lemmas.List.Elements.{All-filter, All-map, All-nil, All-push, All-weaker}
use Rattle.carousel_blocks.specs.declared.changes.Change.{Change}
use Rattle.carousel_blocks.specs.DataEvents.{data_event_between}
use Rattle.multipart_entities.specs.declared.paths.Path.{Path}
use Rattle.psi_tables.specs.declared.components.Component.{Component}
use Rattle.module_store.specs.Copies.{KeptModule}
use Rattle.module_store.specs.DataEvents.{data_event_by, event_id}
use Rattle.module_store.specs.Resources.{Presence, look, presence, start_component}
use Rattle.module_store.specs.Resources as resources
use Rattle.module_store.specs.Resources.Presence.{Absent, Announced, Held}
use Rattle.module_store.specs.Standing.{StoreState}
use Rattle.module_store.specs.Standing as store_state
use Rattle.module_store.specs.Store.{Stored}
use Rattle.module_store.specs.Store as store
use Rattle.module_locks.specs.declared.answers.LockAnswer.{LockAnswer}
use Rattle.module_locks.specs.declared.answers.LockAnswer.TheVariants as answers
use Rattle.module_locks.specs.declared.locks.HeldLock.{HeldLock}
use Rattle.module_locks.specs.declared.locks.Keeping.{Keeping}
use Rattle.module_locks.specs.declared.locks.Keeping.TheVariants.{Wanted, InStore, Copied}
use Rattle.module_locks.specs.Locks.{Lock, Modules, answer_at, answer_by, change_told, delivers, has_place, is_delivery, is_lock_on, is_wanted, kept_now, kept_of, kept_on, lock_answer, lock_behind, lock_on, lock_with, locks_behind, locks_left, locks_with, look_kept, look_up, module_changes_by, most_locks, start_path, start_path_as, with_lock, with_map, with_section, without_lock}
use Rattle.module_locks.specs.Standing.{IsHeld, IsHeldBy, ModulesState, StandsFor, kept_by, lock_of}
use Rattle.module_locks.specs.devices.Keeping.{AreOwn, IsOwnBy, answer_new, copy_in, copy_on, has_room, holding, is_held_on, is_wanted_in, is_wanting, new_lock, told_with, wanting_on, with_delivery, with_store}
use Rattle.module_locks.proofs.ListLaws.{any-made, any-same, filter-made, find-made, found_has, found_passes, map-map, map-same}
use Rattle.module_locks.proofs.HeldLaws.{delivered_kept, held_look, held_start}

-- a lock of these parts
abbrev held_lock : ℕ → ℕ → Keeping → HeldLock
held_lock component number keeping = record { component = component; «module» = number; keeping = keeping }

abbrev spec_lock : ℕ → ℕ → Option KeptModule → Lock
spec_lock component number kept = record { component = component; «module» = number; kept = kept }

-- ---- copies

own_same : (before now : Stored) (component number : ℕ) (keeping : Keeping) → IsOwnBy keeping → kept_by before component number keeping ≡ kept_by now component number keeping
own_same before now component number Wanted own = refl
own_same before now component number InStore own = absurd own
own_same before now component number (Copied kept) own = refl

own_held : (stored : Stored) (component number : ℕ) (keeping : Keeping) → IsOwnBy keeping → IsHeldBy stored component number keeping
own_held stored component number Wanted own = tt
own_held stored component number InStore own = absurd own
own_held stored component number (Copied kept) own = tt

-- copies stay, whatever becomes of the store
pub own_stands : (locks : List HeldLock) (modules : Modules) (now : Stored) → modules.locks ≡ map (lock_of modules.stored) locks → AreOwn locks → modules.locks ≡ map (lock_of now) locks
own_stands locks modules now are own =
    are ∙ map-same (λ (held : HeldLock). IsOwnBy held.keeping) (lock_of modules.stored) (lock_of now)
    (λ held its. ap (λ k. spec_lock held.component held.«module» k) (own_same modules.stored now held.component held.«module» held.keeping its)) locks own

pub own_are_held : (locks : List HeldLock) (now : Stored) → AreOwn locks → All (IsHeld now) locks
own_are_held locks now own =
    All-weaker (λ (held : HeldLock). IsOwnBy held.keeping) (IsHeld now) (λ held its. own_held now held.component held.«module» held.keeping its) locks own

-- another component map
pub stands_mapped : (mid : ModulesState) (new : StoreState) (modules : Modules) (components : List Component) → StandsFor mid modules → AreOwn mid.locks
    → store_state.StandsFor new (store.with_map components modules.stored) → StandsFor (record { store = new; locks = mid.locks }) (with_map components modules)
stands_mapped mid new modules components stands own is = record {
  store = is;
  locks = own_stands mid.locks modules (store.with_map components modules.stored) stands.locks own;
  held = own_are_held mid.locks (store.with_map components modules.stored) own;
}

-- ---- a section

record IsBehind (component : ℕ) (changes : List Change) (was now : Stored) (held : HeldLock) : Type 0 where
  same : lock_behind component changes now (lock_of was held) ≡ lock_of now (with_delivery component changes held)
  held_now : IsHeld now (with_delivery component changes held)

module _ (component : ℕ) (changes : List Change) (was now : Stored) (delivered : (number : ℕ) → delivers number changes ≡ true → is_some (kept_now now component number) ≡ true) where
  wanted_behind : (its number : ℕ) (told : Bool) → delivers number changes ≡ told → ((eqb its component ≡ true) × (its ≡ component)) ⊎ ((eqb its component ≡ false) × (its ≢ component))
      → IsBehind component changes was now (held_lock its number Wanted)
  wanted_behind its number told is (inr differ) = record {
    same = rw differ.0 refl;
    held_now = rw differ.0 tt;
  }
  wanted_behind its number false is (inl same) = record {
    same = rw (same.0, is) refl;
    held_now = rw (same.0, is) tt;
  }
  wanted_behind its number true is (inl same) = record {
    same = rw (same.0, is) (ap (λ c. spec_lock its number (kept_now now c number)) (sym same.1));
    held_now = rw (same.0, is) (subst (λ c. is_some (kept_now now c number) ≡ true) (sym same.1) (delivered number is));
  }

  copied_behind : (its number : ℕ) (kept : KeptModule) (here : Bool) → eqb its component ≡ here → IsBehind component changes was now (held_lock its number (Copied kept))
  copied_behind its number kept true is = record { same = rw is refl; held_now = rw is tt }
  copied_behind its number kept false is = record { same = rw is refl; held_now = rw is tt }

  behind_by : (its number : ℕ) (keeping : Keeping) → IsOwnBy keeping → IsBehind component changes was now (held_lock its number keeping)
  behind_by its number Wanted own = wanted_behind its number (delivers number changes) refl (eqb_tells its component)
  behind_by its number InStore own = absurd own
  behind_by its number (Copied kept) own = copied_behind its number kept (eqb its component) refl

  behind : (held : HeldLock) → IsOwnBy held.keeping → IsBehind component changes was now held
  behind held own = behind_by held.component held.«module» held.keeping own

-- the modules behind a section, where these locks are left
abbrev behind_section : ℕ → List ℕ → Modules → List Lock → Modules
behind_section component section modules locks =
    let now = store.with_section component section modules.stored in
    record { stored = now; locks = map (lock_behind component (store.changes_by component section modules.stored) now) locks }

pub stands_behind : (mid : ModulesState) (new : StoreState) (modules : Modules) (component : ℕ) (section : List ℕ) (changes : List Change) → StandsFor mid modules → AreOwn mid.locks
    → changes ≡ store.changes_by component section modules.stored
    → store_state.StandsFor new (store.with_section component section modules.stored)
    → StandsFor (record { store = new; locks = map (with_delivery component changes) mid.locks }) (behind_section component section modules modules.locks)
stands_behind mid new modules component section changes stands own told is =
    let now = store.with_section component section modules.stored in
    let found = store.changes_by component section modules.stored in
    let delivered = λ (number : ℕ) (e : delivers number found ≡ true). delivered_kept modules.stored component section number e in
    let each = behind component found modules.stored now delivered in
    let their = λ (held : HeldLock). IsOwnBy held.keeping in
    subst (λ (l : List Change). StandsFor (let s : ModulesState = record { store = new; locks = map (with_delivery component l) mid.locks } in s) (behind_section component section modules modules.locks)) (sym told)
    (record {
      store = is;
      locks = ap (map (lock_behind component found now)) stands.locks
          ∙ map-map (lock_behind component found now) (lock_of modules.stored) mid.locks
          ∙ map-same their (λ held. lock_behind component found now (lock_of modules.stored held)) (λ held. lock_of now (with_delivery component found held)) (λ held its. (each held its).same) mid.locks own
          ∙ sym (map-map (lock_of now) (with_delivery component found) mid.locks);
      held = All-map (IsHeld now) (with_delivery component found) mid.locks
          (All-weaker their (λ held. IsHeld now (with_delivery component found held)) (λ held its. (each held its).held_now) mid.locks own);
    })

-- ---- what is told of it

kept_wanting : (stored : Stored) (component number : ℕ) (keeping : Keeping) → IsHeldBy stored component number keeping → is_some (kept_by stored component number keeping) ≡ not (is_wanting keeping)
kept_wanting stored component number Wanted held = refl
kept_wanting stored component number InStore held = held
kept_wanting stored component number (Copied kept) held = refl

not-not : (b : Bool) → b ≡ not (not b)
not-not true = refl
not-not false = refl

wanting_is : (stored : Stored) (component number : ℕ) (keeping : Keeping) → IsHeldBy stored component number keeping → is_wanting keeping ≡ not (is_some (kept_by stored component number keeping))
wanting_is stored component number keeping held = not-not (is_wanting keeping) ∙ sym (ap (λ b. not b) (kept_wanting stored component number keeping held))

and_comm : (a b : Bool) → (a && b) ≡ (b && a)
and_comm true true = refl
and_comm true false = refl
and_comm false true = refl
and_comm false false = refl

wanted_same : (state : ModulesState) (modules : Modules) (component number : ℕ) → StandsFor state modules → is_wanted_in state.locks component number ≡ is_wanted component number modules.locks
wanted_same state modules component number stands =
    any-same (IsHeld modules.stored) (λ held. is_held_on component number held && is_wanting held.keeping) (λ held. is_lock_on component number (lock_of modules.stored held) && not (is_some (lock_of modules.stored held).kept))
    (λ held its. ap (λ b. is_held_on component number held && b) (wanting_is modules.stored held.component held.«module» held.keeping its)) state.locks stands.held
    ∙ sym (any-made (λ lock. is_lock_on component number lock && not (is_some lock.kept)) (lock_of modules.stored) state.locks)
    ∙ ap (λ l. is_wanted component number l) (sym stands.locks)

told_same : (state : ModulesState) (modules : Modules) (component : ℕ) → StandsFor state modules → (change : Change) → told_with component state.locks change ≡ change_told component modules.locks change
told_same state modules component stands change =
    ap (λ (b : Bool). let told : Change = record change { locked = b } in told)
    (ap (λ b. is_delivery change && b) (wanted_same state modules component change.«module» stands) ∙ and_comm (is_delivery change) (is_wanted component change.«module» modules.locks))

map-alike : {X Y : Type 0} (f g : X → Y) → ((x : X) → f x ≡ g x) → (xs : List X) → map f xs ≡ map g xs
map-alike f g same [] = refl
map-alike {X} {Y} f g same (x ∷ xs) = ap (λ (y : Y). y ∷ map f xs) (same x) ∙ ap (λ (l : List Y). g x ∷ l) (map-alike f g same xs)

pub changes_told : (state : ModulesState) (modules : Modules) (component : ℕ) (section : List ℕ) (found : List Change) → StandsFor state modules → found ≡ store.changes_by component section modules.stored
    → map (told_with component state.locks) found ≡ map (change_told component modules.locks) (store.changes_by component section modules.stored)
changes_told state modules component section found stands is =
    map-alike (told_with component state.locks) (change_told component modules.locks) (told_same state modules component stands) found
    ∙ ap (map (change_told component modules.locks)) is

-- what is told with whether it is locked delivers the same
pub delivery_told : (component its : ℕ) (locks : List HeldLock) (found : List Change) (held : HeldLock) → with_delivery component (map (told_with its locks) found) held ≡ with_delivery component found held
delivery_told component its locks found held =
    ap (λ (b : Bool). cond (eqb held.component component && (is_wanting held.keeping && b)) (held_lock held.component held.«module» InStore) held)
    (any-made (λ (change : Change). eqb change.«module» held.«module» && is_delivery change) (told_with its locks) found)

pub deliveries_told : (component its : ℕ) (locks : List HeldLock) (found : List Change) (all : List HeldLock) → map (with_delivery component (map (told_with its locks) found)) all ≡ map (with_delivery component found) all
deliveries_told component its locks found all =
    map-alike (with_delivery component (map (told_with its locks) found)) (with_delivery component found) (delivery_told component its locks found) all

-- ---- a data event

-- what is had of the locks then
abbrev held_left : Option Change → List HeldLock → List HeldLock
held_left event locks = cond (is_some event) [] locks

abbrev left_state : Option Change → ModulesState → ModulesState
left_state event state = record { store = state.store; locks = held_left event state.locks }

abbrev left_modules : Option Change → Modules → Modules
left_modules event modules = record { stored = modules.stored; locks = locks_left event modules.locks }

left_stands : (state : ModulesState) (modules : Modules) (event : Option Change) → StandsFor state modules → StandsFor (left_state event state) (left_modules event modules)
left_stands state modules None stands = stands
left_stands state modules (Some event) stands = record { store = stands.store; locks = refl; held = All-nil (IsHeld modules.stored) }

left_own : (event : Option Change) (locks : List HeldLock) → AreOwn locks → AreOwn (held_left event locks)
left_own None locks own = own
left_own (Some event) locks own = All-nil (λ (held : HeldLock). IsOwnBy held.keeping)

-- ---- the whole of a step, by what its parts say

module _ (mid : ModulesState) (store_before store_after : StoreState) (locks : List HeldLock) (modules : Modules)
    (viewed : (let s : ModulesState = record { store = store_before; locks = locks } in s) ≡ mid) (stands : StandsFor mid modules) (own : AreOwn mid.locks) where
  before : store_state.StandsFor store_before modules.stored
  before = subst (λ (s : ModulesState). store_state.StandsFor s.store modules.stored) (sym viewed) stands.store

  pub mapped : (components : List Component) → ((stored : Stored) → store_state.StandsFor store_before stored → store_state.StandsFor store_after (store.with_map components stored))
      → StandsFor (record { store = store_after; locks = locks }) (with_map components modules)
  mapped components maps =
      subst (λ (s : ModulesState). StandsFor (let t : ModulesState = record { store = store_after; locks = s.locks } in t) (with_map components modules)) (sym viewed)
      (stands_mapped mid store_after modules components stands own (maps modules.stored before))

  -- the data event, by the data_event_ids before and behind
  pub fed_event : (component : ℕ) (section : List ℕ) (was is : Option ℕ) (event : Option Change) → event ≡ data_event_between was is
      → ((stored : Stored) → store_state.StandsFor store_before stored → was ≡ event_id stored) → ((stored : Stored) → store_state.StandsFor store_after stored → is ≡ event_id stored)
      → ((stored : Stored) → store_state.StandsFor store_before stored → store_state.StandsFor store_after (store.with_section component section stored))
      → event ≡ data_event_by component section modules.stored
  fed_event component section was is event between was_is is_now takes =
      between ∙ ap₂ data_event_between (was_is modules.stored before) (is_now (store.with_section component section modules.stored) (takes modules.stored before))

  module _ (component : ℕ) (section : List ℕ) (found told : List Change) (event : Option Change) (left : List HeldLock) (left_is : left ≡ held_left event locks)
      (event_is : event ≡ data_event_by component section modules.stored) (is_told : told ≡ map (told_with component left) found)
      (changes_are : (stored : Stored) → store_state.StandsFor store_before stored → found ≡ store.changes_by component section stored) where
    left_now : left ≡ held_left event mid.locks
    left_now = left_is ∙ ap (λ (s : ModulesState). held_left event s.locks) viewed

    pub fed_changes : told ≡ module_changes_by component section modules
    fed_changes =
        is_told ∙ ap (λ (l : List HeldLock). map (told_with component l) found) left_now
        ∙ changes_told (left_state event mid) (left_modules event modules) component section found (left_stands mid modules event stands) (changes_are modules.stored before)
        ∙ ap (λ (o : Option Change). map (change_told component (locks_left o modules.locks)) (store.changes_by component section modules.stored)) event_is

    pub fed : (after : ModulesState) → ((stored : Stored) → store_state.StandsFor store_before stored → store_state.StandsFor store_after (store.with_section component section stored))
        → after.store ≡ store_after → after.locks ≡ map (with_delivery component told) left → StandsFor after (with_section component section modules)
    fed after takes same_store new_locks =
        let behind_left = stands_behind (left_state event mid) store_after (left_modules event modules) component section found (left_stands mid modules event stands) (left_own event mid.locks own)
        (changes_are modules.stored before) (takes modules.stored before) in
        let behind_it = subst (λ (o : Option Change). StandsFor (let t : ModulesState = record { store = store_after; locks = map (with_delivery component found) (held_left event mid.locks) } in t)
        (behind_section component section modules (locks_left o modules.locks))) event_is behind_left in
        let locks_are : after.locks ≡ map (with_delivery component found) (held_left event mid.locks)
        = new_locks ∙ ap (λ (l : List Change). map (with_delivery component l) left) is_told ∙ deliveries_told component component left found left
        ∙ ap (map (with_delivery component found)) left_now in
        subst (λ (x : StoreState). StandsFor (let t : ModulesState = record { store = x; locks = after.locks } in t) (with_section component section modules)) (sym same_store)
        (subst (λ (l : List HeldLock). StandsFor (let t : ModulesState = record { store = store_after; locks = l } in t) (with_section component section modules)) (sym locks_are) behind_it)

-- ---- a look-up

lock_is : (state : ModulesState) (modules : Modules) (component number : ℕ) → StandsFor state modules → lock_on modules.locks component number ≡ option_map (lock_of modules.stored) (find (is_held_on component number) state.locks)
lock_is state modules component number stands =
    ap (λ l. lock_on l component number) stands.locks ∙ find-made (is_lock_on component number) (lock_of modules.stored) state.locks

pub stood : (state : ModulesState) (modules : Modules) (component number : ℕ) → StandsFor state modules → is_some (wanting_on state.locks component number) ≡ is_some (lock_on modules.locks component number)
stood state modules component number stands = alike (find (is_held_on component number) state.locks) ∙ ap (λ (o : Option Lock). is_some o) (sym (lock_is state modules component number stands))
  where
    alike : (o : Option HeldLock) → is_some (option_map (λ held. is_wanting held.keeping) o) ≡ is_some (option_map (lock_of modules.stored) o)
    alike None = refl
    alike (Some held) = refl

-- of a module with a copy
pub kept_copied : (state : ModulesState) (modules : Modules) (component number : ℕ) (kept : KeptModule) → StandsFor state modules → copy_on state.locks component number ≡ Some kept
    → kept_on modules.locks component number ≡ Some kept
kept_copied state modules component number kept stands copied =
    ap (λ (o : Option Lock). option_and_then (λ (l : Lock). l.kept) o) (lock_is state modules component number stands)
    ∙ by_lock (find (is_held_on component number) state.locks) copied
  where
    by_keeping : (its it : ℕ) (keeping : Keeping) → copy_in keeping ≡ Some kept → kept_by modules.stored its it keeping ≡ Some kept
    by_keeping its it Wanted e = absurd cc
    by_keeping its it InStore e = absurd cc
    by_keeping its it (Copied copy) e = e

    by_lock : (o : Option HeldLock) → option_and_then (λ (held : HeldLock). copy_in held.keeping) o ≡ Some kept
        → option_and_then (λ (l : Lock). l.kept) (option_map (lock_of modules.stored) o) ≡ Some kept
    by_lock None e = absurd cc
    by_lock (Some held) e = by_keeping held.component held.«module» held.keeping e

-- of one without a copy nothing is kept, or what there is to be kept
pub kept_stored : (state : ModulesState) (modules : Modules) (component number : ℕ) (P : Option KeptModule → Type 0) → StandsFor state modules → copy_on state.locks component number ≡ None
    → P None → P (kept_now modules.stored component number) → P (kept_on modules.locks component number)
kept_stored state modules component number P stands none without within =
    subst (λ (o : Option Lock). P (option_and_then (λ (l : Lock). l.kept) o)) (sym (lock_is state modules component number stands))
    (by_lock (find (is_held_on component number) state.locks) refl none)
  where
    by_keeping : (its it : ℕ) → its ≡ component → it ≡ number → (keeping : Keeping) → copy_in keeping ≡ None → P (kept_by modules.stored its it keeping)
    by_keeping its it here there Wanted e = without
    by_keeping its it here there InStore e =
        subst P (ap (λ c. kept_now modules.stored c number) (sym here) ∙ ap (λ n. kept_now modules.stored its n) (sym there)) within
    by_keeping its it here there (Copied copy) e = absurd cc

    by_lock : (o : Option HeldLock) → find (is_held_on component number) state.locks ≡ o → option_and_then (λ (held : HeldLock). copy_in held.keeping) o ≡ None
        → P (option_and_then (λ (l : Lock). l.kept) (option_map (lock_of modules.stored) o))
    by_lock None is e = without
    by_lock (Some held) is e =
        let on = and_parts (eqb held.component component) (eqb held.«module» number) (found_passes (is_held_on component number) state.locks held is) in
        by_keeping held.component held.«module» (eqb-true held.component component on.0) (eqb-true held.«module» number on.1) held.keeping e

pub look_copy : (state : ModulesState) (modules : Modules) (path : Path) (kept : KeptModule) → StandsFor state modules → copy_on state.locks path.component path.«module» ≡ Some kept → look_up modules path ≡ look_kept kept path.name
look_copy state modules path kept stands copied =
    ap (λ (o : Option KeptModule). option_map_or (λ k. look_kept k path.name) o (look modules.stored path)) (kept_copied state modules path.component path.«module» kept stands copied)

pub look_store : (state : ModulesState) (modules : Modules) (path : Path) → StandsFor state modules → copy_on state.locks path.component path.«module» ≡ None → look_up modules path ≡ look modules.stored path
look_store state modules path stands none =
    kept_stored state modules path.component path.«module» (λ o. option_map_or (λ kept. look_kept kept path.name) o (look modules.stored path) ≡ look modules.stored path) stands none
    refl (by_kept (kept_now modules.stored path.component path.«module») refl)
  where
    by_kept : (o : Option KeptModule) → kept_now modules.stored path.component path.«module» ≡ o → option_map_or (λ kept. look_kept kept path.name) o (look modules.stored path) ≡ look modules.stored path
    by_kept None is = refl
    by_kept (Some kept) is = sym (held_look modules.stored path kept is)

-- ---- the start path

pub start_copy : (state : ModulesState) (modules : Modules) (kept : KeptModule) → StandsFor state modules → copy_on state.locks start_component 0 ≡ Some kept → start_path modules ≡ start_path_as kept.is_entity
start_copy state modules kept stands copied =
    ap (λ (o : Option KeptModule). option_map_or (λ k. start_path_as k.is_entity) o (resources.start_path modules.stored)) (kept_copied state modules start_component 0 kept stands copied)

pub start_store : (state : ModulesState) (modules : Modules) → StandsFor state modules → copy_on state.locks start_component 0 ≡ None → start_path modules ≡ resources.start_path modules.stored
start_store state modules stands none =
    kept_stored state modules start_component 0 (λ o. option_map_or (λ kept. start_path_as kept.is_entity) o (resources.start_path modules.stored) ≡ resources.start_path modules.stored) stands none
    refl (by_kept (kept_now modules.stored start_component 0) refl)
  where
    by_kept : (o : Option KeptModule) → kept_now modules.stored start_component 0 ≡ o → option_map_or (λ kept. start_path_as kept.is_entity) o (resources.start_path modules.stored) ≡ resources.start_path modules.stored
    by_kept None is = refl
    by_kept (Some kept) is = sym (held_start modules.stored kept is)

-- ---- a lock that goes

pub stands_unlocked : (state : ModulesState) (modules : Modules) (component number : ℕ) → StandsFor state modules
    → StandsFor (record { store = state.store; locks = filter (λ held. not (is_held_on component number held)) state.locks }) (without_lock component number modules)
stands_unlocked state modules component number stands = record {
  store = stands.store;
  locks = ap (filter (λ lock. not (is_lock_on component number lock))) stands.locks ∙ filter-made (λ lock. not (is_lock_on component number lock)) (lock_of modules.stored) state.locks;
  held = All-filter (λ held. not (is_held_on component number held)) (IsHeld modules.stored) state.locks stands.held;
}

-- ---- another lock

-- what there is to be kept, by whether the module is held
now_held : (delivery : Option ℕ) (there : Presence) (is_held : Bool) → Some is_held ≡ holding there → is_some (kept_of delivery there) ≡ is_held
now_held delivery Absent is_held e = absurd cc
now_held delivery Announced is_held e = let same : is_held ≡ false = cc in sym same
now_held delivery (Held is_entity bytes) is_held e = let same : is_held ≡ true = cc in sym same

answer_there : (there : Presence) (is_held : Bool) (place : Bool) (lock : Option Lock) (now : Option KeptModule) → Some is_held ≡ holding there → answer_at there place lock now ≡ answer_by place lock now
answer_there Absent is_held place lock now e = absurd cc
answer_there Announced is_held place lock now e = refl
answer_there (Held is_entity bytes) is_held place lock now e = refl

answer_fresh : (place : Bool) (now : Option KeptModule) (is_held : Bool) → is_some now ≡ is_held → answer_by place None now ≡ cond place (answer_new is_held) answers.Full
answer_fresh true None is_held e = ap answer_new e
answer_fresh false None is_held e = refl
answer_fresh true (Some kept) is_held e = ap answer_new e
answer_fresh false (Some kept) is_held e = refl

room_same : (state : ModulesState) (modules : Modules) → StandsFor state modules → has_place modules.locks ≡ has_room state.locks
room_same state modules stands = ap (λ n. nat_lt n most_locks) (ap (λ (l : List Lock). length l) stands.locks ∙ length-map state.locks (lock_of modules.stored))

-- a module that can't be locked
pub absent_answer : (component number : ℕ) (modules : Modules) → None ≡ holding (presence modules.stored component number) → lock_answer component number modules ≡ answers.NoEntry
unfolding lock_answer
absent_answer component number modules e = by_presence (presence modules.stored component number) e
  where
    by_presence : (there : Presence) → None ≡ holding there → answer_at there (has_place modules.locks) (lock_on modules.locks component number) (kept_now modules.stored component number) ≡ answers.NoEntry
    by_presence Absent e = refl
    by_presence Announced e = absurd cc
    by_presence (Held is_entity bytes) e = absurd cc

-- where the answer says so, nothing changes
pub same_with : (component number : ℕ) (modules : Modules) (answer : LockAnswer) → lock_answer component number modules ≡ answer → locks_behind answer component number (kept_now modules.stored component number) modules.locks ≡ modules.locks
    → (state : ModulesState) → StandsFor state modules → StandsFor state (with_lock component number modules)
unfolding with_lock
same_with component number modules answer is same state stands =
    let still : locks_behind (lock_answer component number modules) component number (kept_now modules.stored component number) modules.locks ≡ modules.locks
    = ap (λ a. locks_behind a component number (kept_now modules.stored component number) modules.locks) is ∙ same in
    subst (λ (l : List Lock). StandsFor state (let m : Modules = record { stored = modules.stored; locks = l } in m)) (sym still) stands

-- delivery lock stands on it yet
module _ (component number : ℕ) (modules : Modules) (state : ModulesState) (stands : StandsFor state modules) (is_held : Bool) (here : Some is_held ≡ holding (presence modules.stored component number)) where
  abbrev there : Presence
  there = presence modules.stored component number

  now_is : is_some (kept_now modules.stored component number) ≡ is_held
  now_is = now_held (store.number_of modules.stored component number) there is_held here

  no_lock : None ≡ wanting_on state.locks component number → lock_on modules.locks component number ≡ None
  no_lock none = lock_is state modules component number stands ∙ by_lock (find (is_held_on component number) state.locks) none
    where
      by_lock : (o : Option HeldLock) → None ≡ option_map (λ (held : HeldLock). is_wanting held.keeping) o → option_map (lock_of modules.stored) o ≡ None
      by_lock None e = refl
      by_lock (Some held) e = absurd cc

  pub new_answer : None ≡ wanting_on state.locks component number → lock_answer component number modules ≡ cond (has_room state.locks) (answer_new is_held) answers.Full
  unfolding lock_answer
  new_answer none =
      answer_there there is_held (has_place modules.locks) (lock_on modules.locks component number) (kept_now modules.stored component number) here
      ∙ ap (λ (o : Option Lock). answer_by (has_place modules.locks) o (kept_now modules.stored component number)) (no_lock none)
      ∙ answer_fresh (has_place modules.locks) (kept_now modules.stored component number) is_held now_is
      ∙ ap (λ b. cond b (answer_new is_held) answers.Full) (room_same state modules stands)

  new_kept : (b : Bool) → is_some (kept_now modules.stored component number) ≡ b → kept_now modules.stored component number ≡ kept_by modules.stored component number (new_lock component number b).keeping
  new_kept true e = refl
  new_kept false e = none (kept_now modules.stored component number) e
    where
      none : (o : Option KeptModule) → is_some o ≡ false → o ≡ None
      none None e = refl
      none (Some k) e = absurd cc

  new_held : (b : Bool) → is_some (kept_now modules.stored component number) ≡ b → IsHeld modules.stored (new_lock component number b)
  new_held true e = e
  new_held false e = tt

  added : None ≡ wanting_on state.locks component number → (answer : LockAnswer) → answer ≡ answer_new is_held
      → locks_behind answer component number (kept_now modules.stored component number) modules.locks ≡ map (lock_of modules.stored) (state.locks ++ new_lock component number is_held ∷ [])
  added none answer is =
      ap (λ a. locks_behind a component number now modules.locks) is ∙ by_held is_held
      ∙ ap (λ (o : Option Lock). cond (is_some o) (map (lock_with component number now) modules.locks) (modules.locks ++ spec_lock component number now ∷ [])) (no_lock none)
      ∙ ap (λ (l : List Lock). l ++ spec_lock component number now ∷ []) stands.locks
      ∙ ap (λ (o : Option KeptModule). map (lock_of modules.stored) state.locks ++ spec_lock component number o ∷ []) (new_kept is_held now_is)
      ∙ sym (map-append (lock_of modules.stored) state.locks (new_lock component number is_held ∷ []))
    where
      now : Option KeptModule
      now = kept_now modules.stored component number

      by_held : (b : Bool) → locks_behind (answer_new b) component number now modules.locks ≡ locks_with component number now modules.locks
      by_held true = refl
      by_held false = refl

  pub new_stands : None ≡ wanting_on state.locks component number → (room : Bool) → has_room state.locks ≡ room
      → StandsFor (record { store = state.store; locks = cond room (state.locks ++ new_lock component number is_held ∷ []) state.locks }) (with_lock component number modules)
  unfolding with_lock
  new_stands none true room =
      let answer = new_answer none ∙ ap (λ b. cond b (answer_new is_held) answers.Full) room in
      record {
        store = stands.store;
        locks = added none (lock_answer component number modules) answer;
        held = All-push (IsHeld modules.stored) state.locks (new_lock component number is_held) stands.held (new_held is_held now_is);
      }
  new_stands none false room =
      let answer = new_answer none ∙ ap (λ b. cond b (answer_new is_held) answers.Full) room in
      same_with component number modules answers.Full answer refl state stands

  -- ---- one stands already

  -- it keeps something, or is wanted
  lock_there : (wanting : Bool) → Some wanting ≡ wanting_on state.locks component number → (lock : Lock) × (lock_on modules.locks component number ≡ Some lock) × (is_some lock.kept ≡ not wanting)
  lock_there wanting is = by_lock (find (is_held_on component number) state.locks) refl is
    where
      by_lock : (o : Option HeldLock) → find (is_held_on component number) state.locks ≡ o → Some wanting ≡ option_map (λ (held : HeldLock). is_wanting held.keeping) o
          → (lock : Lock) × (lock_on modules.locks component number ≡ Some lock) × (is_some lock.kept ≡ not wanting)
      by_lock None found e = absurd cc
      by_lock (Some held) found e =
          let its = found_has (IsHeld modules.stored) (is_held_on component number) state.locks held stands.held found in
          let same : wanting ≡ is_wanting held.keeping = cc in (
            lock_of modules.stored held,
            lock_is state modules component number stands ∙ ap (λ (o : Option HeldLock). option_map (lock_of modules.stored) o) found,
            kept_wanting modules.stored held.component held.«module» held.keeping its ∙ ap (λ b. not b) (sym same),
          )

  again_answer : (wanting : Bool) → Some wanting ≡ wanting_on state.locks component number → lock_answer component number modules ≡ cond wanting (answer_new is_held) answers.Had
  unfolding lock_answer
  again_answer wanting is =
      let lock = lock_there wanting is in
      answer_there there is_held (has_place modules.locks) (lock_on modules.locks component number) (kept_now modules.stored component number) here
      ∙ ap (λ (o : Option Lock). answer_by (has_place modules.locks) o (kept_now modules.stored component number)) lock.1
      ∙ ap (λ b. cond b answers.Had (answer_new (is_some (kept_now modules.stored component number)))) lock.2
      ∙ ap (λ b. cond (not wanting) answers.Had (answer_new b)) now_is
      ∙ turned wanting
    where
      turned : (b : Bool) → cond (not b) answers.Had (answer_new is_held) ≡ cond b (answer_new is_held) answers.Had
      turned true = refl
      turned false = refl

  pub had_answer : Some false ≡ wanting_on state.locks component number → lock_answer component number modules ≡ answers.Had
  had_answer is = again_answer false is

  pub had_stands : Some false ≡ wanting_on state.locks component number → StandsFor state (with_lock component number modules)
  had_stands is = same_with component number modules answers.Had (again_answer false is) refl state stands

  pub wanted_answer : Some true ≡ wanting_on state.locks component number → lock_answer component number modules ≡ answer_new is_held
  wanted_answer is = again_answer true is

  now_none : is_held ≡ false → kept_now modules.stored component number ≡ None
  now_none e = none (kept_now modules.stored component number) (now_is ∙ e)
    where
      none : (o : Option KeptModule) → is_some o ≡ false → o ≡ None
      none None e = refl
      none (Some k) e = absurd cc

  -- each lock on the module that is wanted gets what there is
  with_held : (its it : ℕ) (keeping : Keeping) → IsHeldBy modules.stored its it keeping → (on : Bool) → (eqb its component && eqb it number) ≡ on → (held : Bool) → is_held ≡ held
      → (lock_with component number (kept_now modules.stored component number) (lock_of modules.stored (held_lock its it keeping))
      ≡ lock_of modules.stored (cond held (with_store component number (held_lock its it keeping)) (held_lock its it keeping)))
      × IsHeld modules.stored (cond held (with_store component number (held_lock its it keeping)) (held_lock its it keeping))
  with_held its it Wanted kept false on true is = (rw on refl, rw on tt)
  with_held its it Wanted kept false on false is = (rw on refl, tt)
  with_held its it Wanted kept true on false is = (rw on (ap (λ o. spec_lock its it o) (now_none is)), tt)
  with_held its it Wanted kept true on true is =
      let parts = and_parts (eqb its component) (eqb it number) on in
      let same : kept_now modules.stored component number ≡ kept_now modules.stored its it
      = ap (λ c. kept_now modules.stored c number) (sym (eqb-true its component parts.0)) ∙ ap (λ n. kept_now modules.stored its n) (sym (eqb-true it number parts.1)) in
      (rw on (ap (λ o. spec_lock its it o) same), rw on (ap (λ (o : Option KeptModule). is_some o) (sym same) ∙ now_is ∙ is))
  with_held its it InStore kept false on true is = (rw on refl, rw on kept)
  with_held its it InStore kept false on false is = (rw on refl, kept)
  with_held its it InStore kept true on true is = (rw (on, kept) refl, rw on kept)
  with_held its it InStore kept true on false is = (rw (on, kept) refl, kept)
  with_held its it (Copied copy) kept false on true is = (rw on refl, rw on tt)
  with_held its it (Copied copy) kept false on false is = (rw on refl, tt)
  with_held its it (Copied copy) kept true on true is = (rw on refl, rw on tt)
  with_held its it (Copied copy) kept true on false is = (rw on refl, tt)

  each_held : (held : HeldLock) → IsHeld modules.stored held
      → (lock_with component number (kept_now modules.stored component number) (lock_of modules.stored held) ≡ lock_of modules.stored (cond is_held (with_store component number held) held))
      × IsHeld modules.stored (cond is_held (with_store component number held) held)
  each_held held its = with_held held.component held.«module» held.keeping its (is_held_on component number held) refl is_held refl

  maybe_map : (b : Bool) (locks : List HeldLock) → map (λ held. cond b (with_store component number held) held) locks ≡ cond b (map (with_store component number) locks) locks
  maybe_map true locks = refl
  maybe_map false [] = refl
  maybe_map false (held ∷ locks) = ap (λ (l : List HeldLock). held ∷ l) (maybe_map false locks)

  pub wanted_stands : Some true ≡ wanting_on state.locks component number
      → StandsFor (record { store = state.store; locks = cond is_held (map (with_store component number) state.locks) state.locks }) (with_lock component number modules)
  unfolding with_lock
  wanted_stands is =
      let now = kept_now modules.stored component number in
      let lock = lock_there true is in
      let kept = λ (held : HeldLock). cond is_held (with_store component number held) held in
      subst (λ (l : List HeldLock). StandsFor (let s : ModulesState = record { store = state.store; locks = l } in s) (let m : Modules = record { stored = modules.stored; locks = locks_behind (lock_answer component number modules) component number now modules.locks } in m)) (maybe_map is_held state.locks)
      (record {
        store = stands.store;
        locks = ap (λ a. locks_behind a component number now modules.locks) (wanted_answer is)
            ∙ by_held is_held
            ∙ ap (λ (o : Option Lock). cond (is_some o) (map (lock_with component number now) modules.locks) (modules.locks ++ spec_lock component number now ∷ [])) lock.1
            ∙ ap (map (lock_with component number now)) stands.locks
            ∙ map-map (lock_with component number now) (lock_of modules.stored) state.locks
            ∙ map-same (IsHeld modules.stored) (λ held. lock_with component number now (lock_of modules.stored held)) (λ held. lock_of modules.stored (kept held)) (λ held its. (each_held held its).0) state.locks stands.held
            ∙ sym (map-map (lock_of modules.stored) kept state.locks);
        held = All-map (IsHeld modules.stored) kept state.locks (All-weaker (IsHeld modules.stored) (λ held. IsHeld modules.stored (kept held)) (λ held its. (each_held held its).1) state.locks stands.held);
      })
    where
      by_held : (b : Bool) → locks_behind (answer_new b) component number (kept_now modules.stored component number) modules.locks ≡ locks_with component number (kept_now modules.stored component number) modules.locks
      by_held true = refl
      by_held false = refl

-- by its parts
pub stands_as : (after : ModulesState) (store : StoreState) (locks : List HeldLock) (modules : Modules) → after.store ≡ store → after.locks ≡ locks
    → StandsFor (record { store = store; locks = locks }) modules → StandsFor after modules
stands_as after store locks modules same_store same_locks stands =
    subst (λ (x : StoreState). StandsFor (let t : ModulesState = record { store = x; locks = after.locks } in t) modules) (sym same_store)
    (subst (λ (l : List HeldLock). StandsFor (let t : ModulesState = record { store = store; locks = l } in t) modules) (sym same_locks) stands)
