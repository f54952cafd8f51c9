-- A device of the proofs: how what is had of the locks is kept.
use Rattle.std.specs.Prelude.{◌≡◌, ◌==◌, ◌&&◌, ℕ, nat_lt, Bool, true, false, if◌then◌else◌, List, All, length, find, Option, Some, None, option_map, option_and_then}
use Rattle.std.specs.List.{list_any}
use Rattle.carousel_blocks.specs.declared.changes.Change.{Change}
use Rattle.module_store.specs.Resources.{Presence}
use Rattle.module_store.specs.Resources.Presence.{Absent, Announced, Held}
use Rattle.module_store.specs.Copies.{KeptModule}
use Rattle.module_store.specs.Store.{Stored}
use Rattle.module_locks.specs.Locks.{delivers, is_delivery, most_locks}
use Rattle.module_locks.specs.Standing.{IsHeld, lock_of}
use Rattle.module_locks.specs.declared.answers.LockAnswer.{LockAnswer}
use Rattle.module_locks.specs.declared.answers.LockAnswer.TheVariants as answers
use Rattle.module_locks.specs.declared.locks.HeldLock.{HeldLock}
use Rattle.module_locks.specs.declared.locks.Keeping.{Keeping}
use Rattle.module_locks.specs.declared.locks.Keeping.TheVariants.{Wanted, InStore, Copied}

-- no lock has its module in the store alone
abbrev pub IsOwnBy : Keeping → Type 0
IsOwnBy Wanted = Unit {0}
IsOwnBy InStore = ⊥
IsOwnBy (Copied kept) = Unit {0}

abbrev pub AreOwn : List HeldLock → Type 0
AreOwn locks = All (λ held. IsOwnBy held.keeping) locks

-- ---- what is had of the locks

abbrev pub is_held_on : ℕ → ℕ → HeldLock → Bool
is_held_on component number held = (held.component == component) && (held.«module» == number)

-- nothing is kept yet
abbrev pub is_wanting : Keeping → Bool
is_wanting Wanted = true
is_wanting InStore = false
is_wanting (Copied kept) = false

-- the copy that is kept
abbrev pub copy_in : Keeping → Option KeptModule
copy_in Wanted = None
copy_in InStore = None
copy_in (Copied kept) = Some kept

abbrev pub copy_on : List HeldLock → ℕ → ℕ → Option KeptModule
copy_on locks component number = option_and_then (λ held. copy_in held.keeping) (find (is_held_on component number) locks)

-- whether the lock on a module is wanted, where one stands
abbrev pub wanting_on : List HeldLock → ℕ → ℕ → Option Bool
wanting_on locks component number = option_map (λ held. is_wanting held.keeping) (find (is_held_on component number) locks)

-- whether a module is held, where it can be locked
abbrev pub holding : Presence → Option Bool
holding Absent = None
holding Announced = Some false
holding (Held is_entity bytes) = Some true

-- ---- what becomes of them

abbrev pub answer_new : Bool → LockAnswer
answer_new is_held = if is_held then answers.Kept else answers.Wanted

abbrev pub new_lock : ℕ → ℕ → Bool → HeldLock
new_lock component number is_held =
    record { component = component; «module» = number; keeping = if is_held then InStore else Wanted }

-- a place is left for one more
abbrev pub has_room : List HeldLock → Bool
has_room locks = nat_lt (length locks) most_locks

-- a lock on the module that is wanted keeps it from now on
abbrev pub with_store : ℕ → ℕ → HeldLock → HeldLock
with_store component number held =
    if is_held_on component number held && is_wanting held.keeping then record held { keeping = InStore } else held

-- so does one on a module that is delivered
abbrev pub with_delivery : ℕ → List Change → HeldLock → HeldLock
with_delivery component changes held =
    if (held.component == component) && (is_wanting held.keeping && delivers held.«module» changes) then record held { keeping = InStore }
    else held

abbrev pub is_wanted_in : List HeldLock → ℕ → ℕ → Bool
is_wanted_in locks component number = list_any (λ held. is_held_on component number held && is_wanting held.keeping) locks

abbrev pub told_with : ℕ → List HeldLock → Change → Change
told_with component locks change =
    record change { locked = is_delivery change && is_wanted_in locks component change.«module» }

-- The lock stands on the same module and keeps the same as before, in the store or as a copy.
pub record KeepsLock (stored : Stored) (old new : HeldLock) : Type 0 where
  pub same : lock_of stored new ≡ lock_of stored old
  pub held : IsHeld stored new
