-- For which modules and locks the store of a service stands with what is kept of the locks. (This project's own.)
use Rattle.std.specs.Prelude.{◌≡◌, ◌≤◌, ℕ, true, List, All, length, map, Option, Some, None, is_some}
use Rattle.module_store.specs.Standing.{StoreState}
use Rattle.module_store.specs.Standing as store
use Rattle.module_store.specs.Copies.{KeptModule}
use Rattle.module_store.specs.Store.{Stored}
use Rattle.module_locks.specs.Locks.{Lock, Modules, kept_now, most_locks}
use Rattle.module_locks.specs.declared.locks.HeldLock.{HeldLock}
use Rattle.module_locks.specs.declared.locks.Keeping.{Keeping}
use Rattle.module_locks.specs.declared.locks.Keeping.TheVariants.{Wanted, InStore, Copied}

-- the store of the service, and a device of the proofs: what is had of the locks
pub record ModulesState : Type 0 where
  pub store : StoreState
  pub locks : List HeldLock

-- ---- devices of the proofs

-- what is kept: nothing yet, the module as the service holds it still, or a copy
abbrev pub kept_by : Stored → ℕ → ℕ → Keeping → Option KeptModule
kept_by stored component number Wanted = None
kept_by stored component number InStore = kept_now stored component number
kept_by stored component number (Copied kept) = Some kept

-- the lock that is had
abbrev pub lock_of : Stored → HeldLock → Lock
lock_of stored held =
    record {
      component = held.component;
      «module» = held.«module»;
      kept = kept_by stored held.component held.«module» held.keeping;
    }

-- what is kept as the service holds it is held
abbrev pub IsHeldBy : Stored → ℕ → ℕ → Keeping → Type 0
IsHeldBy stored component number Wanted = Unit {0}
IsHeldBy stored component number InStore = is_some (kept_now stored component number) ≡ true
IsHeldBy stored component number (Copied kept) = Unit {0}

abbrev pub IsHeld : Stored → HeldLock → Type 0
IsHeld stored held = IsHeldBy stored held.component held.«module» held.keeping

-- ---- what it stands for

pub record StandsFor (state : ModulesState) (modules : Modules) : Type 0 where
  pub store : store.StandsFor state.store modules.stored
  pub locks : modules.locks ≡ map (lock_of modules.stored) state.locks
  -- a device
  pub held : All (IsHeld modules.stored) state.locks

-- at most so many locks stand
abbrev pub AreFew : List HeldLock → Type 0
AreFew locks = length locks ≤ most_locks

-- a fact for all modules and locks for which it stands
abbrev pub ForModules : ModulesState → (Modules → Type 0) → Type 0
ForModules state P = (modules : Modules) → StandsFor state modules → P modules
