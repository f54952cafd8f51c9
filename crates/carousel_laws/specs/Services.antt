-- The modules of a service, with the locks on them, after sections of one component, in their order. (This project's own.)
use Rattle.std.specs.Prelude.{◌≡◌, ℕ, List, [], ◌∷◌, map, Some, None, option_map}
use Rattle.carousel_blocks.specs.declared.changes.Change.{Change}
use Rattle.carousel_blocks.specs.declared.changes.ChangeLine.TheVariants.{Delivered}
use Rattle.module_store.specs.Copies.{KeptModule}
use Rattle.module_locks.specs.Locks.{Lock, Modules, with_section}

abbrev pub modules_after : Modules → ℕ → List (List ℕ) → Modules
modules_after modules tag [] = modules
modules_after modules tag (section ∷ sections) =
    modules_after (with_section tag section modules) tag sections

-- the change tells that its module is delivered, with this version and size
pub record IsDelivery (change : Change) : Type 0 where
  pub version : ℕ
  pub size : ℕ
  pub line_is : change.line ≡ Some (Delivered version size)

-- ---- the same locks

-- a module that is kept, without the number of the delivery that brought it
abbrev pub without_number : KeptModule → KeptModule
without_number kept = record kept { number = None }

-- a lock with what it keeps, without that number
abbrev pub lock_without_number : Lock → Lock
lock_without_number lock = record lock { kept = option_map without_number lock.kept }

abbrev pub locks_without_numbers : List Lock → List Lock
locks_without_numbers locks = map lock_without_number locks

-- Locks on the same modules stand, in the same order. Each is wanted in both, or keeps the same bytes in both, as an entity
-- or as one resource. The numbers of the deliveries that brought these may differ: they count in the order in which the
-- modules came.
abbrev pub KeepTheSame : List Lock → List Lock → Type 0
KeepTheSame one other = locks_without_numbers one ≡ locks_without_numbers other
