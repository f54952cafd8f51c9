-- What happens to the modules of a service, from their start on. (This project's own.)
use Rattle.std.specs.Prelude.{ℕ, List, [], ◌∷◌}
use Rattle.psi_tables.specs.declared.components.Component.{Component}
use Rattle.module_locks.specs.Locks.{Modules, at_start, with_lock, with_map, with_section, without_lock}

-- a section of a component, another component map, or a lock that is set on a module or taken away
pub data Happening : Type 0 where
  Fed : ℕ → List ℕ → Happening
  Mapped : List Component → Happening
  Locked : ℕ → ℕ → Happening
  Unlocked : ℕ → ℕ → Happening

-- what the modules are behind all of these
abbrev pub modules_behind : Modules → List Happening → Modules
modules_behind modules [] = modules
modules_behind modules (Fed component section ∷ behind) =
    modules_behind (with_section component section modules) behind
modules_behind modules (Mapped components ∷ behind) =
    modules_behind (with_map components modules) behind
modules_behind modules (Locked component number ∷ behind) =
    modules_behind (with_lock component number modules) behind
modules_behind modules (Unlocked component number ∷ behind) =
    modules_behind (without_lock component number modules) behind

-- from the start on
abbrev pub behind_all : List Happening → Modules
behind_all happened = modules_behind at_start happened
