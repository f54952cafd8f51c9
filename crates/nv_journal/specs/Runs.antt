-- A load and stores one after another, as a run makes them, of this project's own.
use Rattle.std.specs.Prelude.{◌≡◌, ℕ, List, [], ◌∷◌, Option, Some, Ok}
use Rattle.nv_journal.specs.Disks.{DiskContent}
use Rattle.nv_journal.specs.Journals.{LoadsNewest, StoresNewest}

-- stores of these areas, in order, each of which answered Ok
abbrev pub StoreInTurn : List (List ℕ) → DiskContent → DiskContent → Type 0
StoreInTurn [] old new = new ≡ old
StoreInTurn (area ∷ areas) old new =
    (next : DiskContent) × StoresNewest area (Ok tt) old next × StoreInTurn areas next new

-- a load that answered Ok, and then stores of these areas, in order, each of which answered Ok
pub record HasRun (areas : List (List ℕ)) (start now : DiskContent) : Type 0 where
  pub loaded : DiskContent
  pub size : ℕ
  pub loads : LoadsNewest (Ok size) start loaded
  pub stores : StoreInTurn areas loaded now

-- what is kept after stores of these areas: the last of them, or where there is none what was kept
abbrev pub last_kept : Option (List ℕ) → List (List ℕ) → Option (List ℕ)
last_kept kept [] = kept
last_kept kept (area ∷ areas) = last_kept (Some area) areas
