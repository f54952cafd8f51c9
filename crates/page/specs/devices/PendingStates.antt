-- A device of the proofs: a document that was read, and waits for what it needs.
use Rattle.std.specs.Prelude.{◌≡◌, ◌<◌, ◌^◌, Bool, true, false, ℕ, List, Ok}
use Rattle.bml_reader.specs.Readings.{reading_of}
use Rattle.multipart_entities.specs.declared.paths.Path.{Path}
use Rattle.module_locks.specs.Locks.{Modules, look_up, start_path}
use Rattle.module_store.specs.Resources.Resource.{Found}
use Rattle.document_load.specs.Drafts.{DraftState, draft_of}

pub record PendingState : Type 0 where
  -- whether it is the start document, and the path at which it was read
  pub is_start : Bool
  pub path : Path
  pub draft : DraftState
  -- where the need stands that was waited for last
  pub place : ℕ

-- the start document is found at the path that it has now
abbrev pub IsStartPath : Bool → Modules → Path → Type 0
IsStartPath true modules path = path ≡ start_path modules
IsStartPath false modules path = Unit {0}

-- it is the document that is found under its path, for whose needs nothing is given yet
pub record IsFound (modules : Modules) (pending : PendingState) : Type 0 where
  pub path_is : IsStartPath pending.is_start modules pending.path
  -- numbers of components have one byte, and those of modules two
  pub component_fits : pending.path.component < 2 ^ 8
  pub module_fits : pending.path.«module» < 2 ^ 16
  pub bytes : List ℕ
  pub found : look_up modules pending.path ≡ Found bytes
  pub reading_is : reading_of bytes ≡ Ok pending.draft.items
  pub draft_is : pending.draft ≡ draft_of pending.path pending.draft.items
