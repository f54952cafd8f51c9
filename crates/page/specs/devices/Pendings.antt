-- A device of the proofs: what is kept of a document that is wanted, and what comes of its load, whatever the
-- state stands for.
use Rattle.std.specs.Prelude.{◌≡◌, ◌==◌, ◌&&◌, ◌||◌, Bool, false, true, if◌then◌else◌, ℕ, List, [], ◌∷◌, ◌++◌, length, map, option_and_then, option_to_list, replicate, slice_get, Option, Some, None, Result, Ok, Err}
use Rattle.bml_reader.specs.declared.faults.DocFault.{DocFault}
use Rattle.carousel_blocks.specs.DataEvents.{is_data_event}
use Rattle.carousel_blocks.specs.declared.changes.Change.{Change}
use Rattle.multipart_entities.specs.declared.paths.Path.{Path}
use Rattle.module_locks.specs.Histories.{Happening, behind_all}
use Rattle.module_locks.specs.Locks.{Modules, look_up}
use Rattle.module_store.specs.Resources.{Resource}
use Rattle.module_store.specs.Resources.Resource.{Found, Missing, Waiting}
use Rattle.module_locks.specs.Standing.{ForModules, ModulesState}
use Rattle.es_reader.specs.Readers.{Reader, IsReader}
use Rattle.document_load.specs.Drafts.{DraftState, with_gifts}
use Rattle.document_load.specs.Scripts.{bad_numbers, sources_of}
use Rattle.document_load.specs.ToldDocuments.{ToldDocument}
use Rattle.acting_documents.specs.devices.Kept.{IsDocument, KeptDocument, kept_first}
use Rattle.page.specs.Lines.{load_lines, refuse_line}
use Rattle.page.specs.Loading.{loadable_reading, document_of_draft, text_at, wanted_path}
use Rattle.page.specs.Remembering.{loaded_at}
use Rattle.page.specs.devices.Memories.{FitsModule, HasDocument, MemoryState, RemembersBehind, RemembersTruly}
use Rattle.page.specs.devices.PendingStates.{IsFound, IsStartPath}
use Rattle.page.specs.State.{Wanted}
use Rattle.page.specs.State.Wanted.{StartDocument, DocumentAt, NoDocument}
use Rattle.page.specs.declared.loading.Load.{Load}
use Rattle.page.specs.declared.loading.Load.TheVariants as load
use Rattle.page.specs.declared.loading.Loading.{Loading}
use Rattle.page.specs.declared.loading.Loading.TheVariants as kept

-- the document at a path: the start document, or one that a script launched
abbrev pub wanted_at : Bool → Path → Wanted
wanted_at is_start path = if is_start then StartDocument else DocumentAt path

-- what is kept of it as long as it wasn't read
abbrev pub unread_loading : Bool → Path → Loading
unread_loading is_start path = if is_start then kept.Start else kept.At path

-- what is wanted: one that was read and waits is still wanted
abbrev pub wanted_of : Loading → Wanted
wanted_of kept.Start = StartDocument
wanted_of (kept.At path) = DocumentAt path
wanted_of (kept.Pending pending) = wanted_at pending.is_start pending.path
wanted_of kept.Nothing = NoDocument

-- one that was read is the one that is there
abbrev pub IsCurrent : Modules → Loading → Type 0
IsCurrent modules (kept.Pending pending) = IsFound modules pending
IsCurrent modules _ = Unit {0}

-- ---- what changes tell of it

-- a document was read, and this change in a component is of its module, or is that of a data event, at which locks end
abbrev pub is_told_by : ℕ → Change → Loading → Bool
is_told_by component change (kept.Pending pending) =
    is_data_event change
    || ((pending.path.component == component) && (change.«module» == pending.path.«module»))
is_told_by component change _ = false

-- it is wanted, and wasn't read
abbrev pub wanted_anew : Loading → Loading
wanted_anew (kept.Pending pending) = unread_loading pending.is_start pending.path
wanted_anew loading = loading

-- then it is wanted anew
abbrev pub loading_behind : ℕ → Change → Loading → Loading
loading_behind component change loading =
    if is_told_by component change loading then wanted_anew loading else loading

-- and so behind several changes, each with its component
abbrev pub loading_behind_all : List (ℕ × Change) → Loading → Loading
loading_behind_all [] loading = loading
loading_behind_all (change ∷ changes) loading =
    loading_behind_all changes (loading_behind change.0 change.1 loading)

-- ---- a load

-- something is found
abbrev pub is_there : Resource → Bool
is_there (Found bytes) = true
is_there Waiting = false
is_there Missing = false

-- A document is wanted; or nothing can be loaded of what is wanted, if anything is.
abbrev pub MayLoad : Bool → ModulesState → Loading → Type 0
MayLoad true state loading = loading ≡ kept.Nothing → ⊥
MayLoad false state loading =
    ForModules state (λ modules.
    option_and_then (loadable_reading modules) (wanted_path (wanted_of loading) modules) ≡ None)

-- the need at this place is waited for
pub record WaitsAt (state : ModulesState) (needs : List Path) (place : ℕ) : Type 0 where
  pub need : Path
  pub is_there : slice_get needs place ≡ Some need
  pub waits : ForModules state (λ modules. look_up modules need ≡ Waiting)

-- a document that goes on waiting knows the place of a need that is waited for
abbrev pub KnowsItsPlace : ModulesState → Load → Type 0
KnowsItsPlace state (load.Waits (kept.Pending pending)) =
    WaitsAt state pending.draft.needs pending.place
KnowsItsPlace state _ = Unit {0}

pub record GoesOn (modules : Modules) (wanted : Wanted)
    (reading : Option (Result DraftState DocFault)) (loading : Loading) (text : List ℕ)
    : Type 0 where
  pub none : reading ≡ None
  pub still : wanted_of loading ≡ wanted
  pub current : IsCurrent modules loading
  pub silent : text ≡ []

pub record IsRefused (path : Path) (reading : Option (Result DraftState DocFault))
    (text : List ℕ) : Type 0 where
  pub fault : DocFault
  pub reading_is : reading ≡ Some (Err fault)
  pub text_is : text ≡ refuse_line path fault

pub record IsLoaded (read : Reader) (path : Path) (reading : Option (Result DraftState DocFault))
    (document : KeptDocument) (text : List ℕ) : Type 0 where
  pub draft : DraftState
  pub reading_is : reading ≡ Some (Ok draft)
  pub document_is : IsDocument document (document_of_draft read path draft)
  pub text_is : text ≡ load_lines path (bad_numbers read (sources_of draft))

-- what comes of a reading under the path of what is wanted, and the lines that tell it
abbrev pub LoadsAs : Reader → Modules → Wanted → Path → Load → List ℕ → Type 0
LoadsAs read modules wanted path (load.Waits loading) text =
    GoesOn modules wanted (loadable_reading modules path) loading text
LoadsAs read modules wanted path load.Refused text =
    IsRefused path (loadable_reading modules path) text
LoadsAs read modules wanted path (load.Loaded document) text =
    IsLoaded read path (loadable_reading modules path) document text

-- the same, and the load, where there is one, is remembered
pub record LoadsTruly (read : Reader) (modules : Modules) (happened : List Happening)
    (wanted : Wanted) (path : Path) (new : Load) (text : List ℕ)
    (memory_before memory_after : MemoryState) : Type 0 where
  pub loads : LoadsAs read modules wanted path new text
  pub remembers : RemembersBehind happened (option_to_list (loaded_at modules path)) memory_before
      memory_after

-- A text was printed, and this came of what was kept of a document that is wanted, and of what is remembered.
pub record Loads (state : ModulesState) (old : Loading) (new : Load)
    (memory_before memory_after : MemoryState) (before after : List ℕ) : Type 0 where
  pub text : List ℕ
  pub printed : after ≡ before ++ text
  pub loads : ForModules state (λ modules. (happened : List Happening)
      → modules ≡ behind_all happened → RemembersTruly happened memory_before
      → IsCurrent modules old → (path : Path)
      → wanted_path (wanted_of old) modules ≡ Some path → (read : Reader) → IsReader read
      → LoadsTruly read modules happened (wanted_of old) path new text memory_before
      memory_after)

-- The same of a document that wasn't read, and is at this path.
pub record LoadsUnread (state : ModulesState) (is_start : Bool) (path : Path) (new : Load)
    (memory_before memory_after : MemoryState) (before after : List ℕ) : Type 0 where
  pub text : List ℕ
  pub printed : after ≡ before ++ text
  pub loads : ForModules state (λ modules. (happened : List Happening)
      → modules ≡ behind_all happened → RemembersTruly happened memory_before
      → IsStartPath is_start modules path → (read : Reader) → IsReader read
      → LoadsTruly read modules happened (wanted_at is_start path) path new text memory_before
      memory_after)

-- The same of a document that is loaded.
pub record LoadsDocument (path : Path) (document : ToldDocument)
    (acting : KeptDocument) (before after : List ℕ) : Type 0 where
  pub acting_is : acting
      ≡ kept_first path document.items document.rules document.programs document.handlers
      acting.owed acting.lent acting.now acting.modules
  pub printed : after ≡ before ++ load_lines path document.bad

-- it came of a load
abbrev pub LoadsRemembered : Path → ToldDocument → Load → List ℕ → List ℕ → Type 0
LoadsRemembered path document (load.Waits loading) before after = ⊥
LoadsRemembered path document load.Refused before after = ⊥
LoadsRemembered path document (load.Loaded acting) before after =
    LoadsDocument path document acting before after

-- a draft, to which what is found now of its needs is given
abbrev pub given_now : Modules → DraftState → DraftState
given_now modules draft = with_gifts (map (text_at modules) draft.needs) draft

-- a draft to which nothing is given yet is read anew, or its document is remembered
abbrev pub Provides : ModulesState → Path → DraftState → ToldDocument → MemoryState → MemoryState
    → Type 0
Provides state path draft document memory_before memory_after =
    ForModules state (λ modules. (happened : List Happening) → modules ≡ behind_all happened
    → RemembersTruly happened memory_before
    → draft.given ≡ replicate (length draft.needs) None → FitsModule path
    → loadable_reading modules path ≡ Some (Ok (given_now modules draft))
    → HasDocument modules happened path document memory_before memory_after)

-- The document that is loaded of a draft at a path, where nothing that it needs is waited for.
pub record LoadsSettled (state : ModulesState) (path : Path) (draft : DraftState)
    (acting : KeptDocument) (memory_before memory_after : MemoryState)
    (before after : List ℕ) : Type 0 where
  pub document : ToldDocument
  pub provided : Provides state path draft document memory_before memory_after
  pub acting_is : LoadsDocument path document acting before after
