-- A device of the proofs: what a page remembers of its loads, and the documents that it keeps for them.
use Rattle.std.specs.Prelude.{◌≡◌, ◌≤◌, ◌<◌, ◌+◌, ◌-◌, ◌^◌, ◌&&◌, ℕ, min, Bool, false, if◌then◌else◌, List, [], ◌∷◌, ◌++◌, All, length, map, Option, Some, None, option_map, option_and_then, Ok}
use Rattle.std.specs.List.{list_all, list_any}
use Rattle.document_cache.specs.Caching.{Entry, brought_to_front, cached_under, is_same_key, kept_in_front}
use Rattle.document_cache.specs.declared.keys.CacheKey.{CacheKey}
use Rattle.document_load.specs.Drafts.{DraftState}
use Rattle.document_load.specs.Scripts.{HavePlaces}
use Rattle.document_load.specs.ToldDocuments.{ToldDocument}
use Rattle.module_locks.specs.Histories.{Happening, behind_all}
use Rattle.module_locks.specs.Locks.{Modules, look_up}
use Rattle.module_locks.specs.Standing.{ForModules, ModulesState}
use Rattle.multipart_entities.specs.declared.paths.Path.{Path}
use Rattle.page.specs.Loading.{is_settled, loadable_reading}
use Rattle.page.specs.Remembering.{Loaded, hits_among, is_same_number, most_remembered, number_at, remembered_behind, tells_delivery}
use Rattle.page.specs.devices.Gifts.{IsDocumentOf}

-- which loads are remembered, how many loads were of a document that was remembered, and what is kept for them
pub record MemoryState : Type 0 where
  pub remembered : List Loaded
  pub hits : ℕ
  pub entries : List Entry

-- the load that an entry was kept for
abbrev pub loaded_of : Entry → Loaded
loaded_of entry =
    record {
      path = entry.key.path;
      own = Some entry.key.own;
      needs = map (λ need. need.1) entry.needs;
    }

abbrev pub memory_with : List Entry → ℕ → MemoryState
memory_with entries hits =
    record { remembered = map loaded_of entries; hits = hits; entries = entries }

-- one hit more; the count stands still at 2^64 - 1
abbrev pub one_more : ℕ → ℕ
one_more hits = min (hits + 1) (2 ^ 64 - 1)

-- ---- entries that may be used

-- what was seen of a need is seen now, and it isn't waited for
abbrev pub is_as_kept : Modules → Path × Option ℕ → Bool
is_as_kept modules need =
    (is_same_number (number_at modules need.0) need.1 && tells_delivery need.1)
    && is_settled (look_up modules need.0)

abbrev pub may_be_used : Modules → Entry → Bool
may_be_used modules entry =
    tells_delivery (Some entry.key.own) && list_all (is_as_kept modules) entry.needs

abbrev pub if_usable : Modules → Entry → Option Entry
if_usable modules entry = if may_be_used modules entry then Some entry else None

-- the document at a path, as it is seen now
abbrev pub key_of : Path → ℕ → CacheKey
key_of path own = record { path = path; own = own }

abbrev pub key_at : Modules → Path → Option CacheKey
key_at modules path = option_map (key_of path) (number_at modules path)

-- the entry that may be used for a load at a path
abbrev pub usable_under : Modules → List Entry → CacheKey → Option Entry
usable_under modules entries key =
    option_and_then (if_usable modules) (cached_under key entries)

abbrev pub usable_at : Modules → Path → List Entry → Option Entry
usable_at modules path entries =
    option_and_then (usable_under modules entries) (key_at modules path)

-- ---- entries that were kept

-- a need, with the number of what is seen of its module
abbrev pub numbered : Modules → Path → Path × Option ℕ
numbered modules need = (need, number_at modules need)

-- the number of its module has two bytes
abbrev pub FitsModule : Path → Type 0
FitsModule path = path.«module» < 2 ^ 16

-- An entry was kept at a moment of this history: its document was the one that was loaded at its path then, and its
-- numbers were those of what was seen then.
pub record WasKept (happened : List Happening) (entry : Entry) : Type 0 where
  pub before : List Happening
  pub since : List Happening
  pub happened_is : happened ≡ before ++ since
  pub own_is : number_at (behind_all before) entry.key.path ≡ Some entry.key.own
  pub draft : DraftState
  pub reading_is : loadable_reading (behind_all before) entry.key.path ≡ Some (Ok draft)
  pub needs_are : entry.needs ≡ map (numbered (behind_all before)) draft.needs
  pub document_is : IsDocumentOf draft entry.document
  pub own_fits : FitsModule entry.key.path
  pub needs_fit : All FitsModule draft.needs

-- no two of them have one key
abbrev pub AreApart : List Entry → Type 0
AreApart [] = Unit {0}
AreApart (entry ∷ entries) =
    (list_any (λ other. is_same_key entry.key other.key) entries ≡ false) × AreApart entries

-- what is remembered is so of a page whose modules have this history
pub record RemembersTruly (happened : List Happening) (memory : MemoryState) : Type 0 where
  pub remembered_are : memory.remembered ≡ map loaded_of memory.entries
  pub kept : All (WasKept happened) memory.entries
  pub apart : AreApart memory.entries
  pub few : length memory.entries ≤ most_remembered
  pub counted : memory.hits ≤ 2 ^ 64 - 1

-- so it is behind these loads
pub record RemembersBehind (happened : List Happening) (loads : List Loaded)
    (old new : MemoryState) : Type 0 where
  pub truly : RemembersTruly happened new
  pub remembered_is : new.remembered ≡ remembered_behind loads old.remembered
  pub hits_are : new.hits ≡ min (old.hits + hits_among loads old.remembered) (2 ^ 64 - 1)

-- ---- loads

-- the places that a document has are those of its programs
abbrev pub HasPlaces : ToldDocument → Type 0
HasPlaces document = HavePlaces document.scripts (length document.programs) document.handlers

-- an entry may be used, and is in front now; this is a copy of its document, and the load is counted
pub record HasRecalled (state : ModulesState) (path : Path) (document : ToldDocument)
    (old new : MemoryState) : Type 0 where
  pub entry : Entry
  pub usable : ForModules state (λ modules. usable_at modules path old.entries ≡ Some entry)
  pub copied : document ≡ entry.document
  pub new_is : new ≡ memory_with (brought_to_front entry.key old.entries) (one_more old.hits)

-- what is found in a memory for a load at a path: a copy of a document, or nothing
abbrev pub Recalls : ModulesState → Path → Option ToldDocument → MemoryState → MemoryState → Type 0
Recalls state path None old new =
    ForModules state (λ modules. usable_at modules path old.entries ≡ None) × (new ≡ old)
Recalls state path (Some document) old new = HasRecalled state path document old new

-- the same in steps: a key under which an entry is found that may be used, and its use
pub record IsUsableUnder (state : ModulesState) (path : Path) (key : CacheKey)
    (entries : List Entry) : Type 0 where
  pub entry : Entry
  pub found : cached_under key entries ≡ Some entry
  pub usable : ForModules state (λ modules. usable_at modules path entries ≡ Some entry)

abbrev pub FindsUsable : ModulesState → Path → Option CacheKey → List Entry → Type 0
FindsUsable state path None entries =
    ForModules state (λ modules. usable_at modules path entries ≡ None)
FindsUsable state path (Some key) entries = IsUsableUnder state path key entries

pub record HasUsedAgain (key : CacheKey) (document : ToldDocument) (old new : MemoryState)
    : Type 0 where
  pub entry : Entry
  pub found : cached_under key old.entries ≡ Some entry
  pub copied : document ≡ entry.document
  pub new_is : new ≡ memory_with (brought_to_front key old.entries) (one_more old.hits)

abbrev pub UsesAgain : CacheKey → Option ToldDocument → MemoryState → MemoryState → Type 0
UsesAgain key None old new = cached_under key old.entries ≡ None
UsesAgain key (Some document) old new = HasUsedAgain key document old new

-- an entry for a load at a path, with these needs, and this document
abbrev pub entry_for : Path → ℕ → List (Path × Option ℕ) → ToldDocument → Entry
entry_for path own needs document =
    record { key = key_of path own; needs = needs; document = document }

-- it is kept where the document's module is seen
abbrev pub entries_with : Option ℕ → Path → List (Path × Option ℕ) → ToldDocument → List Entry
    → List Entry
entries_with None path needs document entries = entries
entries_with (Some own) path needs document entries =
    kept_in_front (entry_for path own needs document) entries

-- a document is kept for a load at a path, and these are its needs
pub record Keeps (state : ModulesState) (path : Path) (needs : List Path)
    (document : ToldDocument) (old new : MemoryState) : Type 0 where
  pub fit : All FitsModule needs
  pub kept : ForModules state (λ modules. new ≡ memory_with
      (entries_with (number_at modules path) path (map (numbered modules) needs) document
      old.entries) old.hits)

-- The document is the one that is loaded at a path, whether it was remembered or read, and the load is remembered.
pub record HasDocument (modules : Modules) (happened : List Happening) (path : Path)
    (document : ToldDocument) (old new : MemoryState) : Type 0 where
  pub draft : DraftState
  pub reading_is : loadable_reading modules path ≡ Some (Ok draft)
  pub document_is : IsDocumentOf draft document
  pub remembers : RemembersBehind happened
      (record {
        path = path;
        own = number_at modules path;
        needs = map (number_at modules) draft.needs;
      } ∷ []) old new
