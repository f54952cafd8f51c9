-- For which state a page stands, with the modules of the service. (This project's own.)
use Rattle.std.specs.Prelude.{◌≡◌, ◌++◌, Bool, true, false, ℕ, List, [], Option, Some, None, ◌+◌, ◌-◌, ◌^◌, min, option_to_list}
use Rattle.std.specs.Option.{option_map_or}
use Rattle.carousel_blocks.specs.declared.changes.Change.{Change}
use Rattle.document_cache.specs.Caching.{Entry}
use Rattle.module_locks.specs.Histories.{Happening, behind_all}
use Rattle.multipart_entities.specs.declared.paths.Path.{Path}
use Rattle.module_locks.specs.Standing.{ModulesState}
use Rattle.module_locks.specs.Standing as of_modules
use Rattle.es_reader.specs.Readers.{IsReader}
use Rattle.browser_objects.specs.Calls.{BrowserParts, without_document}
use Rattle.acting_documents.specs.Documents.{Document}
use Rattle.acting_documents.specs.devices.Kept.{IsDocument, KeptDocument}
use Rattle.acting_documents.specs.Beginnings.{data_event_effect, load_effect}
use Rattle.page.specs.devices.Acts.{Acts, Ends}
use Rattle.page.specs.Inputs.{changes_step}
use Rattle.page.specs.Remembering.{Loaded, hits_among, next_loaded, remembered_behind, wanted_loaded}
use Rattle.page.specs.devices.Memories.{MemoryState, RemembersTruly}
use Rattle.page.specs.devices.Pendings.{IsCurrent, loading_behind_all, wanted_of}
use Rattle.page.specs.State.{State, Step, still}
use Rattle.page.specs.declared.loading.Load.{Load}
use Rattle.page.specs.declared.loading.Load.TheVariants as came
use Rattle.page.specs.declared.loading.Loading.{Loading}
use Rattle.page.specs.declared.loading.Loading.TheVariants.{At, Nothing}

pub record PageState : Type 0 where
  -- the time; the registers, the persistent area and the random words, and the timers
  pub clock : ℕ
  pub browser : BrowserParts
  -- how many style values were worked out for the document
  pub worked : ℕ
  -- whether a data event waits
  pub data_event : Bool
  -- whether a call found no memory
  pub spent : Bool
  -- which loads it remembers, the last one in front, and how many of its loads were of a document that it
  -- remembered
  pub remembered : List Loaded
  pub hits : ℕ
  -- devices of the proofs
  pub document : Option KeptDocument
  pub loading : Loading
  pub entries : List Entry

-- what is kept is the document that is there, or there is none
abbrev pub AreDocuments : Option KeptDocument → Option Document → Type 0
AreDocuments None None = Unit {0}
AreDocuments (Some kept) (Some d) = IsDocument kept d
AreDocuments None (Some d) = ⊥
AreDocuments (Some kept) None = ⊥

-- a device: what it remembers
abbrev pub memory_of : PageState → MemoryState
memory_of page =
    record { remembered = page.remembered; hits = page.hits; entries = page.entries }

-- The page with these modules is in this state, and these changes in the modules, each with its component, are still to
-- be posted to it. What it has read of a document that waits is what the modules have of it, unless one of them is of its
-- module, or of a data event.
pub record StandsAmid (page : PageState) (modules : ModulesState) (changes : List (ℕ × Change))
    (s : State) : Type 0 where
  pub modules_are : of_modules.StandsFor modules s.modules
  pub reader : IsReader s.read
  pub document : AreDocuments page.document s.document
  pub wanted : wanted_of page.loading ≡ s.wanted
  pub data_event : page.data_event ≡ s.data_event
  pub current : IsCurrent s.modules (loading_behind_all changes page.loading)
  pub clock : page.clock ≡ s.clock
  pub browser : page.browser ≡ s.browser
  -- devices: what happened to the modules from the start on, and what the page remembers of that
  pub happened : List Happening
  pub reached : s.modules ≡ behind_all happened
  pub truly : RemembersTruly happened (memory_of page)

-- The page with these modules is in this state, and each change in them was posted.
abbrev pub StandsFor : PageState → ModulesState → State → Type 0
StandsFor page modules s = StandsAmid page modules [] s

-- no more than the document was changed, with what it is lent of the receiver
abbrev pub KeepsBeside : PageState → PageState → Type 0
KeepsBeside old new =
    new ≡ record old { document = new.document; worked = new.worked; browser = new.browser }

-- nothing more is remembered, and no hit is counted
abbrev pub RemembersStill : PageState → PageState → Type 0
RemembersStill old new = (new.remembered ≡ old.remembered) × (new.hits ≡ old.hits)

-- These loads are remembered, and as many of them are counted as were of a document that was remembered when they came;
-- the count stands still at 2^64 - 1.
pub record Remembers (loads : List Loaded) (old new : PageState) : Type 0 where
  pub remembered_is : new.remembered ≡ remembered_behind loads old.remembered
  pub hits_are : new.hits ≡ min (old.hits + hits_among loads old.remembered) (2 ^ 64 - 1)

-- a device: the load of the next dispatch, where it makes one
abbrev pub next_loads : State → List Loaded
next_loads s = option_to_list (next_loaded s)

-- a device: the load of the wanted document, where it can be made
abbrev pub wanted_loads : State → List Loaded
wanted_loads s = option_to_list (wanted_loaded s)

-- whatever state the page was in, with the modules that were lent to it, it remembers these loads of it
abbrev pub RemembersLoads : (State → List Loaded) → ModulesState → PageState → PageState → Type 0
RemembersLoads loads lent old new =
    (s : State) → StandsFor old lent s → Remembers (loads s) old new

-- the persistent area
abbrev pub page_area : PageState → List ℕ
page_area page = page.browser.area

-- a call found no memory
abbrev pub IsSpent : PageState → Type 0
IsSpent page = page.spent ≡ true

-- how many values of styles are owed: of the document that is there, the number of pairs of an
-- element and a property whose value in the element's present state isn't kept, and 0 without one
abbrev pub page_owed : PageState → ℕ
page_owed page = option_map_or (λ document. document.owed) page.document 0

-- ---- calls

-- the page is in the state that the step leaves, and this is what it prints
pub record HasMade (page : PageState) (modules : ModulesState) (text : List ℕ) (t : Step)
    : Type 0 where
  pub stands : StandsFor page modules t.state
  pub text_is : text ≡ t.text

-- A text was printed, and whatever state the page was in, with whatever modules, it has made the step.
pub record Makes (step : State → Step) (old new : PageState) (before after : List ℕ)
    : Type 0 where
  pub text : List ℕ
  pub printed : after ≡ before ++ text
  pub makes : (modules : ModulesState) (s : State) → StandsFor old modules s
      → HasMade new modules text (step s)

-- The same amid changes that are still to be posted, and are so behind it.
pub record HasMadeAmid (page : PageState) (modules : ModulesState) (changes : List (ℕ × Change))
    (text : List ℕ) (t : Step) : Type 0 where
  pub stands : StandsAmid page modules changes t.state
  pub text_is : text ≡ t.text

pub record MakesAmid (step : State → Step) (old new : PageState) (before after : List ℕ)
    : Type 0 where
  pub text : List ℕ
  pub printed : after ≡ before ++ text
  pub makes : (modules : ModulesState) (changes : List (ℕ × Change)) (s : State)
      → StandsAmid old modules changes s → HasMadeAmid new modules changes text (step s)

-- A text was printed, and whatever state the page was in, with these changes and others behind them still to be posted,
-- it has made the steps of these, and the others are still to be posted.
pub record Posts (posted : List (ℕ × Change)) (old new : PageState) (before after : List ℕ)
    : Type 0 where
  pub text : List ℕ
  pub printed : after ≡ before ++ text
  pub makes : (modules : ModulesState) (changes : List (ℕ × Change)) (s : State)
      → StandsAmid old modules (posted ++ changes) s
      → HasMadeAmid new modules changes text (changes_step posted s)

-- The same of a step that may lock and unlock modules: these were lent to it, and it gave those back.
pub record MakesWith (lent given_back : ModulesState) (step : State → Step) (old new : PageState)
    (before after : List ℕ) : Type 0 where
  pub text : List ℕ
  pub printed : after ≡ before ++ text
  pub makes : (s : State) → StandsFor old lent s → HasMade new given_back text (step s)

-- What became of a step that is there or not: it was there and is made, or there was none, and
-- nothing was printed.
abbrev pub HasMadeOf : Bool → PageState → ModulesState → List ℕ → State → Option Step
    → Type 0
HasMadeOf true page modules text s None = ⊥
HasMadeOf true page modules text s (Some t) = HasMade page modules text t
HasMadeOf false page modules text s None = HasMade page modules text (still s)
HasMadeOf false page modules text s (Some t) = ⊥

-- The same of a step that is there or not; `made` tells whether it was.
pub record MayMake (made : Bool) (lent given_back : ModulesState) (step : State → Option Step)
    (old new : PageState) (before after : List ℕ) : Type 0 where
  pub text : List ℕ
  pub printed : after ≡ before ++ text
  pub makes : (s : State) → StandsFor old lent s → HasMadeOf made new given_back text s (step s)

-- ---- documents that act

-- this document is there, and this was given back of what it was lent
abbrev pub with_document : KeptDocument → BrowserParts → PageState → PageState
with_document document browser page =
    record page { document = Some document; worked = document.worked; browser = browser }

-- A document is there only where none is wanted.
abbrev pub IsAlone : Option KeptDocument → Loading → Type 0
IsAlone None loading = Unit {0}
IsAlone (Some document) loading = loading ≡ Nothing

-- Behind a document that launched the one at a path there is none, its timers and its tables are gone, and that one is
-- wanted.
abbrev pub behind_launch : Option Path → PageState → PageState
behind_launch None page = page
behind_launch (Some path) page =
    record page {
      document = None;
      worked = 0;
      browser = without_document page.browser;
      loading = At path;
    }

-- Behind a document that ended there is none, and this is left of what belongs to the receiver, without its timers and its
-- tables.
abbrev pub behind_end : BrowserParts → PageState → PageState
behind_end browser page =
    record page { document = None; worked = 0; browser = without_document browser }

-- the document, where one was there, ended for a data event
abbrev pub EndsDocument : ModulesState → ModulesState → Option KeptDocument → PageState → PageState
    → List ℕ → List ℕ → Type 0
EndsDocument lent given_back None old new before after =
    (new ≡ old) × (after ≡ before) × (given_back ≡ lent)
EndsDocument lent given_back (Some document) old new before after =
    (browser : BrowserParts)
    × Ends data_event_effect old.clock document (record { browser = old.browser; modules = lent })
    (record { browser = browser; modules = given_back }) before after
    × (new ≡ behind_end browser old)

-- a document that was loaded began, and launched another or none
pub record Begins (lent given_back : ModulesState) (first : KeptDocument) (old new : PageState)
    (before after : List ℕ) : Type 0 where
  pub launched : Option Path
  pub document : KeptDocument
  pub browser : BrowserParts
  pub acts : Acts load_effect launched old.clock first document
      (record { browser = old.browser; modules = lent })
      (record { browser = browser; modules = given_back }) before after
  pub new_is : new ≡ behind_launch launched (with_document document browser old)

-- what becomes of a page behind what came of a load, of which `made` tells whether it was one
abbrev pub TakesLoad : ModulesState → ModulesState → Load → Bool → PageState → PageState → List ℕ
    → List ℕ → Type 0
TakesLoad lent given_back (came.Waits loading) made old new before after =
    (made ≡ false) × (new ≡ record old { loading = loading }) × (after ≡ before)
    × (given_back ≡ lent)
TakesLoad lent given_back came.Refused made old new before after =
    (made ≡ true) × (new ≡ record old { document = None; worked = 0 }) × (after ≡ before)
    × (given_back ≡ lent)
TakesLoad lent given_back (came.Loaded first) made old new before after =
    (made ≡ true) × Begins lent given_back first old new before after
