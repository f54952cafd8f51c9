-- What the load of a document comes to.
use Rattle.std.proofs.Common.{◌≡◌, ◌∙◌, ℕ, suc, ◌+◌, ◌<◌, ◌^◌, Bool, true, false, ◌&&◌, List, [], ◌∷◌, ◌++◌, take, drop, refl, sym, ap, ap₂, subst, append-nil, IfOk, arith}
use Rattle.std.specs.Prelude.{zero, length, replicate, Option, Some, None, Result, Ok, Err, All, map, option_and_then, option_to_list, slice_get}
use Rattle.std.specs.List.{AllZip}
use Rattle.document_load.specs.Drafts.{DraftState, draft_of}
use Rattle.document_load.specs.Scripts.{AreScripts, HandlerState, programs_by, sources_of}
use Rattle.document_load.specs.StyleTexts.{document_rules}
use Rattle.document_load.specs.ToldDocuments.{ToldDocument, told_document}
use Rattle.document_load.specs.declared.drafts.Document.{Document as Finished}
use Rattle.es_reader.specs.Programs.{Tells, ToldProgram}
use Rattle.es_reader.specs.Readers.{Reader, IsReader}
use Rattle.dom_tree.specs.Items.{Item}
use Rattle.style_reader.specs.declared.rules.Rule.{Rule}
use Rattle.bml_reader.specs.declared.faults.DocFault.{DocFault}
use Rattle.bml_reader.specs.Readings.{reading_of}
use Rattle.multipart_entities.specs.declared.paths.Path.{Path}
use Rattle.module_locks.specs.Histories.{Happening, behind_all}
use Rattle.module_locks.specs.Locks.{Modules, look_up, start_path}
use Rattle.module_locks.specs.Standing.{ModulesState, StandsFor}
use Rattle.module_store.specs.Resources.{Resource}
use Rattle.module_store.specs.Resources.Resource.{Found, Waiting}
use Rattle.page.specs.declared.loading.Load.{Load}
use Rattle.page.specs.declared.loading.Load.TheVariants as load
use Rattle.page.specs.declared.loading.Loading.TheVariants as kept
use Rattle.page.specs.declared.loading.Loading.{Loading}
use Rattle.page.specs.devices.Gifts.{IsDocumentOf, IsFinished}
use Rattle.page.specs.devices.Memories.{FitsModule, HasDocument, HasRecalled, Keeps, MemoryState, Recalls, RemembersBehind, RemembersTruly, entries_with, memory_with, numbered, usable_at}
use Rattle.page.specs.Remembering.{loaded_as, loaded_at, number_at}
use Rattle.page.proofs.MemoryLaws.{kept_anew, load_at, none_more, recalled}
use Rattle.page.proofs.ReadingLaws.{NumbersTell, PathsStay, reading_where}
use Rattle.acting_documents.specs.Documents.{Document}
use Rattle.acting_documents.specs.devices.Kept.{IsDocument, KeptDocument, kept_as, kept_first}
use Rattle.page.specs.Lines.{load_lines, refuse_line}
use Rattle.page.specs.Loading.{are_settled, is_settled, loadable_reading, reading_in, reading_if_settled, document_of_draft, wanted_path}
use Rattle.page.specs.devices.PendingStates.{IsFound, IsStartPath, PendingState}
use Rattle.page.specs.devices.Pendings.{IsCurrent, Loads, LoadsDocument, LoadsRemembered, LoadsSettled, LoadsTruly, LoadsUnread, Provides, WaitsAt, given_now, unread_loading, wanted_at, wanted_of}
use Rattle.page.specs.State.{Wanted}

-- what a document that was read and is the one that is there comes to
abbrev reading_now : Modules → DraftState → Option (Result DraftState DocFault)
reading_now modules draft = reading_where (are_settled modules draft.needs) (given_now modules draft)

reading_pending : (modules : Modules) (pending : PendingState) → IsFound modules pending → loadable_reading modules pending.path ≡ reading_now modules pending.draft
reading_pending modules pending is = ap (reading_in modules pending.path) is.found ∙ ap (reading_if_settled modules pending.path) is.reading_is ∙ ap (reading_now modules) (sym is.draft_is)

-- the path of what is wanted is that at which it was read
path_wanted : (is_start : Bool) (modules : Modules) (own path : Path) → IsStartPath is_start modules own → wanted_path (wanted_at is_start own) modules ≡ Some path → own ≡ path
path_wanted true modules own path is e = is ∙ cc
path_wanted false modules own path is e = cc

-- so it comes of what is wanted what comes of the document that was read
comes_of : (state : ModulesState) (pending : PendingState) (new : Load) (text : List ℕ) (memory memory_after : MemoryState)
    → ((modules : Modules) → StandsFor state modules → (happened : List Happening) → modules ≡ behind_all happened → RemembersTruly happened memory → IsFound modules pending → (read : Reader) → IsReader read
    → LoadsTruly read modules happened (wanted_of (kept.Pending pending)) pending.path new text memory memory_after)
    → (modules : Modules) → StandsFor state modules → (happened : List Happening) → modules ≡ behind_all happened → RemembersTruly happened memory → IsFound modules pending
    → (path : Path) → wanted_path (wanted_of (kept.Pending pending)) modules ≡ Some path → (read : Reader) → IsReader read
    → LoadsTruly read modules happened (wanted_of (kept.Pending pending)) path new text memory memory_after
comes_of state pending new text memory memory_after comes modules stands happened reached truly is path e read right =
    subst (λ (p : Path). LoadsTruly read modules happened (wanted_of (kept.Pending pending)) p new text memory memory_after) (path_wanted pending.is_start modules pending.path path is.path_is e)
    (comes modules stands happened reached truly is read right)

-- ---- what is remembered

-- nothing was loaded
pub nothing_loaded : (modules : Modules) (happened : List Happening) (path : Path) (memory : MemoryState) → RemembersTruly happened memory → loadable_reading modules path ≡ None → RemembersBehind happened (option_to_list (loaded_at modules path)) memory memory
nothing_loaded modules happened path memory truly none =
    subst (λ (o : Option (Result DraftState DocFault)). RemembersBehind happened (option_to_list (option_and_then (loaded_as modules path) o)) memory memory) (sym none) (none_more happened memory truly)

-- it was refused
pub refused_loaded : (modules : Modules) (happened : List Happening) (path : Path) (memory : MemoryState) (fault : DocFault) → RemembersTruly happened memory → loadable_reading modules path ≡ Some (Err fault)
    → RemembersBehind happened (option_to_list (loaded_at modules path)) memory memory
refused_loaded modules happened path memory fault truly refused =
    subst (λ (o : Option (Result DraftState DocFault)). RemembersBehind happened (option_to_list (option_and_then (loaded_as modules path) o)) memory memory) (sym refused) (none_more happened memory truly)

document_loaded : (modules : Modules) (happened : List Happening) (path : Path) (draft : DraftState) (memory memory_after : MemoryState) → loadable_reading modules path ≡ Some (Ok draft) → RemembersBehind happened (load_at modules path draft ∷ []) memory memory_after
    → RemembersBehind happened (option_to_list (loaded_at modules path)) memory memory_after
document_loaded modules happened path draft memory memory_after loads remembers =
    subst (λ (o : Option (Result DraftState DocFault)). RemembersBehind happened (option_to_list (option_and_then (loaded_as modules path) o)) memory memory_after) (sym loads) remembers

-- wherever it waits, it is the same document
abbrev pub at_place : ℕ → PendingState → PendingState
at_place place pending = record pending { place = place }

moved : (modules : Modules) (pending : PendingState) (place : ℕ) → IsFound modules pending → IsFound modules (at_place place pending)
moved modules pending place is = record {
  path_is = is.path_is;
  component_fits = is.component_fits;
  module_fits = is.module_fits;
  bytes = is.bytes;
  found = is.found;
  reading_is = is.reading_is;
  draft_is = is.draft_is;
}

-- ---- the need at a place

at_drop : (start : ℕ) (needs : List Path) (place : ℕ) → slice_get (drop start needs) place ≡ slice_get needs (start + place)
at_drop zero needs place = let e : place ≡ zero + place = omega arith in ap (slice_get needs) e
at_drop (suc start) [] place = refl
at_drop (suc start) (x ∷ needs) place = let e : suc (start + place) ≡ suc start + place = omega arith in at_drop start needs place ∙ ap (slice_get (x ∷ needs)) e

at_take : (end : ℕ) (needs : List Path) (place : ℕ) (need : Path) → slice_get (take end needs) place ≡ Some need → slice_get needs place ≡ Some need
at_take zero needs place need h = absurd cc
at_take (suc end) [] place need h = absurd cc
at_take (suc end) (x ∷ needs) zero need h = h
at_take (suc end) (x ∷ needs) (suc place) need h = at_take end needs place need h

pub waits_behind : (state : ModulesState) (needs : List Path) (start place : ℕ) → WaitsAt state (drop start needs) place → WaitsAt state needs (start + place)
waits_behind state needs start place w = record { need = w.need; is_there = sym (at_drop start needs place) ∙ w.is_there; waits = w.waits }

pub waits_before : (state : ModulesState) (needs : List Path) (end place : ℕ) → WaitsAt state (take end needs) place → WaitsAt state needs place
waits_before state needs end place w = record { need = w.need; is_there = at_take end needs place w.need w.is_there; waits = w.waits }

never_both : (b : Bool) → (b && false) ≡ false
never_both true = refl
never_both false = refl

unsettled_at : (modules : Modules) (needs : List Path) (place : ℕ) (need : Path) → slice_get needs place ≡ Some need → look_up modules need ≡ Waiting → are_settled modules needs ≡ false
unsettled_at modules [] place need h waits = absurd cc
unsettled_at modules (x ∷ needs) zero need h waits =
    let same : x ≡ need = cc in
    ap (λ (r : Resource). is_settled r && are_settled modules needs) (ap (look_up modules) same ∙ waits)
unsettled_at modules (x ∷ needs) (suc place) need h waits =
    ap (λ (b : Bool). is_settled (look_up modules x) && b) (unsettled_at modules needs place need h waits) ∙ never_both (is_settled (look_up modules x))

-- something is waited for
pub goes_on : (state : ModulesState) (pending : PendingState) (place : ℕ) (memory : MemoryState) (before : List ℕ) → WaitsAt state pending.draft.needs place → Loads state (kept.Pending pending) (load.Waits (kept.Pending (at_place place pending))) memory memory before before
goes_on state pending place memory before w = record {
  text = [];
  printed = sym (append-nil before);
  loads = comes_of state pending (load.Waits (kept.Pending (at_place place pending))) [] memory memory (λ modules stands happened reached truly is read right.
      let none = reading_pending modules pending is ∙ ap (λ (b : Bool). reading_where b (given_now modules pending.draft)) (unsettled_at modules pending.draft.needs place w.need w.is_there (w.waits modules stands)) in
      record {
        loads = record { none = none; still = refl; current = moved modules pending place is; silent = refl };
        remembers = nothing_loaded modules happened pending.path memory truly none;
      });
}

-- ---- the document that is loaded

-- it is the one that the draft opens
opened_as : (read : Reader) (path : Path) (draft : DraftState) (items : List Item) (rules : List Rule) (programs : List ToldProgram) (handlers : List HandlerState) (bad : List ℕ) (document : KeptDocument)
    → document ≡ kept_first path items rules programs handlers document.owed document.lent document.now document.modules → items ≡ draft.items → rules ≡ document_rules draft → AreScripts read (sources_of draft) programs handlers bad
    → IsDocument document (document_of_draft read path draft)
opened_as read path draft items rules programs handlers bad document is items_are rules_are scripts = record {
  programs = subst (λ (told : List ToldProgram). AllZip Tells (programs_by read (sources_of draft)) told) (sym (ap (λ (d : KeptDocument). d.programs) is)) scripts.programs_are;
  others =
      is
      ∙ ap (λ (i : List Item). kept_first path i rules programs handlers document.owed document.lent document.now document.modules) items_are
      ∙ ap (λ (r : List Rule). kept_first path draft.items r programs handlers document.owed document.lent document.now document.modules) rules_are
      ∙ ap (λ (h : List HandlerState). kept_first path draft.items (document_rules draft) programs h document.owed document.lent document.now document.modules) scripts.handlers_are
      ∙ same_beside document (document_of_draft read path draft) programs (ap (λ (d : KeptDocument). d.programs) is) (ap (λ (d : KeptDocument). d.worked) is) (ap (λ (d : KeptDocument). d.launched) is);
}
  where
    -- what is kept beside the document is the same
    same_beside : (k : KeptDocument) (d : Document) (told : List ToldProgram) → k.programs ≡ told → k.worked ≡ 0 → k.launched ≡ None
        → kept_as (record k { programs = told; worked = 0; launched = None }) d ≡ kept_as k d
    same_beside k d told programs worked launched =
        sym (ap (λ (l : List ToldProgram). kept_as (record k { programs = l }) d) programs ∙ ap (λ (n : ℕ). kept_as (record k { programs = told; worked = n }) d) worked
        ∙ ap (λ (p : Option Path). kept_as (record k { programs = told; worked = 0; launched = p }) d) launched)

-- the document is loaded, and acts
loads_document : (read : Reader) (modules : Modules) (happened : List Happening) (wanted : Wanted) (path : Path) (document : ToldDocument) (acting : KeptDocument) (memory memory_after : MemoryState) (before after : List ℕ) → IsReader read
    → HasDocument modules happened path document memory memory_after → LoadsDocument path document acting before after → LoadsTruly read modules happened wanted path (load.Loaded acting) (load_lines path document.bad) memory memory_after
loads_document read modules happened wanted path document acting memory memory_after before after right has loads =
    let scripts = has.document_is.scripts_are read right in
    record {
      loads = record {
        draft = has.draft;
        reading_is = has.reading_is;
        document_is =
            opened_as read path has.draft document.items document.rules document.programs document.handlers document.bad acting loads.acting_is
            has.document_is.tree_is has.document_is.rules_are scripts;
        text_is = ap (load_lines path) scripts.bad_are;
      };
      remembers = document_loaded modules happened path has.draft memory memory_after has.reading_is has.remembers;
    }

-- the document that was read is loaded, where nothing that it needs is waited for
pub settled_loads : (state : ModulesState) (pending : PendingState) (acting : KeptDocument) (memory memory_after : MemoryState) (before after : List ℕ)
    → ((modules : Modules) → StandsFor state modules → are_settled modules pending.draft.needs ≡ true) → LoadsSettled state pending.path pending.draft acting memory memory_after before after
    → Loads state (kept.Pending pending) (load.Loaded acting) memory memory_after before after
settled_loads state pending acting memory memory_after before after settled loads = record {
  text = load_lines pending.path loads.document.bad;
  printed = loads.acting_is.printed;
  loads = comes_of state pending (load.Loaded acting) (load_lines pending.path loads.document.bad) memory memory_after (λ modules stands happened reached truly is read right.
      let nothing = ap (λ (d : DraftState). d.given) is.draft_is ∙ ap (λ (needs : List Path). replicate (length needs) None) (sym (ap (λ (d : DraftState). d.needs) is.draft_is)) in
      let reading = reading_pending modules pending is ∙ ap (λ (b : Bool). reading_where b (given_now modules pending.draft)) (settled modules stands) in
      loads_document read modules happened (wanted_of (kept.Pending pending)) pending.path loads.document acting memory memory_after before after right
      (loads.provided modules stands happened reached truly nothing is.module_fits reading) loads.acting_is);
}

-- ---- where the document of a draft comes from

recalled_at : PathsStay → NumbersTell → (state : ModulesState) (modules : Modules) (happened : List Happening) (path : Path) (document : ToldDocument) (memory memory_after : MemoryState) → StandsFor state modules → modules ≡ behind_all happened → FitsModule path
    → RemembersTruly happened memory → HasRecalled state path document memory memory_after → HasDocument modules happened path document memory memory_after
recalled_at paths numbers state modules happened path document memory memory_after stands reached fits truly has =
    subst (λ (m : Modules). HasDocument m happened path document memory memory_after) (sym reached)
    (subst (HasDocument (behind_all happened) happened path document memory) (sym has.new_is)
    (recalled paths numbers happened path document memory has.entry fits truly (subst (λ (m : Modules). usable_at m path memory.entries ≡ Some has.entry) reached (has.usable modules stands)) has.copied))

-- it is remembered
pub provides_recalled : PathsStay → NumbersTell → (state : ModulesState) (path : Path) (draft : DraftState) (document : ToldDocument) (memory memory_after : MemoryState) → HasRecalled state path document memory memory_after
    → Provides state path draft document memory memory_after
provides_recalled paths numbers state path draft document memory memory_after has = λ modules stands happened reached truly nothing fits reading.
    recalled_at paths numbers state modules happened path document memory memory_after stands reached fits truly has

-- or it is made of the draft, and is remembered then
pub provides_kept : PathsStay → NumbersTell → (state : ModulesState) (path : Path) (draft : DraftState) (document : ToldDocument) (memory between memory_after : MemoryState)
    → Recalls state path None memory between → IsFinished state draft document → Keeps state path draft.needs document between memory_after → Provides state path draft document memory memory_after
provides_kept paths numbers state path draft document memory between memory_after recalls finished keeps = λ modules stands happened reached truly nothing fits reading.
    let given_is : finished.given ≡ given_now modules draft = finished.found nothing modules stands in
    let kept_is : memory_after ≡ memory_with (entries_with (number_at modules path) path (map (numbered modules) draft.needs) document memory.entries) memory.hits =
    keeps.kept modules stands ∙ ap (λ (m : MemoryState). memory_with (entries_with (number_at modules path) path (map (numbered modules) draft.needs) document m.entries) m.hits) recalls.1 in
    subst (HasDocument modules happened path document memory) (sym kept_is)
    (kept_at paths numbers modules happened path document (given_now modules draft) memory reached fits truly (recalls.0 modules stands) reading (subst (λ (d : DraftState). IsDocumentOf d document) given_is finished.document_is) keeps.fit)
  where
    kept_at : PathsStay → NumbersTell → (modules : Modules) (happened : List Happening) (path : Path) (document : ToldDocument) (draft : DraftState) (memory : MemoryState) → modules ≡ behind_all happened → FitsModule path → RemembersTruly happened memory
        → usable_at modules path memory.entries ≡ None → loadable_reading modules path ≡ Some (Ok draft) → IsDocumentOf draft document → All FitsModule draft.needs
        → HasDocument modules happened path document memory (memory_with (entries_with (number_at modules path) path (map (numbered modules) draft.needs) document memory.entries) memory.hits)
    kept_at paths numbers modules happened path document draft memory reached fits truly none reading is needs_fit =
        subst (λ (m : Modules). HasDocument m happened path document memory (memory_with (entries_with (number_at m path) path (map (numbered m) draft.needs) document memory.entries) memory.hits)) (sym reached)
        (kept_anew paths numbers happened path document draft memory fits truly (subst (λ (m : Modules). usable_at m path memory.entries ≡ None) reached none)
        (subst (λ (m : Modules). loadable_reading m path ≡ Some (Ok draft)) reached reading) is needs_fit)

-- ---- the document that is found

-- what was read under a path is the one that is there
pub is_read : (modules : Modules) (is_start : Bool) (path : Path) (bytes : List ℕ) (draft : DraftState) (pending : PendingState) → pending.is_start ≡ is_start → pending.path ≡ path → pending.draft ≡ draft → IsStartPath is_start modules path
    → path.component < 2 ^ 8 → path.«module» < 2 ^ 16 → look_up modules path ≡ Found bytes
    → ((items : List Item) × (reading_of bytes ≡ Ok items) × (draft ≡ draft_of path items)) → IsFound modules pending
is_read modules is_start path bytes draft pending start_is path_is draft_is start component_fits module_fits found reading =
    let items_are : pending.draft.items ≡ reading.0 = ap (λ (d : DraftState). d.items) (draft_is ∙ reading.2) in
    record {
      path_is = subst (λ (b : Bool). IsStartPath b modules pending.path) (sym start_is) (subst (IsStartPath is_start modules) (sym path_is) start);
      component_fits = subst (λ (p : Path). p.component < 2 ^ 8) (sym path_is) component_fits;
      module_fits = subst (λ (p : Path). p.«module» < 2 ^ 16) (sym path_is) module_fits;
      bytes = bytes;
      found = ap (look_up modules) path_is ∙ found;
      reading_is = reading.1 ∙ ap (λ (items : List Item). Ok items) (sym items_are);
      draft_is = draft_is ∙ reading.2 ∙ ap₂ draft_of (sym path_is) (sym items_are);
    }

-- a start path is the path of the start document, and every other is its own
path_is_wanted : (is_start : Bool) (modules : Modules) (path : Path) → IsStartPath is_start modules path → wanted_path (wanted_at is_start path) modules ≡ Some path
path_is_wanted true modules path is = ap (λ (p : Path). Some p) (sym is)
path_is_wanted false modules path is = refl

-- what comes of the document that was read comes of the one that is at this path
pub loads_read : {E : Type 0} (result : Result Load E) (state : ModulesState) (is_start : Bool) (path : Path) (pending : PendingState) (memory memory_after : MemoryState) (before after : List ℕ) → pending.is_start ≡ is_start → pending.path ≡ path
    → ((modules : Modules) → StandsFor state modules → IsStartPath is_start modules path → IsFound modules pending)
    → IfOk result (λ load. Loads state (kept.Pending pending) load memory memory_after before after) → IfOk result (λ load. LoadsUnread state is_start path load memory memory_after before after)
loads_read (Ok load) state is_start path pending memory memory_after before after start_is path_is is loads = record {
  text = loads.text;
  printed = loads.printed;
  loads = λ modules stands happened reached truly start read right.
      let same : wanted_at pending.is_start pending.path ≡ wanted_at is_start path = ap₂ wanted_at start_is path_is in
      subst (λ (w : Wanted). LoadsTruly read modules happened w path load loads.text memory memory_after) same
      (loads.loads modules stands happened reached truly (is modules stands start) path (ap (λ (w : Wanted). wanted_path w modules) same ∙ path_is_wanted is_start modules path start) read right);
}
loads_read (Err error) state is_start path pending memory memory_after before after start_is path_is is loads = tt

-- it isn't found, and so it is still waited for
pub waits_unread : (state : ModulesState) (is_start : Bool) (path : Path) (loading : Loading) (memory : MemoryState) (before : List ℕ) → loading ≡ unread_loading is_start path
    → ((modules : Modules) → StandsFor state modules → loadable_reading modules path ≡ None) → LoadsUnread state is_start path (load.Waits loading) memory memory before before
waits_unread state is_start path loading memory before is none =
    subst (λ (l : Loading). LoadsUnread state is_start path (load.Waits l) memory memory before before) (sym is) (record {
      text = [];
      printed = sym (append-nil before);
      loads = λ modules stands happened reached truly start read right. record {
        loads = record { none = none modules stands; still = still_wanted is_start path; current = unread_current is_start path modules; silent = refl };
        remembers = nothing_loaded modules happened path memory truly (none modules stands);
      };
    })
  where
    still_wanted : (is_start : Bool) (path : Path) → wanted_of (unread_loading is_start path) ≡ wanted_at is_start path
    still_wanted true path = refl
    still_wanted false path = refl

    unread_current : (is_start : Bool) (path : Path) (modules : Modules) → IsCurrent modules (unread_loading is_start path)
    unread_current true path modules = tt
    unread_current false path modules = tt

-- it is refused
pub refused_unread : (state : ModulesState) (is_start : Bool) (path : Path) (fault : DocFault) (memory : MemoryState) (before after : List ℕ) → after ≡ before ++ refuse_line path fault
    → ((modules : Modules) → StandsFor state modules → loadable_reading modules path ≡ Some (Err fault)) → LoadsUnread state is_start path load.Refused memory memory before after
refused_unread state is_start path fault memory before after printed refused = record {
  text = refuse_line path fault;
  printed = printed;
  loads = λ modules stands happened reached truly start read right. record {
    loads = record { fault = fault; reading_is = refused modules stands; text_is = refl };
    remembers = refused_loaded modules happened path memory fault truly (refused modules stands);
  };
}

-- it is remembered
pub remembered_unread : {E : Type 0} (result : Result Load E) → PathsStay → NumbersTell → (state : ModulesState) (is_start : Bool) (path : Path) (document : ToldDocument) (memory memory_after : MemoryState) (before after : List ℕ) → FitsModule path
    → HasRecalled state path document memory memory_after → IfOk result (λ load. LoadsRemembered path document load before after) → IfOk result (λ load. LoadsUnread state is_start path load memory memory_after before after)
remembered_unread (Ok (load.Loaded acting)) paths numbers state is_start path document memory memory_after before after fits has loads = record {
  text = load_lines path document.bad;
  printed = loads.printed;
  loads = λ modules stands happened reached truly start read right.
      loads_document read modules happened (wanted_at is_start path) path document acting memory memory_after before after right
      (recalled_at paths numbers state modules happened path document memory memory_after stands reached fits truly has) loads;
}
remembered_unread (Ok load.Refused) paths numbers state is_start path document memory memory_after before after fits has loads = absurd loads
remembered_unread (Ok (load.Waits loading)) paths numbers state is_start path document memory memory_after before after fits has loads = absurd loads
remembered_unread (Err error) paths numbers state is_start path document memory memory_after before after fits has loads = tt

-- what comes of a document that wasn't read comes of what is wanted
pub at_loads : {E : Type 0} (result : Result Load E) (state : ModulesState) (path : Path) (memory memory_after : MemoryState) (before after : List ℕ) → IfOk result (λ load. LoadsUnread state false path load memory memory_after before after)
    → IfOk result (λ load. Loads state (kept.At path) load memory memory_after before after)
at_loads (Ok load) state path memory memory_after before after loads = record {
  text = loads.text;
  printed = loads.printed;
  loads = λ modules stands happened reached truly current other e read right.
      let same : path ≡ other = cc e in
      subst (λ (p : Path). LoadsTruly read modules happened (wanted_at false path) p load loads.text memory memory_after) same (loads.loads modules stands happened reached truly tt read right);
}
at_loads (Err error) state path memory memory_after before after loads = tt

pub start_loads : {E : Type 0} (result : Result Load E) (state : ModulesState) (path : Path) (memory memory_after : MemoryState) (before after : List ℕ) → ((modules : Modules) → StandsFor state modules → path ≡ start_path modules)
    → IfOk result (λ load. LoadsUnread state true path load memory memory_after before after) → IfOk result (λ load. Loads state kept.Start load memory memory_after before after)
start_loads (Ok load) state path memory memory_after before after path_is loads = record {
  text = loads.text;
  printed = loads.printed;
  loads = λ modules stands happened reached truly current other e read right.
      let same : start_path modules ≡ other = cc e in
      subst (λ (p : Path). LoadsTruly read modules happened (wanted_at true path) p load loads.text memory memory_after) (path_is modules stands ∙ same)
      (loads.loads modules stands happened reached truly (path_is modules stands) read right);
}
start_loads (Err error) state path memory memory_after before after path_is loads = tt

-- a document that was read, or found no memory
pub provides_read : {E : Type 0} (result : Result Finished E) → PathsStay → NumbersTell → (state : ModulesState) (path : Path) (draft : DraftState) (memory between memory_after : MemoryState) → Recalls state path None memory between
    → IfOk result (λ document. IsFinished state draft (told_document document)) → IfOk result (λ document. Keeps state path draft.needs (told_document document) between memory_after)
    → IfOk result (λ document. Provides state path draft (told_document document) memory memory_after)
provides_read (Ok document) paths numbers state path draft memory between memory_after recalls finished keeps = provides_kept paths numbers state path draft (told_document document) memory between memory_after recalls finished keeps
provides_read (Err error) paths numbers state path draft memory between memory_after recalls finished keeps = tt
