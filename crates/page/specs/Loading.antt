-- The load of a document: when it can be loaded, what it is then, and what its load does (after BML, ARIB
-- STD-B24 volume 2, in this project's own profile).
use Rattle.std.specs.Prelude.{ℕ, Bool, true, false, if◌then◌else◌, List, [], map, Option, Some, None, Result, Ok, Err}
use Rattle.std.specs.List.{list_all}
use Rattle.bml_bytes.specs.Codes.{codes}
use Rattle.dom_tree.specs.Items.{Item}
use Rattle.bml_reader.specs.declared.faults.DocFault.{DocFault}
use Rattle.bml_reader.specs.Readings.{reading_of}
use Rattle.multipart_entities.specs.declared.paths.Path.{Path}
use Rattle.module_locks.specs.Locks.{Modules, look_up, start_path}
use Rattle.module_store.specs.Resources.{Resource}
use Rattle.module_store.specs.Resources.Resource.{Found, Waiting, Missing}
use Rattle.es_reader.specs.Readers.{Reader}
use Rattle.document_load.specs.Drafts.{DraftState, draft_of, with_gifts}
use Rattle.document_load.specs.Needs.{needs_of}
use Rattle.document_load.specs.Scripts.{bad_numbers, handlers_by, programs_by, sources_of}
use Rattle.document_load.specs.StyleTexts.{document_rules}
use Rattle.event_items.specs.Subscriptions.{first_items}
use Rattle.acting_documents.specs.Documents.{Document, first_tree}
use Rattle.acting_documents.specs.Beginnings.{load_effect}
use Rattle.page.specs.Lines.{load_lines, refuse_line}
use Rattle.page.specs.State.{State, Step, Wanted, scene_in, step_behind, step_of}
use Rattle.page.specs.State.Wanted.{StartDocument, DocumentAt, NoDocument}

-- ---- which documents can be loaded

-- it is found or missing, and so isn't waited for
abbrev pub is_settled : Resource → Bool
is_settled (Found bytes) = true
is_settled Waiting = false
is_settled Missing = true

abbrev pub are_settled : Modules → List Path → Bool
are_settled modules needs = list_all (λ need. is_settled (look_up modules need)) needs

-- what is found is given to the document as text; nothing is given for what is missing
abbrev pub text_found : Resource → Option (List ℕ)
text_found (Found bytes) = Some (codes bytes)
text_found Waiting = None
text_found Missing = None

abbrev pub text_at : Modules → Path → Option (List ℕ)
text_at modules need = text_found (look_up modules need)

-- the document with these nodes, for each of whose needs what is found now is given
abbrev pub given_draft : Modules → Path → List Item → DraftState
given_draft modules path items =
    with_gifts (map (text_at modules) (needs_of path items)) (draft_of path items)

-- A document can be loaded once none of its needs is waited for, and one that is refused has no needs.
abbrev pub reading_if_settled : Modules → Path → Result (List Item) DocFault
    → Option (Result DraftState DocFault)
reading_if_settled modules path (Ok items) =
    if are_settled modules (needs_of path items) then Some (Ok (given_draft modules path items))
    else None
reading_if_settled modules path (Err fault) = Some (Err fault)

abbrev pub reading_in : Modules → Path → Resource → Option (Result DraftState DocFault)
reading_in modules path (Found bytes) = reading_if_settled modules path (reading_of bytes)
reading_in modules path Waiting = None
reading_in modules path Missing = None

-- what is there under a path to be loaded: a document with what it needs, or why it is refused
abbrev pub loadable_reading : Modules → Path → Option (Result DraftState DocFault)
loadable_reading modules path = reading_in modules path (look_up modules path)

-- the path of the document that is wanted; that of the start document is found anew each time
abbrev pub wanted_path : Wanted → Modules → Option Path
wanted_path StartDocument modules = Some (start_path modules)
wanted_path (DocumentAt path) modules = Some path
wanted_path NoDocument modules = None

-- ---- the document, before its scripts run

abbrev pub document_of_draft : Reader → Path → DraftState → Document
document_of_draft read path draft =
    record {
      path = path;
      tree = first_tree draft.items (document_rules draft);
      items = first_items path draft.items;
      queue = [];
      programs = programs_by read (sources_of draft);
      handlers = handlers_by read (sources_of draft);
      globals = [];
      heap = [];
    }

-- ---- the load

-- none is wanted while its scripts run; they may launch another
abbrev pub load_step : State → Path → DraftState → Step
load_step s path draft =
    step_behind (load_lines path (bad_numbers s.read (sources_of draft)))
    (step_of (record s { wanted = NoDocument })
    (load_effect (scene_in s (document_of_draft s.read path draft))))

-- behind a document that is refused there is none, and none is wanted
abbrev pub load : State → Path → Result DraftState DocFault → Step
load s path (Ok draft) = load_step s path draft
load s path (Err fault) =
    record {
      state = record s { document = None; wanted = NoDocument };
      text = refuse_line path fault;
    }
