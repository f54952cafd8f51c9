-- What a page is at a moment (after the receiver of ARIB STD-B24 volume 2, in this project's own profile).
use Rattle.std.specs.Prelude.{ℕ, Bool, false, List, [], ◌++◌, Option, Some, None}
use Rattle.module_locks.specs.Locks.{Modules, at_start}
use Rattle.multipart_entities.specs.declared.paths.Path.{Path}
use Rattle.es_reader.specs.Readers.{Reader}
use Rattle.browser_objects.specs.Calls.{BrowserParts, without_document}
use Rattle.document_stages.specs.Acting.{first_browser}
use Rattle.acting_documents.specs.Beginnings.{data_event_effect, unload_effect}
use Rattle.acting_documents.specs.Documents.{Document}
use Rattle.acting_documents.specs.Runs.{Effect, Scene}

-- Which document is wanted next: the start document, whose path is found anew each time; that at a path, which a script
-- launched; or none.
pub data Wanted : Type 0 where
  StartDocument : Wanted
  DocumentAt : Path → Wanted
  NoDocument : Wanted

pub record State : Type 0 where
  -- which programs texts are, which never changes
  pub read : Reader
  -- the document that is there, and which is wanted
  pub document : Option Document
  pub wanted : Wanted
  -- whether a data event waits
  pub data_event : Bool
  -- the time, in milliseconds
  pub clock : ℕ
  -- the registers, the persistent area and the random words that are left, and the timers of the document
  pub browser : BrowserParts
  -- the modules of the service, with the locks on them
  pub modules : Modules

-- before anything came, with that area: there are neither modules nor a document, and the start document is wanted
abbrev pub opening : Reader → List ℕ → State
opening read area =
    record {
      read = read;
      document = None;
      wanted = StartDocument;
      data_event = false;
      clock = 0;
      browser = first_browser area;
      modules = at_start;
    }

-- the persistent area
abbrev pub area_of : State → List ℕ
area_of s = s.browser.area

-- with these modules
abbrev pub with_modules : Modules → State → State
with_modules modules s = record s { modules = modules }

-- a document that is there, with what it acts on beside itself
abbrev pub scene_in : State → Document → Scene
scene_in s d = record { document = d; browser = s.browser; now = s.clock; modules = s.modules }

-- ---- steps

-- a step: the state that it leaves, and what it prints
pub record Step : Type 0 where
  pub state : State
  pub text : List ℕ

-- nothing is done
abbrev pub still : State → Step
still s = record { state = s; text = [] }

-- a step, with what was printed before it
abbrev pub step_behind : List ℕ → Step → Step
step_behind text t = record { state = t.state; text = text ++ t.text }

-- the document goes on
abbrev pub goes_on : State → Scene → State
goes_on s scene =
    record s {
      document = Some scene.document;
      browser = scene.browser;
      modules = scene.modules;
    }

-- Behind a document that ended there is none: its timers and its tables end with it, and this one is wanted. The locks stay.
abbrev pub without_document_for : Wanted → State → Scene → State
without_document_for wanted s scene =
    record s {
      document = None;
      wanted = wanted;
      browser = without_document scene.browser;
      modules = scene.modules;
    }

-- A document gives way to the one at a path: its `unload` is handled.
abbrev pub gives_way : Path → State → Scene → Step
gives_way path s scene =
    let e = unload_effect scene in
    record { state = without_document_for (DocumentAt path) s e.scene; text = e.text }

-- A document ends at a data event: the start document is wanted.
abbrev pub ends_for_data_event : State → Scene → Step
ends_for_data_event s scene =
    let e = data_event_effect scene in
    record { state = without_document_for StartDocument s e.scene; text = e.text }

-- what becomes of a document that goes on or has launched another
abbrev pub stays_or_goes : Option Path → State → Scene → Step
stays_or_goes None s scene = still (goes_on s scene)
stays_or_goes (Some path) s scene = gives_way path s scene

-- the state behind what became of the document
abbrev pub step_of : State → Effect → Step
step_of s e = step_behind e.text (stays_or_goes e.launched s e.scene)
