-- What the run of a script comes to in a document. A run is a tree of what it asks of its host; here each
-- question is answered by the rows of the document and of the browser object. (This project's own.)
use Rattle.std.specs.Prelude.{ℕ, List, [], ◌++◌, Option, Some, None, map}
use Rattle.es_eval.specs.declared.outcomes.Outcome.{Outcome}
use Rattle.es_eval.specs.Evaluation.{global_run, run_at}
use Rattle.es_shapes.specs.Sources.{program_of}
use Rattle.es_eval.specs.Worlds.{World, Run}
use Rattle.es_eval.specs.Worlds.Run.{Over, Reads, Writes, Calls}
use Rattle.multipart_entities.specs.declared.paths.Path.{Path}
use Rattle.dom_objects.specs.declared.current_events.CurrentEvent.{CurrentEvent}
use Rattle.browser_objects.specs.Calls.{BrowserParts}
use Rattle.document_stages.specs.Acting.{Acting, member_value, with_member_set}
use Rattle.document_stages.specs.Hosting.{HostParts, reply_of_call}
use Rattle.module_locks.specs.Locks.{Modules}
use Rattle.acting_documents.specs.Documents.{Document}
use Rattle.acting_documents.specs.StopLines.{stop_lines}

-- how it ended, the script's world then, and what it left of what it acts on
pub record End : Type 0 where
  pub outcome : Outcome
  pub world : World
  pub hosted : HostParts

unfoldable pub end_of_run : Run → HostParts → End
end_of_run (Over outcome w) h = record { outcome = outcome; world = w; hosted = h }
end_of_run (Reads base name go) h = end_of_run (go (member_value h.acting base name)) h
end_of_run (Writes base name value heap go) h =
    end_of_run go (record h { acting = with_member_set h.acting base name value heap })
end_of_run (Calls base name arguments heap go) h =
    end_of_run (go (reply_of_call h base name arguments heap).answer
    (reply_of_call h base name arguments heap).heap)
    (reply_of_call h base name arguments heap).hosted

-- ---- in a document

-- a document that acts; the registers, the persistent area and the random words, which belong to the receiver, and the
-- timers; the time; and the modules of the service, with the locks on them
pub record Scene : Type 0 where
  pub document : Document
  pub browser : BrowserParts
  pub now : ℕ
  pub modules : Modules

-- what became of them, the path of the document that was launched, if one was, and what was printed
pub record Effect : Type 0 where
  pub scene : Scene
  pub launched : Option Path
  pub text : List ℕ

abbrev pub no_effect : Scene → Effect
no_effect s = record { scene = s; launched = None; text = [] }

-- the effect, with what was printed before it
abbrev pub effect_behind : List ℕ → Effect → Effect
effect_behind text e = record e { text = text ++ e.text }

-- One thing, and then another. Where another document was launched, this one does nothing more.
abbrev pub unless_launched : Option Path → (Scene → Effect) → Effect → Effect
unless_launched None more e = effect_behind e.text (more e.scene)
unless_launched (Some path) more e = e

abbrev pub and_then : (Scene → Effect) → Effect → Effect
and_then more e = unless_launched e.launched more e

-- One thing, and then another, in a document that ends: it launches none.
abbrev pub followed_by : (Scene → Effect) → Effect → Effect
followed_by more e = effect_behind e.text (more e.scene)

-- what the handler of an event acts on, behind which nothing is printed yet
abbrev pub acting_in : CurrentEvent → Scene → Acting
acting_in event s =
    record {
      path = s.document.path;
      tree = s.document.tree;
      items = s.document.items;
      queue = s.document.queue;
      browser = s.browser;
      now = s.now;
      event = event;
      launched = None;
      text = [];
    }

-- what was left of it
abbrev pub with_acting : Acting → Scene → Scene
with_acting a s =
    record s {
      document = record s.document { tree = a.tree; items = a.items; queue = a.queue };
      browser = a.browser;
    }

-- the same with the modules, for its scripts
abbrev pub host_parts_in : CurrentEvent → Scene → HostParts
host_parts_in event s = record { acting = acting_in event s; modules = s.modules }

abbrev pub with_host_parts : HostParts → Scene → Scene
with_host_parts h s = record (with_acting h.acting s) { modules = h.modules }

abbrev pub with_world : World → Scene → Scene
with_world w s =
    record s { document = record s.document { globals = w.globals; heap = w.heap } }

-- the most steps of a script or a handler
unfoldable pub most_steps : ℕ
most_steps = 100000

-- what an end of a script that ran for the event of this name leaves
abbrev pub effect_of_end : List ℕ → Scene → End → Effect
effect_of_end name s e =
    record {
      scene = with_world e.world (with_host_parts e.hosted s);
      launched = e.hosted.acting.launched;
      text = e.hosted.acting.text ++ stop_lines e.outcome name;
    }

-- the program at a place runs, for the event of this name, as the handler of the current event
unfoldable pub run_program : List ℕ → CurrentEvent → ℕ → Scene → Effect
run_program name event place s =
    let d = s.document in
    effect_of_end name s
    (end_of_run (run_at (map program_of d.programs) place d.globals d.heap most_steps)
    (host_parts_in event s))

-- outside of handlers there is no current event
abbrev pub no_event : CurrentEvent
no_event = record { event = None; target = 0 }

-- the global of a name is called without arguments, for the event of that other name and without a current one
unfoldable pub run_function : List ℕ → List ℕ → Scene → Effect
run_function name function s =
    let d = s.document in
    effect_of_end name s
    (end_of_run (global_run (map program_of d.programs) function d.globals d.heap most_steps)
    (host_parts_in no_event s))

-- something is done to what handlers act on, outside of them
abbrev pub effect_of_change : (Acting → Acting) → Scene → Effect
effect_of_change change s =
    let a = change (acting_in no_event s) in
    record { scene = with_acting a s; launched = a.launched; text = a.text }
