-- A device of the proofs: what is kept of a document that acts, and for which document it stands.
use Rattle.std.specs.Prelude.{◌≡◌, ◌<◌, ◌^◌, ℕ, List, [], All, Option, None, length}
use Rattle.std.specs.List.{AllZip}
use Rattle.dom_tree.specs.Items.{Item}
use Rattle.module_locks.specs.Standing.{ModulesState}
use Rattle.multipart_entities.specs.declared.paths.Path.{Path}
use Rattle.style_reader.specs.declared.rules.Rule.{Rule}
use Rattle.style_cascade.specs.StyledTrees.{StyledTree}
use Rattle.display_list.specs.Bodies.{body_of}
use Rattle.es_values.specs.declared.values.Value.{Value}
use Rattle.es_values.specs.Objects.{ObjectState}
use Rattle.es_reader.specs.Programs.{Tells, ToldProgram}
use Rattle.es_shapes.specs.Codes.{declared_by}
use Rattle.es_eval.specs.Worlds.{IsNamedLive}
use Rattle.event_items.specs.Subscriptions.{ItemsState, first_items}
use Rattle.event_queue.specs.declared.events.Event.{Event}
use Rattle.document_load.specs.Scripts.{HandlerState, unnamed_places}
use Rattle.browser_objects.specs.Calls.{BrowserParts}
use Rattle.document_stages.specs.Stages.{StageState}
use Rattle.acting_documents.specs.Documents.{Document, first_tree}
use Rattle.acting_documents.specs.Runs.{no_event}

-- the document with what is told of its programs, which node is its body, how many values its
-- styles worked out and how many they owe, and what it is lent
pub record KeptDocument : Type 0 where
  pub path : Path
  pub tree : StyledTree
  pub items : ItemsState
  pub queue : List Event
  pub programs : List ToldProgram
  pub handlers : List HandlerState
  pub globals : List (List ℕ × Value)
  pub heap : List ObjectState
  pub body : Option ℕ
  pub worked : ℕ
  -- the number of pairs of an element and a property whose value in the element's present state
  -- isn't kept
  pub owed : ℕ
  -- what it is lent while it acts: what belongs to the receiver, with the timers; the time; and the modules
  pub lent : BrowserParts
  pub now : ℕ
  pub modules : ModulesState
  -- the path of the document that was launched
  pub launched : Option Path

-- what is kept for a document
abbrev pub kept_as : KeptDocument → Document → KeptDocument
kept_as kept d =
    record kept {
      path = d.path;
      tree = d.tree;
      items = d.items;
      queue = d.queue;
      handlers = d.handlers;
      globals = d.globals;
      heap = d.heap;
      body = body_of d.tree.items;
    }

-- what is kept is that of the document, whose programs are told
pub record IsDocument (kept : KeptDocument) (d : Document) : Type 0 where
  pub programs : AllZip Tells d.programs kept.programs
  pub others : kept ≡ kept_as kept d

-- what a document acts on before its scripts run, with these nodes and rules, where its styles owe
-- so many values
abbrev pub first_stage : Path → List Item → List Rule → ℕ → BrowserParts → ℕ → StageState
first_stage path items rules owed lent now =
    record {
      acting = record {
        path = path;
        tree = first_tree items rules;
        items = first_items path items;
        queue = [];
        browser = lent;
        now = now;
        event = no_event;
        launched = None;
        text = [];
      };
      worked = 0;
      owed = owed;
    }

-- a document before its scripts run, with these parts
abbrev pub kept_first : Path → List Item → List Rule → List ToldProgram → List HandlerState
    → ℕ → BrowserParts → ℕ → ModulesState → KeptDocument
kept_first path items rules programs handlers owed lent now modules =
    record {
      path = path;
      tree = first_tree items rules;
      items = first_items path items;
      queue = [];
      programs = programs;
      handlers = handlers;
      globals = [];
      heap = [];
      body = body_of items;
      worked = 0;
      owed = owed;
      lent = lent;
      now = now;
      modules = modules;
      launched = None;
    }

-- what is kept beside: the places of the script elements' programs; objects that the globals name are there;
-- and there are few functions
pub record IsActing (scripts : List ℕ) (programs : List ToldProgram) (handlers : List HandlerState)
    (globals : List (List ℕ × Value)) (heap : List ObjectState) : Type 0 where
  pub scripts_are : scripts ≡ unnamed_places (length programs) handlers
  pub live : All (IsNamedLive heap) globals
  pub few : length (declared_by programs) < 2 ^ 48
