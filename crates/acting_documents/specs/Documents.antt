-- The document of a page while it acts: its nodes and their styles, the focus, the events that wait, and the
-- world of its scripts (after BML and its scripts, ARIB STD-B24 volume 2, in this project's own profile).
use Rattle.std.specs.Prelude.{ℕ, ◌==◌, ◌&&◌, Bool, false, List, Option, find, option_map}
use Rattle.std.specs.Option.{option_map_or}
use Rattle.bml_bytes.specs.Words.{is_same}
use Rattle.dom_tree.specs.Items.{Item}
use Rattle.multipart_entities.specs.declared.paths.Path.{Path}
use Rattle.style_reader.specs.declared.properties.Property.TheVariants.{UsedKeyList}
use Rattle.style_reader.specs.declared.rules.Rule.{Rule}
use Rattle.style_cascade.specs.Cascade.{unwritten}
use Rattle.style_cascade.specs.StyledTrees.{StyledTree}
use Rattle.focus_keys.specs.KeyTables.{passes_list}
use Rattle.focus_keys.specs.Targets.{normal_value}
use Rattle.display_list.specs.Bodies.{body_of}
use Rattle.es_values.specs.declared.values.Value.{Value}
use Rattle.es_values.specs.Objects.{ObjectState}
use Rattle.es_reader.specs.Statements.{Item as ProgramItem}
use Rattle.event_items.specs.Subscriptions.{ItemsState}
use Rattle.event_queue.specs.declared.events.Event.{Event}
use Rattle.document_load.specs.HandlerKinds.{handler_name}
use Rattle.document_load.specs.Scripts.{HandlerState}
use Rattle.document_load.specs.declared.handler_kinds.HandlerKind.{HandlerKind}
use Rattle.document_stages.specs.Acting.{no_focus}
use Rattle.document_stages.specs.Displays.{tree_lines}

pub record Document : Type 0 where
  -- the path at which it was found
  pub path : Path
  -- the nodes, what their styles come from, and which of them have the focus and are active
  pub tree : StyledTree
  -- its event items, with which of them are subscribed and what they fired for
  pub items : ItemsState
  -- the events that wait for their dispatch, the one that waits longest in front
  pub queue : List Event
  -- the programs of the scripts in document order, and which of them are handlers
  pub programs : List (List ProgramItem)
  pub handlers : List HandlerState
  -- the global variables and the objects of the scripts
  pub globals : List (List ℕ × Value)
  pub heap : List ObjectState

-- the nodes before scripts run: what styles come from is their rules, and no element has the focus
abbrev pub first_tree : List Item → List Rule → StyledTree
first_tree items rules =
    record { items = items; sources = unwritten rules; focus = no_focus }

-- the handler is the value of that attribute of the node
abbrev pub is_handler : ℕ → HandlerKind → HandlerState → Bool
is_handler node kind handler =
    (handler.node == node) && is_same (handler_name kind) (handler_name handler.kind)

-- the place of its program among the document's, where the node has such a handler
unfoldable pub handler_in : List HandlerState → ℕ → HandlerKind → Option ℕ
handler_in handlers node kind =
    option_map (λ handler. handler.program) (find (is_handler node kind) handlers)

-- a key passes where the used-key-list of the body in the normal state has its group
unfoldable pub passes : ℕ → Document → Bool
passes key d =
    option_map_or (λ body. passes_list (normal_value d.tree body UsedKeyList) key)
    (body_of d.tree.items) false

-- the lines of its display list, as it is now: the boxes, texts and pictures, and the focus
abbrev pub document_lines : Document → List ℕ
document_lines d = tree_lines d.tree
