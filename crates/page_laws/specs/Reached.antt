-- Where a document has a node: what a handler that runs later can come to it by. (This project's own.)
use Rattle.std.specs.Prelude.{◌≡◌, ◌⊎◌, ℕ, List, Contains, Option, Some, None}
use Rattle.dom_tree.specs.NodeNumbers.{number_of}
use Rattle.es_values.specs.declared.values.HostRef.TheVariants.{Node}
use Rattle.es_values.specs.declared.values.Value.{Value}
use Rattle.es_values.specs.declared.values.Value.TheVariants.{Host}
use Rattle.es_values.specs.Objects.{ObjectState}
use Rattle.event_queue.specs.declared.events.Event.{Event}
use Rattle.event_queue.specs.declared.events.Event.TheVariants as events
use Rattle.acting_documents.specs.Documents.{Document}

-- a reference to the node
abbrev pub node_value : ℕ → Value
node_value node = Host (Node node)

-- a global has it
pub record IsGlobal (d : Document) (node : ℕ) : Type 0 where
  pub global : List ℕ × Value
  pub there : Contains d.globals global
  pub is : global.1 ≡ node_value node

-- a property of an object has it
pub record IsProperty (d : Document) (node : ℕ) : Type 0 where
  pub object : ObjectState
  pub object_there : Contains d.heap object
  pub property : List ℕ × Value
  pub there : Contains object.properties property
  pub is : property.1 ≡ node_value node

-- the node that an event names: where the focus came from or went to, what was clicked, and what an item is told
abbrev pub named_by : Event → Option ℕ
named_by (events.Focus node) = Some node
named_by (events.Blur node) = Some node
named_by (events.Click node) = Some node
named_by (events.Fired node component message) = Some node
named_by (events.Updated node status) = Some node
named_by (events.Locked node status) = Some node
named_by (events.Button node) = Some node
named_by (events.DataEvent node) = Some node
named_by other = None

-- an event that waits names it
pub record IsAwaited (d : Document) (node : ℕ) : Type 0 where
  pub event : Event
  pub there : Contains d.queue event
  pub is : named_by event ≡ Some node

-- it has the focus, or is active
abbrev pub IsFocused : Document → ℕ → Type 0
IsFocused d node =
    (number_of d.tree.focus.focus ≡ Some node) ⊎ (number_of d.tree.focus.active ≡ Some node)

-- A global or a property of an object has the node, an event that waits names it, or it has the focus. The function of a
-- timer is a global, and what it comes to it comes to by globals.
abbrev pub IsReached : Document → ℕ → Type 0
IsReached d node = IsGlobal d node ⊎ (IsProperty d node ⊎ (IsAwaited d node ⊎ IsFocused d node))
