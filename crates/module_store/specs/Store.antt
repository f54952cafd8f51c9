-- The components of a service with the messages of their carousels, the deliveries of their modules, and what one more
-- section or another component map changes (this project's own, after ARIB STD-B24, volume 3).
use Rattle.std.specs.Prelude.{ℕ, ◌+◌, ◌-◌, ◌^◌, ◌==◌, min, Bool, ◌&&◌, if◌then◌else◌, List, [], ◌∷◌, ◌++◌, map, find, Option, Some, None, is_some, option_map, option_and_then}
use Rattle.std.specs.List.{filter_map, flat_map, list_any, range_with_len}
use Rattle.std.specs.Option.{option_or}
use Rattle.psi_tables.specs.declared.components.Component.{Component}
use Rattle.carousel_blocks.specs.declared.changes.Change.{Change}
use Rattle.carousel_blocks.specs.declared.changes.ChangeLine.{ChangeLine}
use Rattle.carousel_blocks.specs.declared.changes.ChangeLine.TheVariants.{Delivered}
use Rattle.carousel_blocks.specs.Message.{Message, messages_of}
use Rattle.carousel_blocks.specs.Held.{bytes_held}
use Rattle.carousel_blocks.specs.Changes.{changes, departures}

-- a component of the map, with the messages that came since it got its PID
pub record Followed : Type 0 where
  pub tag : ℕ
  pub pid : ℕ
  pub messages : List Message

-- the components of the map, and the deliveries so far, in order: the component and the module of each
pub record Stored : Type 0 where
  pub components : List Followed
  pub deliveries : List (ℕ × ℕ)

-- before the first component map
abbrev pub at_start : Stored
at_start = record { components = []; deliveries = [] }

-- the component with that tag
abbrev pub component_in : List Followed → ℕ → Option Followed
component_in components tag = find (λ component. component.tag == tag) components

abbrev pub messages_of_component : Stored → ℕ → Option (List Message)
messages_of_component stored tag = option_map (λ component. component.messages) (component_in stored.components tag)

-- the PID of the component with that tag
abbrev pub pid_of : Stored → ℕ → Option ℕ
pid_of stored tag = option_map (λ component. component.pid) (component_in stored.components tag)

-- the bytes of a module of a component, where it is held
abbrev pub held_in : Stored → ℕ → ℕ → Option (List ℕ)
held_in stored tag number = option_and_then (λ messages. bytes_held messages number) (messages_of_component stored tag)

-- ---- one more section of a component

abbrev pub changes_behind : Option (List Message) → List ℕ → List Change
changes_behind None section = []
changes_behind (Some messages) section = changes messages (messages ++ messages_of (section ∷ []))

-- what it changes in the component's modules, in ascending module number
abbrev pub changes_by : ℕ → List ℕ → Stored → List Change
changes_by tag section stored = changes_behind (messages_of_component stored tag) section

-- the module that a change delivers, where it delivers one
abbrev pub delivered_by : ℕ → Option ChangeLine → Option ℕ
delivered_by number (Some (Delivered version size)) = Some number
delivered_by number _ = None

abbrev pub deliveries_of : List Change → List ℕ
deliveries_of changes = filter_map (λ change. delivered_by change.module change.line) changes

abbrev pub followed_with : ℕ → List ℕ → Followed → Followed
followed_with tag section component =
    if component.tag == tag then record { tag = component.tag; pid = component.pid; messages = component.messages ++ messages_of (section ∷ []) } else component

-- with its message behind those of the component, and the modules that it delivers behind the deliveries
abbrev pub with_section : ℕ → List ℕ → Stored → Stored
with_section tag section stored = record {
  components = map (followed_with tag section) stored.components;
  deliveries = stored.deliveries ++ map (λ number. (tag, number)) (deliveries_of (changes_by tag section stored));
}

-- ---- another component map

-- the messages of a component, where it was followed on that PID
abbrev pub messages_on : ℕ → Option Followed → List Message
messages_on pid None = []
messages_on pid (Some component) = if component.pid == pid then component.messages else []

-- A component that was followed on the same PID keeps its messages; every other begins with none.
abbrev pub messages_kept : List Followed → Component → List Message
messages_kept followed component = messages_on component.pid (component_in followed component.tag)

abbrev pub followed_from : List Followed → Component → Followed
followed_from followed component = record { tag = component.tag; pid = component.pid; messages = messages_kept followed component }

-- the components of the map, in its order; the deliveries stay
abbrev pub with_map : List Component → Stored → Stored
with_map components stored = record { components = map (followed_from stored.components) components; deliveries = stored.deliveries }

-- the map has the component on the same PID
abbrev pub is_kept : List Component → ℕ → ℕ → Bool
is_kept components tag pid = list_any (λ component. (component.tag == tag) && (component.pid == pid)) components

-- what goes with a component that left the map or got another PID: the entry of each of its modules
abbrev pub gone_with : List Component → Option Followed → List (ℕ × Change)
gone_with components None = []
gone_with components (Some component) =
    if is_kept components component.tag component.pid then [] else map (λ change. (component.tag, change)) (departures component.messages)

-- component_tags have one byte
unfoldable pub tag_bound : ℕ
tag_bound = 256

-- the same for the components with tags below a bound
abbrev pub gone_below : ℕ → List Component → Stored → List (ℕ × Change)
gone_below bound components stored = flat_map (λ tag. gone_with components (component_in stored.components tag)) (range_with_len 0 bound)

-- what goes with all of them, each change with its component, in ascending component and then module number
abbrev pub gone_by : List Component → Stored → List (ℕ × Change)
gone_by components stored = gone_below tag_bound components stored

-- ---- the numbers of deliveries

-- the last place of a delivery of the module, where the first of the deliveries has this place
abbrev pub last_place_from : ℕ → ℕ → ℕ → List (ℕ × ℕ) → Option ℕ
last_place_from place tag number [] = None
last_place_from place tag number (delivery ∷ deliveries) =
    option_or (last_place_from (place + 1) tag number deliveries) (if (delivery.0 == tag) && (delivery.1 == number) then Some place else None)

-- places count from 1
abbrev pub last_place : ℕ → ℕ → List (ℕ × ℕ) → Option ℕ
last_place tag number deliveries = last_place_from 1 tag number deliveries

-- numbers go as far as 2^64 - 1
abbrev pub number_at : ℕ → ℕ
number_at place = min place (2 ^ 64 - 1)

-- the number of the delivery that brought a module which is held: the last of the module, counted over all components
abbrev pub number_of : Stored → ℕ → ℕ → Option ℕ
number_of stored tag number =
    if is_some (held_in stored tag number) then option_map number_at (last_place tag number stored.deliveries) else None
