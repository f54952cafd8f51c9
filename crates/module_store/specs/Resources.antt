-- The resources of modules (ARIB STD-B24, volumes 2 and 3, in this project's own profile).
use Rattle.std.specs.Prelude.{◌≤◌, ℕ, Bool, true, if◌then◌else◌, List, [], ◌∷◌, length, Option, Some, None, option_map, option_and_then, Result, Ok, Err, codes as ascii}
use Rattle.std.specs.Option.{option_map_or}
use Rattle.std.specs.List.{slice_range}
use Rattle.dsmcc_messages.specs.declared.dii.Dii.{Dii}
use Rattle.dsmcc_messages.specs.Reading.{descriptor_in}
use Rattle.carousel_blocks.specs.declared.standing.SkipCause.{SkipCause}
use Rattle.carousel_blocks.specs.declared.standing.Standing.{Standing}
use Rattle.carousel_blocks.specs.Message.{Message}
use Rattle.carousel_blocks.specs.InForce.{in_force, standing_of}
use Rattle.carousel_blocks.specs.Held.{bytes_held}
use Rattle.carousel_blocks.specs.Carousel.{entry_in_force}
use Rattle.multipart_entities.specs.declared.faults.EntityFault.{EntityFault}
use Rattle.multipart_entities.specs.declared.parts.Part.{Part}
use Rattle.multipart_entities.specs.declared.paths.Path.{Path}
use Rattle.multipart_entities.specs.Boundaries.{is_multipart}
use Rattle.multipart_entities.specs.Parts.{named_parts, place_of}
use Rattle.module_store.specs.declared.resources.Look.{Look}
use Rattle.module_store.specs.declared.resources.Look.TheVariants as looks
use Rattle.module_store.specs.declared.resources.ModulePresence.{ModulePresence}
use Rattle.module_store.specs.declared.resources.ModulePresence.TheVariants as presences
use Rattle.module_store.specs.Store.{Stored, messages_of_component}

-- ---- what a module holds

-- A module whose Type descriptor is absent or tells several parts holds an entity, and every other module is one
-- resource. Of several Type descriptors the first counts, and info of another form has none.
abbrev pub holds_entity : List ℕ → Bool
holds_entity info = option_map_or is_multipart (descriptor_in info 0x01) true

-- the bytes of a part; a malformed entity has none
abbrev pub part_in : List ℕ → List ℕ → Result (List Part) EntityFault → Option (List ℕ)
part_in bytes name (Err fault) = None
part_in bytes name (Ok parts) = option_map (λ place. slice_range bytes place.0 place.1) (place_of name parts)

-- a module that is one resource has its bytes under the empty name
abbrev pub whole_named : List ℕ → List ℕ → Option (List ℕ)
whole_named bytes [] = Some bytes
whole_named bytes (code ∷ codes) = None

-- the bytes that these bytes have under a name, as an entity or as one resource
unfoldable pub named_as : Bool → List ℕ → List ℕ → Option (List ℕ)
named_as is_entity bytes name = if is_entity then part_in bytes name (named_parts bytes) else whole_named bytes name

-- the bytes that a module with this info and these bytes has under a name
abbrev pub named_in : List ℕ → List ℕ → List ℕ → Option (List ℕ)
named_in info bytes name = named_as (holds_entity info) bytes name

-- ---- what a look-up finds

-- the resource's bytes; or its module is announced, or may be, and isn't there yet; or there is none
pub data Resource : Type 0 where
  Found : List ℕ → Resource
  Waiting : Resource
  Missing : Resource

-- the same of what the code answers
abbrev pub resource_of : Look → Resource
resource_of (looks.Found bytes) = Found bytes.now
resource_of looks.Waiting = Waiting
resource_of looks.Missing = Missing

-- what is found has at most so many bytes
abbrev pub HasAtMost : ℕ → Resource → Type 0
HasAtMost limit (Found bytes) = length bytes ≤ limit
HasAtMost limit Waiting = Unit {0}
HasAtMost limit Missing = Unit {0}

-- missing where nothing has the name
abbrev pub found_or_missing : Option (List ℕ) → Resource
found_or_missing None = Missing
found_or_missing (Some bytes) = Found bytes

-- what an unskipped module has under a name: it is waited for until it is held
abbrev pub look_at : List ℕ → Option (List ℕ) → List ℕ → Resource
look_at info None name = Waiting
look_at info (Some bytes) name = found_or_missing (named_in info bytes name)

-- a skipped module has nothing
abbrev pub look_unless : Option SkipCause → List ℕ → Option (List ℕ) → List ℕ → Resource
look_unless None info bytes name = look_at info bytes name
look_unless (Some cause) info bytes name = Missing

-- what a module has by its standing, and its bytes, where it is held; without an entry it has nothing
abbrev pub look_by : Option Standing → Option (List ℕ) → List ℕ → Resource
look_by None bytes name = Missing
look_by (Some standing) bytes name = look_unless standing.skip standing.entry.info bytes name

-- what a component has behind its messages, with the DII in force; as long as there is none, anything may come
abbrev pub look_behind : Option Dii → List Message → ℕ → List ℕ → Resource
look_behind None messages number name = Waiting
look_behind (Some dii) messages number name = look_by (standing_of (Some dii) number) (bytes_held messages number) name

-- what a component has, where it is in the map
abbrev pub look_in : Option (List Message) → ℕ → List ℕ → Resource
look_in None number name = Missing
look_in (Some messages) number name = look_behind (in_force messages) messages number name

-- what is there under a path
abbrev pub look : Stored → Path → Resource
look stored path = look_in (messages_of_component stored path.component) path.module path.name

-- ---- whether a module is there

-- It has no entry in force, or a skipped one; or it is announced, and isn't held yet; or it is held, with whether it
-- holds an entity, and its bytes.
pub data Presence : Type 0 where
  Absent : Presence
  Announced : Presence
  Held : Bool → List ℕ → Presence

-- the same of what the code answers
abbrev pub presence_of : ModulePresence → Presence
presence_of presences.Absent = Absent
presence_of presences.Announced = Announced
presence_of (presences.Held is_entity bytes) = Held is_entity bytes.now

-- a module that is held has at most so many bytes
abbrev pub HoldsAtMost : ℕ → Presence → Type 0
HoldsAtMost limit Absent = Unit {0}
HoldsAtMost limit Announced = Unit {0}
HoldsAtMost limit (Held is_entity bytes) = length bytes ≤ limit

-- an unskipped module with this info, by its bytes, where it is held
abbrev pub presence_by : List ℕ → Option (List ℕ) → Presence
presence_by info None = Announced
presence_by info (Some bytes) = Held (holds_entity info) bytes

abbrev pub presence_unless : Option SkipCause → List ℕ → Option (List ℕ) → Presence
presence_unless None info bytes = presence_by info bytes
presence_unless (Some cause) info bytes = Absent

abbrev pub presence_at : Option Standing → Option (List ℕ) → Presence
presence_at None bytes = Absent
presence_at (Some standing) bytes = presence_unless standing.skip standing.entry.info bytes

-- in a component with these messages, where it is in the map
abbrev pub presence_in : Option (List Message) → ℕ → Presence
presence_in None number = Absent
presence_in (Some messages) number = presence_at (standing_of (in_force messages) number) (bytes_held messages number)

-- of a module of a component
abbrev pub presence : Stored → ℕ → ℕ → Presence
presence stored component number = presence_in (messages_of_component stored component) number

-- ---- the start document

abbrev pub start_component : ℕ
start_component = 0x40

-- the info of a module's entry in force
abbrev pub info_in_force : List Message → ℕ → Option (List ℕ)
info_in_force messages number = option_map (λ entry. entry.info) (entry_in_force messages number)

-- the module is the start document where it is one resource, and else its part of this name is
abbrev pub start_name : Option (List ℕ) → List ℕ
start_name None = ascii "startup.bml"
start_name (Some info) = if holds_entity info then ascii "startup.bml" else []

-- The start document is in module 0000 of component 0x40.
abbrev pub start_info : Stored → Option (List ℕ)
start_info stored = option_and_then (λ messages. info_in_force messages 0) (messages_of_component stored start_component)

abbrev pub start_path : Stored → Path
start_path stored = record { component = start_component; «module» = 0; name = start_name (start_info stored) }
