-- The messages of a component since it got its PID, told by the list of all sections and component maps. (This
-- project's own.)
use Rattle.std.specs.Prelude.{◌≡◌, ◌<◌, ◌==◌, ◌&&◌, ℕ, Bool, true, false, if◌then◌else◌, List, [], ◌∷◌, ◌++◌, take, slice_get, Option, Some, None, option_map}
use Rattle.psi_tables.specs.declared.components.Component.{Component}
use Rattle.psi_tables.specs.Components.{pid_in}
use Rattle.carousel_blocks.specs.Message.{messages_of}
use Rattle.module_store.specs.Store.{Stored, messages_of_component, pid_of, with_map, with_section}

-- a section of a component, or another component map
pub data Told : Type 0 where
  Fed : ℕ → List ℕ → Told
  Mapped : List Component → Told

-- what the definitions make of it behind all of these
abbrev pub stored_behind : Stored → List Told → Stored
stored_behind stored [] = stored
stored_behind stored (Fed tag section ∷ behind) = stored_behind (with_section tag section stored) behind
stored_behind stored (Mapped components ∷ behind) = stored_behind (with_map components stored) behind

-- ---- the sections that count

-- the PID of a component in the last map, where it had this one, or none, before
abbrev pub pid_behind : ℕ → Option ℕ → List Told → Option ℕ
pid_behind tag pid [] = pid
pid_behind tag pid (Fed other section ∷ behind) = pid_behind tag pid behind
pid_behind tag pid (Mapped components ∷ behind) = pid_behind tag (pid_in components tag) behind

-- that is the PID
abbrev pub is_on : ℕ → Option ℕ → Bool
is_on pid None = false
is_on pid (Some other) = pid == other

-- each map has the component on that PID
abbrev pub stays_on : ℕ → ℕ → List Told → Bool
stays_on tag pid [] = true
stays_on tag pid (Fed other section ∷ behind) = stays_on tag pid behind
stays_on tag pid (Mapped components ∷ behind) = is_on pid (pid_in components tag) && stays_on tag pid behind

-- it has one, and stays on it
abbrev pub stays : ℕ → Option ℕ → List Told → Bool
stays tag None behind = false
stays tag (Some pid) behind = stays_on tag pid behind

-- the sections of a component, in their order, from behind which on it stayed on the PID that it had there
abbrev pub sections_since : ℕ → Option ℕ → List Told → List (List ℕ)
sections_since tag pid [] = []
sections_since tag pid (Fed other section ∷ behind) =
    (if stays tag pid behind then (if other == tag then section ∷ [] else []) else []) ++ sections_since tag pid behind
sections_since tag pid (Mapped components ∷ behind) = sections_since tag (pid_in components tag) behind

-- The same in places of the list: a section of the component stands at this place, the last map before it has the
-- component on a PID, and each map behind it has it on the same one.
pub record IsSince (told : List Told) (tag : ℕ) (section : List ℕ) (place : ℕ) : Type 0 where
  pub stands : slice_get told place ≡ Some (Fed tag section)
  pub pid : ℕ
  pub before : pid_behind tag None (take place told) ≡ Some pid
  pub behind : (other : ℕ) (components : List Component) → place < other → slice_get told other ≡ Some (Mapped components)
      → pid_in components tag ≡ Some pid

-- ---- what a store stands for

-- A component has the PID of the last map, and the messages of its sections since it got this.
pub record HasMessagesSince (stored : Stored) (told : List Told) (tag : ℕ) : Type 0 where
  pub pid : pid_of stored tag ≡ pid_behind tag None told
  pub messages : messages_of_component stored tag
      ≡ option_map (λ pid. messages_of (sections_since tag None told)) (pid_behind tag None told)
