-- Which firing of an item counts for a message (after ARIB STD-B24, volume 2, EventMessageFired; that a message in the
-- version that fired last doesn't fire again, and what is forgotten, is this project's own rule).
use Rattle.std.specs.Prelude.{◌≡◌, ◌<◌, ◌==◌, ℕ, Bool, true, ◌&&◌, not, if◌then◌else◌, List, [], ◌∷◌, slice_get, Option, Some, None}
use Rattle.event_messages.specs.declared.messages.Message.{Message}

-- What happens to the firings of a document's items: an item fires for a message, which a group, an id and a version
-- tell, or all firings of an item are forgotten.
pub data Happening : Type 0 where
  Fires : (item group id version : ℕ) → Happening
  Forgets : (item : ℕ) → Happening

-- the firing of an item for a message
abbrev pub firing_of : ℕ → Message → Happening
firing_of item message = Fires item message.group message.id message.version

-- the version that counts behind one more happening, where that version counted before
abbrev pub version_behind : ℕ → ℕ → ℕ → Option ℕ → Happening → Option ℕ
version_behind item group id before (Fires other group' id' version) =
    if (other == item) && ((group' == group) && (id' == id)) then Some version else before
version_behind item group id before (Forgets other) = if other == item then None else before

-- the version that counts behind a list of happenings, where that version counted before
abbrev pub version_after : ℕ → ℕ → ℕ → Option ℕ → List Happening → Option ℕ
version_after item group id before [] = before
version_after item group id before (happening ∷ happenings) = version_after item group id (version_behind item group id before happening) happenings

-- The version of the last firing of an item for messages of a group and an id, since its firings were forgotten last;
-- none where there is no such firing. `law_of_firings` says the same in terms of places.
abbrev pub last_version : ℕ → ℕ → ℕ → List Happening → Option ℕ
last_version item group id happenings = version_after item group id None happenings

-- an item fires for a message: its last firing that counts had another version, or there is none
abbrev pub fires : ℕ → Message → List Happening → Bool
fires item message happenings = is_other message.version (last_version item message.group message.id happenings)
  where
    is_other : ℕ → Option ℕ → Bool
    is_other version None = true
    is_other version (Some last) = not (last == version)

-- That firing stands at a place of the list, and behind it stands neither another one for the same group and id nor
-- that the item's firings are forgotten.
pub record IsLastFiring (item group id : ℕ) (happenings : List Happening) (place version : ℕ) : Type 0 where
  pub stands : slice_get happenings place ≡ Some (Fires item group id version)
  pub last : (later other : ℕ) → place < later → ¬ (slice_get happenings later ≡ Some (Fires item group id other))
  pub kept : (later : ℕ) → place < later → ¬ (slice_get happenings later ≡ Some (Forgets item))
