-- What is kept of the firings of a document's items, and which happenings it stands for. (This project's own.)
use Rattle.std.specs.Prelude.{◌≡◌, ◌==◌, nat_eq, ℕ, Bool, if◌then◌else◌, List, map, Option, Some, None, unwrap_or}
use Rattle.std.specs.Map.{lookup}
use Rattle.indexmap.specs.IndexMap.{insert_entry}
use Rattle.event_messages.specs.declared.messages.Message.{Message}
use Rattle.event_messages.specs.Firings.{Happening, last_version}
use Rattle.event_messages.specs.ItemFirings.{KeptFirings, fires_again, is_key, no_firings, with_firing}

-- for each item that fired, its firings: a map, by the items' numbers
abbrev pub FiringsOfItems : Type 0
FiringsOfItems = List (ℕ × KeptFirings)

-- those of an item that never fired are none
abbrev pub firings_of : ℕ → FiringsOfItems → KeptFirings
firings_of item kept = unwrap_or (lookup (nat_eq item) kept) no_firings

-- the item fires for a message that it matches
abbrev pub item_fires : ℕ → Message → FiringsOfItems → Bool
item_fires item message kept = fires_again message (firings_of item kept)

-- it fired for the message
abbrev pub with_noted : ℕ → Message → FiringsOfItems → FiringsOfItems
with_noted item message kept =
    insert_entry nat_eq kept item (with_firing message (firings_of item kept))

-- its firings are forgotten
abbrev pub forgotten_in : ℕ → (ℕ × KeptFirings) → (ℕ × KeptFirings)
forgotten_in item entry = if item == entry.0 then (entry.0, no_firings) else entry

abbrev pub with_forgotten : ℕ → FiringsOfItems → FiringsOfItems
with_forgotten item kept = map (forgotten_in item) kept

-- ---- which happenings it stands for

-- the version that an item has for a group and an id, where its versions are kept
abbrev pub version_in : ℕ → ℕ → Option KeptFirings → Option ℕ
version_in group id None = None
version_in group id (Some versions) = lookup (is_key group id) versions

-- for each item, group and id the version that counts behind these happenings is kept
abbrev pub StandsFor : FiringsOfItems → List Happening → Type 0
StandsFor kept happenings =
    (item group id : ℕ) → version_in group id (lookup (nat_eq item) kept) ≡ last_version item group id happenings
