-- Which messages one item fires for again (after ARIB STD-B24, volume 2, EventMessageFired; that a message that is
-- repeated doesn't fire again, and what is forgotten, is this project's own rule).
use Rattle.std.specs.Prelude.{◌≡◌, ◌==◌, ◌&&◌, ◌⊎◌, ℕ, Bool, true, not, List, [], ◌∷◌, ◌++◌, All, filter, fold, map}
use Rattle.std.specs.Map.{lookup}
use Rattle.std.specs.Option.{option_map_or}
use Rattle.indexmap.specs.IndexMap.{insert_entry}
use Rattle.event_messages.specs.declared.item_firings.MessageKey.{MessageKey}
use Rattle.event_messages.specs.declared.messages.Message.{Message}
use Rattle.event_messages.specs.Firings.{Happening, firing_of}
use Rattle.event_messages.specs.Firings.Happening.{Fires, Forgets}

-- What is kept of the firings of an item is a map: for each group and id the version of the last message that the item
-- fired for, since its firings were forgotten last. It is the list of its entries.
abbrev pub KeptFirings : Type 0
KeptFirings = List (MessageKey × ℕ)

-- before an item fires, and once its firings are forgotten
abbrev pub no_firings : KeptFirings
no_firings = []

-- it is that of this group and id
abbrev pub is_key : ℕ → ℕ → MessageKey → Bool
is_key group id key = (group == key.group) && (id == key.id)

-- an item fires for a message: its last firing for that group and id had another version, or there is none
abbrev pub fires_again : Message → KeptFirings → Bool
fires_again message kept =
    option_map_or (λ last. not (last == message.version))
    (lookup (is_key message.group message.id) kept) true

-- behind a firing for a message: its group and id have its version. An entry of theirs keeps its place, and a new one
-- goes last.
abbrev pub with_firing : Message → KeptFirings → KeptFirings
with_firing message kept =
    insert_entry (λ one other. is_key one.group one.id other) kept
    (record { group = message.group; id = message.id }) message.version

-- ---- what was fired for

-- what is kept once an item fired for these messages, in their order
abbrev pub kept_behind : List Message → KeptFirings
kept_behind messages = fold (λ kept message. with_firing message kept) no_firings messages

-- two messages have the same group and id
abbrev pub AreAlike : Message → Message → Type 0
AreAlike one other = (one.group ≡ other.group) × (one.id ≡ other.id)

-- The message `last` is the last of these messages that has the group and id of `message`: behind it stand others alone.
pub record IsLastAlike (message : Message) (messages : List Message) (last : Message) : Type 0 where
  pub before : List Message
  pub behind : List Message
  pub laid : messages ≡ before ++ last ∷ behind
  pub alike : AreAlike last message
  pub others : All (λ other. ¬ AreAlike other message) behind

-- ---- one item among others

-- it happens to this item
abbrev pub is_of : ℕ → Happening → Bool
is_of item (Fires other group id version) = other == item
is_of item (Forgets other) = other == item

-- Among these happenings the item fired for these messages since its firings were forgotten last, in their order: they
-- are all its happenings, or all behind the last that forgets its firings.
abbrev pub FiredFor : ℕ → List Happening → List Message → Type 0
FiredFor item happenings messages =
    (filter (is_of item) happenings ≡ map (firing_of item) messages)
    ⊎ ((before : List Happening)
    × (filter (is_of item) happenings ≡ before ++ Forgets item ∷ map (firing_of item) messages))
