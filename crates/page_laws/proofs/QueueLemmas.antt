-- The events that wait, with one more.
use Rattle.std.proofs.Common.{◌≡◌, ◌≤◌, Bool, true, false, List, [], ◌∷◌, ◌++◌, length, refl, arith, length-append}
use Rattle.std.specs.Prelude.{All, if◌then◌else◌, nat_lt}
use Rattle.std.proofs.lemmas.Bool.{ltb-true}
use Rattle.std.proofs.lemmas.List.Elements.{All-push}
use Rattle.event_queue.specs.Queues.{most_events, with_posted}
use Rattle.event_queue.specs.declared.events.Event.{Event}

pub posted-room : (event : Event) (queue : List Event) → length queue ≤ most_events
    → length (with_posted event queue) ≤ most_events
posted-room event queue room = by (nat_lt (length queue) most_events) refl
  where
    by : (t : Bool) → nat_lt (length queue) most_events ≡ t
        → length (if t then queue ++ event ∷ [] else queue) ≤ most_events
    by true e =
        omega (arith, ltb-true (length queue) most_events e, length-append queue (event ∷ []))
    by false e = room

pub posted-all : (P : Event → Type 0) (event : Event) (queue : List Event) → P event
    → All P queue → All P (with_posted event queue)
posted-all P event queue h all = by (nat_lt (length queue) most_events)
  where
    by : (t : Bool) → All P (if t then queue ++ event ∷ [] else queue)
    by true = All-push P queue event all h
    by false = all
