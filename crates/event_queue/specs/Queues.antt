-- The queue as the list of the events that wait, the one that waits longest in front. (This project's own.)
use Rattle.std.specs.Prelude.{ℕ, nat_lt, if◌then◌else◌, List, [], ◌∷◌, ◌++◌, length, Option, Some, None}
use Rattle.event_queue.specs.declared.events.Event.{Event}

-- the most events that wait
abbrev pub most_events : ℕ
most_events = 256

-- an event that is posted goes behind the others, and is lost where no place is left
abbrev pub with_posted : Event → List Event → List Event
with_posted event queue =
    if nat_lt (length queue) most_events then queue ++ event ∷ [] else queue

-- the event that waits longest
abbrev pub first_of : List Event → Option Event
first_of [] = None
first_of (event ∷ queue) = Some event
