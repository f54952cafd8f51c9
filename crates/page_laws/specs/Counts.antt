-- How many events of a page's timers wait. (This project's own.)
use Rattle.std.specs.Prelude.{◌≡◌, ℕ, ◌==◌, Bool, false, List, [], All}
use Rattle.std.specs.List.{count_by}
use Rattle.std.specs.Option.{option_map_or}
use Rattle.event_queue.specs.declared.events.Event.{Event}
use Rattle.event_queue.specs.declared.events.Event.TheVariants as events
use Rattle.page.specs.State.{State}

-- the event is that a timer fired, and this is the timer's number
abbrev pub is_of_timer : ℕ → Event → Bool
is_of_timer number (events.Timer other) = other == number
is_of_timer number other = false

-- how many events of the timer of a number stand in a list
abbrev pub timer_count : List Event → ℕ → ℕ
timer_count queue number = count_by (is_of_timer number) queue

-- the events that wait in the page's document; without a document there are none
abbrev pub waiting_events : State → List Event
waiting_events s = option_map_or (λ d. d.queue) s.document []

-- of each timer so many events are out as wait
abbrev pub AreCounted : State → Type 0
AreCounted s =
    All (λ timer. timer.out ≡ timer_count (waiting_events s) timer.number)
    s.browser.timers.timers
