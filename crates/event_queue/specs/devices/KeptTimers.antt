-- A device of the proofs: how timers are kept.
use Rattle.std.specs.Prelude.{◌≡◌, ◌≤◌, ◌+◌, ℕ, true, is_some, List, [], All, unwrap_or, slice_index_or, slice_set}
use Rattle.event_queue.specs.Timers.{Timer, last_number}
use Rattle.event_queue.specs.declared.timers.KeptTimer.{KeptTimer}

abbrev pub seen : KeptTimer → Timer
seen timer = record {
  number = timer.number;
  function = unwrap_or timer.function [];
  moment = timer.moment;
  interval = timer.interval;
  left = timer.left;
  out = timer.out;
}

-- each has a function, and the next number is at most one past the last
pub record AreKept (timers : List KeptTimer) (next : ℕ) : Type 0 where
  pub named : All (λ timer. is_some timer.function ≡ true) timers
  pub next_is : next ≤ last_number + 1

-- the timer at a place is another one, which is seen as this change of it and calls the same
pub record IsChanged (change : Timer → Timer) (place : ℕ) (old new : List KeptTimer) : Type 0 where
  pub timer : KeptTimer
  pub new_is : new ≡ slice_set old place timer
  pub seen_is : (d : KeptTimer) → seen timer ≡ change (seen (slice_index_or old place d))
  pub function_is : (d : KeptTimer) → timer.function ≡ (slice_index_or old place d).function
