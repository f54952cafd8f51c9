-- When the timers of a page are due: later than its clock. (This project's own.)
use Rattle.std.specs.Prelude.{◌≡◌, ℕ, ◌<◌, ◌≤◌, true, All}
use Rattle.event_queue.specs.Timers.{Timer, is_firing}
use Rattle.browser_objects.specs.Calls.{least_interval}
use Rattle.page.specs.State.{State}

-- If the timer has a firing left, its next one comes later than the moment. Those behind it come one
-- interval apart, which is no less than the least interval.
pub record IsLater (moment : ℕ) (timer : Timer) : Type 0 where
  pub later : is_firing timer.left ≡ true → moment < timer.moment
  pub apart : least_interval ≤ timer.interval

-- no timer is overdue: what was due by now has fired
abbrev pub AreLater : State → Type 0
AreLater s = All (IsLater s.clock) s.browser.timers.timers
