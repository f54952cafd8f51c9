use Rattle.std.proofs.Common.{◌≡◌, ◌-◌, ◌≤◌, length, map, drop}
use Rattle.event_queue.specs.Timers.{least_moment}
use Rattle.event_queue.specs.devices.KeptTimers.{seen}
use Rattle.event_queue.proofs.timers.least_of.Given as goal

abbrev pub invariant-timers : goal.invariant-timers
invariant-timers l =
    (l.behind ≤ length l.timers)
    × (l.least ≡ least_moment (map seen (drop (length l.timers - l.behind) l.timers)))
