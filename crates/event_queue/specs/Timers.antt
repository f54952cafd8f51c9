-- The timers of a document (after setInterval and clearTimer of the browser object of BML, ARIB STD-B24 volume
-- 2; the numbers, the limits and when a timer ends are this project's own). Moments and intervals are
-- milliseconds.
use Rattle.std.specs.Prelude.{ℕ, zero, suc, ◌+◌, ◌-◌, ◌^◌, min, ◌==◌, ◌&&◌, ◌||◌, Bool, true, nat_lt, nat_le, if◌then◌else◌, List, [], ◌∷◌, ◌++◌, length, find, Option, Some, None, option_map}

pub record Timer : Type 0 where
  pub number : ℕ
  -- what it calls, as the script named it
  pub function : List ℕ
  -- the moment of its next firing, and how long after that the one after it comes
  pub moment : ℕ
  pub interval : ℕ
  -- how many firings are left; none is told where it goes on without end
  pub left : Option ℕ
  -- how many of its events are out: it fired, and they were neither dispatched nor lost
  pub out : ℕ

-- the timers that stand, in ascending number, and the number of the next one, which only grows
pub record TimersState : Type 0 where
  pub timers : List Timer
  pub next : ℕ

-- the most timers that stand, and the greatest number of one
abbrev pub most_timers : ℕ
most_timers = 32

abbrev pub last_number : ℕ
last_number = 2147483647

-- where a document begins there are none, and the next one gets the number 1
abbrev pub no_timers : TimersState
no_timers = record { timers = []; next = 1 }

-- ---- one timer

-- 0 firings are firings without end
abbrev pub firings_of : ℕ → Option ℕ
firings_of zero = None
firings_of (suc more) = Some (suc more)

-- a timer that is set now fires one interval later for the first time
abbrev pub timer_set : ℕ → List ℕ → ℕ → ℕ → ℕ → Timer
timer_set number function interval turns now =
    record {
      number = number;
      function = function;
      moment = now + interval;
      interval = interval;
      left = firings_of turns;
      out = 0;
    }

abbrev pub has_number : ℕ → Timer → Bool
has_number number timer = timer.number == number

-- a firing is left
abbrev pub is_firing : Option ℕ → Bool
is_firing None = true
is_firing (Some left) = nat_lt 0 left

-- it has a firing left whose moment has come
abbrev pub is_due : ℕ → Timer → Bool
is_due moment timer = is_firing timer.left && nat_le timer.moment moment

-- how many events can be out; no more than wait in the queue ever are, which are far fewer
abbrev pub most_out : ℕ
most_out = 2 ^ 32 - 1

-- once it has fired its next moment is one interval after the one that was due, and one more event is out
abbrev pub after_firing : Timer → Timer
after_firing timer =
    record timer {
      moment = timer.moment + timer.interval;
      left = option_map (λ left. left - 1) timer.left;
      out = min (timer.out + 1) most_out;
    }

-- one of its events was dispatched, or was lost
abbrev pub after_settling : Timer → Timer
after_settling timer = record timer { out = timer.out - 1 }

-- it goes on: a firing is left, or an event of it is out
abbrev pub goes_on : Timer → Bool
goes_on timer = is_firing timer.left || nat_lt 0 timer.out

-- ---- the timers

-- another one can be set
abbrev pub has_place : TimersState → Bool
has_place s = nat_lt (length s.timers) most_timers && nat_le s.next last_number

abbrev pub with_timer : Timer → TimersState → TimersState
with_timer timer s = record { timers = s.timers ++ timer ∷ []; next = s.next + 1 }

-- the timer of a number; numbers differ, so there is no other
unfoldable pub timer_of : ℕ → TimersState → Option Timer
timer_of number s = find (has_number number) s.timers

-- The first timer that passes a test gives way to what is made of it, one timer or none.
unfoldable pub replaced : (Timer → Bool) → (Timer → List Timer) → List Timer → List Timer
replaced test make [] = []
replaced test make (timer ∷ timers) =
    if test timer then make timer ++ timers else timer ∷ replaced test make timers

-- without the timer of a number, whose number is not used again
abbrev pub without_timer : ℕ → TimersState → TimersState
without_timer number s =
    record s { timers = replaced (has_number number) (λ timer. []) s.timers }

-- the first timer that is due has fired
abbrev pub with_fired : ℕ → TimersState → TimersState
with_fired moment s =
    record s { timers = replaced (is_due moment) (λ timer. after_firing timer ∷ []) s.timers }

-- one event of the timer of a number was dispatched or lost: it ends where it goes on no more
abbrev pub left_after_settling : Timer → List Timer
left_after_settling timer = if goes_on (after_settling timer) then after_settling timer ∷ [] else []

abbrev pub with_settled : ℕ → TimersState → TimersState
with_settled number s =
    record s { timers = replaced (has_number number) left_after_settling s.timers }

-- the lesser of two moments, of which the second may be absent
abbrev pub lesser : ℕ → Option ℕ → Option ℕ
lesser moment None = Some moment
lesser moment (Some other) = Some (if nat_le moment other then moment else other)

-- the least moment at which one of these timers fires
unfoldable pub least_moment : List Timer → Option ℕ
least_moment [] = None
least_moment (timer ∷ timers) =
    if is_firing timer.left then lesser timer.moment (least_moment timers) else least_moment timers

-- the least number of a timer that is due: the first, since they stand in ascending number
unfoldable pub first_due : ℕ → TimersState → Option ℕ
first_due moment s = option_map (λ timer. timer.number) (find (is_due moment) s.timers)
