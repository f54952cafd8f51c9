-- Where no timer has a number, none goes.
use Rattle.std.proofs.Common.{◌≡◌, ℕ, Bool, true, false, cond, List, [], ◌∷◌, Some, refl, ap}
use Rattle.std.specs.Prelude.{find, is_some}
use Rattle.event_queue.specs.Timers.{Timer, TimersState, has_number, replaced, timer_of, without_timer}

untouched : (test : Timer → Bool) (timers : List Timer) → is_some (find test timers) ≡ false
    → replaced test (λ timer. []) timers ≡ timers
unfolding replaced
untouched test [] h = refl
untouched test (timer ∷ timers) h = step (test timer) (untouched test timers) h
  where
    step : (passes : Bool) → (is_some (find test timers) ≡ false → replaced test (λ timer. []) timers ≡ timers)
        → is_some (cond passes (Some timer) (find test timers)) ≡ false
        → cond passes timers (timer ∷ replaced test (λ timer. []) timers) ≡ timer ∷ timers
    step true rest g = absurd cc
    step false rest g = ap (λ (others : List Timer). timer ∷ others) (rest g)

pub none_goes : (number : ℕ) (s : TimersState) → is_some (timer_of number s) ≡ false → without_timer number s ≡ s
unfolding timer_of
none_goes number s h = ap (λ (timers : List Timer). record { timers = timers; next = s.next }) (untouched (has_number number) s.timers h)
