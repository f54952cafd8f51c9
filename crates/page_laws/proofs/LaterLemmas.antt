-- Timers are due later than the clock, whatever scripts and the dispatches of their events do to them.
use Rattle.std.proofs.Common.{◌≡◌, ℕ, Bool, true, false, List, [], ◌∷◌, ◌++◌, refl, arith}
use Rattle.std.specs.Prelude.{All, if◌then◌else◌}
use Rattle.std.proofs.lemmas.List.Elements.{All-append, All-cons, All-head, All-nil, All-push, All-tail}
use Rattle.event_queue.specs.Timers.{Timer, TimersState, goes_on, has_number, replaced, after_settling, left_after_settling, timer_set, with_settled}
use Rattle.page_laws.specs.Times.{IsLater}
use Rattle.page_laws.proofs.TimerLemmas.{HoldsOfTimers}

-- all of these timers are due later than a moment
abbrev pub LaterThan : ℕ → TimersState → Type 0
LaterThan moment s = All (IsLater moment) s.timers

-- ---- one gives way

-- what holds of each timer, if it holds of what the one that passes the test gives way to
pub replaced-every : (P : Timer → Type 0) (test : Timer → Bool) (make : Timer → List Timer)
    → ((timer : Timer) → test timer ≡ true → P timer → All P (make timer)) → (timers : List Timer)
    → All P timers → All P (replaced test make timers)
unfolding replaced
replaced-every P test make keeps [] all = all
replaced-every P test make keeps (timer ∷ timers) all =
    by (test timer) refl (replaced-every P test make keeps timers (All-tail P timer timers all))
  where
    by : (t : Bool) → test timer ≡ t → All P (replaced test make timers)
        → All P (if t then make timer ++ timers else timer ∷ replaced test make timers)
    by true e more =
        All-append P (make timer) timers (keeps timer e (All-head P timer timers all))
        (All-tail P timer timers all)
    by false e more =
        All-cons P timer (replaced test make timers) (All-head P timer timers all) more

-- what holds of a timer whatever number of events is out
pub settled-every : (P : Timer → Type 0) (timer : Timer) → P (after_settling timer)
    → All P (left_after_settling timer)
settled-every P timer h = by (goes_on (after_settling timer))
  where
    by : (goes : Bool) → All P (if goes then after_settling timer ∷ [] else [])
    by true = All-cons P (after_settling timer) [] h (All-nil P)
    by false = All-nil P

pub with_settled-later : (moment number : ℕ) (s : TimersState) → LaterThan moment s
    → LaterThan moment (with_settled number s)
with_settled-later moment number s all =
    replaced-every (IsLater moment) (has_number number) left_after_settling
    (λ timer e h. settled-every (IsLater moment) timer
    (record { later = h.later; apart = h.apart }))
    s.timers all

-- ---- timers of scripts

-- one that is set comes later, and without one the others do
pub calls-later : (now : ℕ) (s : TimersState) → LaterThan now s
    → HoldsOfTimers (LaterThan now) now s
calls-later now s all = record {
  stays = all;
  sets = λ function interval turns place least.
      All-push (IsLater now) s.timers (timer_set s.next function interval turns now) all
      (record { later = λ firing. omega (arith, least); apart = least });
  ends = λ number.
      replaced-every (IsLater now) (has_number number) (λ timer. [])
      (λ timer e h. All-nil (IsLater now)) s.timers all;
}
