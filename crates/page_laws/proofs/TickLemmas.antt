-- Each millisecond that passes brings the clock of a receiver on by one, and the timers of its page are due later.
use Rattle.std.proofs.Common.{◌≡◌, ℕ, zero, suc, ◌+◌, ◌<◌, ◌≤◌, Bool, true, false, Option, Some, None, refl, ◌∙◌, arith}
use Rattle.std.specs.Prelude.{IfSome, if◌then◌else◌}
use Rattle.std.proofs.lemmas.List.Elements.{All-weaker}
use Rattle.page.specs.Inputs.{due_next, due_step, with_clock}
use Rattle.page.specs.State as page
use Rattle.receiver_core.specs.Outputs.{at_moment, is_due_by, reaches, time_passes, with_piece, without_piece}
use Rattle.receiver_core.specs.State.{State}
use Rattle.receiver_core.specs.Turns.{due_turn}
use Rattle.page_laws.specs.Soundness.{IsSound}
use Rattle.page_laws.specs.Times.{AreLater, IsLater}
use Rattle.page_laws.proofs.ClockLemmas.{due_step-clock, turn-clock}
use Rattle.page_laws.proofs.DueLemmas.{IsNear, least-later, least-near}
use Rattle.page_laws.proofs.LaterPageLemmas.{changes-later, due_step-later, key_step-later, message_step-later, turn-later}
use Rattle.page_laws.proofs.ReceiverLemmas.{PageLaws}

-- ---- the clock

reached-clock : (moment : ℕ) (s : State) → (reaches moment s).state.page.clock ≡ moment
unfolding due_turn
reached-clock moment s = by (is_due_by moment s)
  where
    by : (due : Bool) → (if due then with_piece (due_turn moment s)
        else without_piece (at_moment moment s)).state.page.clock ≡ moment
    by true = turn-clock (due_step moment s.page).state ∙ due_step-clock moment s.page
    by false = refl

pub time-clock : (count : ℕ) (s : State)
    → (time_passes count s).state.page.clock ≡ s.page.clock + count
unfolding time_passes
time-clock zero s = omega arith
time-clock (suc more) s =
    omega (
      arith,
      time-clock more (reaches (s.page.clock + 1) s).state,
      reached-clock (s.page.clock + 1) s,
    )

-- ---- the timers

pub next-later : (s : page.State) → AreLater s → IfSome (due_next s) (λ due. s.clock < due)
next-later s h = least-later s.clock s.browser.timers.timers h

-- what comes later than a moment comes at the next one or later
one-on : (moment : ℕ) (next : Option ℕ) → IfSome next (λ due. moment < due)
    → IfSome next (λ due. moment + 1 ≤ due)
one-on moment None later = tt
one-on moment (Some due) later = omega (arith, later)

-- where none is due by a moment, all are due later
none-later : (moment : ℕ) (s : page.State) → AreLater s → IfSome (due_next s) (λ due. moment < due)
    → AreLater (with_clock moment s)
none-later moment s h none =
    All-weaker (IsNear (moment + 1)) (IsLater moment)
    (λ timer near. record {
      later = λ firing. omega (arith, near.reached firing);
      apart = near.apart;
    })
    s.browser.timers.timers
    (least-near s.clock (moment + 1) s.browser.timers.timers h (one-on moment (due_next s) none))

-- a page whose timers fit it and its clock
abbrev pub IsGoodPage : page.State → Type 0
IsGoodPage p = IsSound p × AreLater p

pub good-steps : PageLaws IsSound → PageLaws IsGoodPage
good-steps sound = record {
  turns = λ p h. (sound.turns p h.0, turn-later p h.1);
  sections = λ component section p h. (sound.sections component section p h.0, h.1);
  maps = λ components p h. (sound.maps components p h.0, h.1);
  changes = λ changes p h. (sound.changes changes p h.0, changes-later changes p h.1);
  messages = λ component message p h.
      (sound.messages component message p h.0, message_step-later component message p h.1);
  keys = λ key down p h. (sound.keys key down p h.0, key_step-later key down p h.1);
  random = λ word p h. (sound.random word p h.0, h.1);
  dates = λ day second p h. (sound.dates day second p h.0, h.1);
  due = λ p h. (
    sound.due p h.0,
    due_step-later (p.clock + 1) p h.0 h.1 (one-on p.clock (due_next p) (next-later p h.1)),
  );
  clock = λ p h none. (sound.clock p h.0 none, none-later (p.clock + 1) p h.1 none);
}
