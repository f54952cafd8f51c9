-- What becomes of a broadcast as time passes.
use Rattle.std.proofs.Common.{◌≡◌, ◌<◌, ℕ, ◌+◌, max, List, [], ◌∷◌, Option, Some, IfSome, refl, sym, ap, ◌∙◌, subst}
use Rattle.event_queue.specs.Timers.{least_moment}
use Rattle.page.specs.Inputs.{due_next, with_clock}
use Rattle.page.specs.Standing.{PageState, page_area}
use Rattle.page.specs.Standing as pages
use Rattle.receiver_core.specs.BroadcastCalls.{TakesTurn, Waits}
use Rattle.receiver_core.specs.Broadcasts.{BroadcastState, HasOutcome, Makes, StandsFor}
use Rattle.receiver_core.specs.Outputs.{Outcome, at_moment}
use Rattle.receiver_core.specs.State.{State}
use Rattle.receiver_core.specs.Turns.{due_turn}
use Rattle.receiver_core.proofs.BroadcastLaws.{has_piece, stands_with, with_page}
use Rattle.receiver_core.proofs.TickLaws.{quiet_until, turn_last}

-- the moment when a timer is due next
abbrev pub next_in : BroadcastState → Option ℕ
next_in state = least_moment state.page.browser.timers.timers

next_is : (state : BroadcastState) (s : State) → StandsFor state s → due_next s.page ≡ next_in state
next_is state s stands = ap (λ b. least_moment b.timers.timers) (sym stands.page.browser)

clock_gone : (state : BroadcastState) (page : PageState) (s : State) (moment : ℕ)
    → page ≡ record state.page { clock = moment } → StandsFor state s
    → StandsFor (with_page state page) (at_moment moment s)
clock_gone state page s moment is stands =
    stands_with state page s (with_clock moment s.page) stands
    (subst (λ (p : PageState). pages.StandsFor p state.modules (with_clock moment s.page)) (sym is)
    (record {
      modules_are = stands.page.modules_are;
      reader = stands.page.reader;
      document = stands.page.document;
      wanted = stands.page.wanted;
      data_event = stands.page.data_event;
      current = stands.page.current;
      clock = refl;
      browser = stands.page.browser;
      happened = stands.page.happened;
      reached = stands.page.reached;
      truly = stands.page.truly;
    }))

-- no timer is due by its end
pub waited : (left : ℕ) (old : BroadcastState) (page : PageState) (before : List ℕ)
    → page ≡ record old.page { clock = old.page.clock + left }
    → IfSome (next_in old) (λ due. old.page.clock + left < due)
    → Waits left old (with_page old page) before before
waited left old page before is after = record {
  silent = refl;
  area = ap page_area is;
  passes = λ s stands.
      let clock = stands.page.clock in
      let quiet : IfSome (due_next s.page) (λ due. s.page.clock + left < due) =
      subst (λ (next : Option ℕ). IfSome next (λ due. s.page.clock + left < due)) (sym (next_is old s stands))
      (subst (λ (n : ℕ). IfSome (next_in old) (λ due. n + left < due)) clock after) in
      let there : page ≡ record old.page { clock = s.page.clock + left } =
      is ∙ ap (λ (n : ℕ). record old.page { clock = n + left }) clock in
      subst (λ (o : Outcome). HasOutcome (with_page old page) [] o) (sym (quiet_until left s quiet))
      (record {
        stands = clock_gone old page s (s.page.clock + left) there stands;
        pieces_are = refl;
      });
}

-- the turn of the first moment when a timer is due
pub turned : (passed moment due : ℕ) (old new : BroadcastState) (before after : List ℕ) → next_in old ≡ Some due
    → moment ≡ max due (old.page.clock + 1) → moment ≡ old.page.clock + passed
    → Makes (due_turn moment) old new before after → TakesTurn passed old new before after
turned passed moment due old new before after next first there made = record {
  text = made.text;
  printed = made.printed;
  passes = λ s stands.
      let clock = stands.page.clock in
      subst (λ (o : Outcome). HasOutcome new (record { text = made.text; area = page_area new.page } ∷ []) o)
      (sym
      (turn_last passed moment due s (next_is old s stands ∙ next) (first ∙ ap (λ (n : ℕ). max due (n + 1)) clock)
      (there ∙ ap (λ (n : ℕ). n + passed) clock)))
      (has_piece new made.text (due_turn moment s) (made.makes s stands));
}
