-- Timers that stand go on to ascend, to be below the next one and to be few, whatever becomes of one.
use Rattle.std.proofs.Common.{◌≡◌, ℕ, zero, suc, ◌+◌, ◌<◌, ◌≤◌, Bool, true, false, List, [], ◌∷◌, ◌++◌, length, refl, sym, subst, arith, length-append}
use Rattle.std.specs.Prelude.{All, if◌then◌else◌}
use Rattle.std.specs.List.{AllPairs}
use Rattle.std.proofs.lemmas.Bool.{ltb-true}
use Rattle.std.proofs.lemmas.List.Elements.{All-append, All-cons, All-head, All-nil, All-push, All-tail, All-weaker}
use Rattle.std.proofs.lemmas.List.Kept.{AllPairs-cons}
use Rattle.std.proofs.lemmas.List.Quantifiers.{all_pairs_push}
use Rattle.event_queue.specs.Timers.{Timer, TimersState, after_firing, has_number, has_place, is_due, most_timers, no_timers, replaced, left_after_settling, after_settling, goes_on, timer_set, with_fired, with_settled, with_timer, without_timer}
use Rattle.browser_objects.specs.Calls.{least_interval}
use Rattle.page_laws.specs.Soundness.{AreTimers}
use Rattle.page_laws.proofs.TargetLemmas.{both-first}

-- this holds of timers as they are, with one that is set now, and without one
pub record HoldsOfTimers (Good : TimersState → Type 0) (now : ℕ) (s : TimersState) : Type 0 where
  pub stays : Good s
  pub sets : (function : List ℕ) (interval turns : ℕ) → has_place s ≡ true
      → least_interval ≤ interval
      → Good (with_timer (timer_set s.next function interval turns now) s)
  pub ends : (number : ℕ) → Good (without_timer number s)

abbrev pub IsBefore : Timer → Timer → Type 0
IsBefore one other = one.number < other.number

-- what a timer gives way to: none, or one of its number
abbrev GivesWay : Timer → List Timer → Type 0
GivesWay timer [] = Unit {0}
GivesWay timer (other ∷ []) = other.number ≡ timer.number
GivesWay timer (other ∷ another ∷ more) = ⊥

-- ---- one gives way

-- what is known of its number
way-all : (P : ℕ → Type 0) (timer : Timer) (made : List Timer) → GivesWay timer made
    → P timer.number → All (λ t. P t.number) made
way-all P timer [] way h = All-nil (λ (t : Timer). P t.number)
way-all P timer (other ∷ []) way h =
    All-cons (λ (t : Timer). P t.number) other [] (subst P (sym way) h)
    (All-nil (λ (t : Timer). P t.number))
way-all P timer (other ∷ another ∷ more) way h = absurd way

pub first-before : (timer : Timer) (timers : List Timer) → AllPairs IsBefore (timer ∷ timers)
    → All (IsBefore timer) timers
first-before timer timers pairs k d within = pairs zero (suc k) d (omega arith) (omega arith)

pub others-ascend : (timer : Timer) (timers : List Timer) → AllPairs IsBefore (timer ∷ timers)
    → AllPairs IsBefore timers
others-ascend timer timers pairs i j d before within =
    pairs (suc i) (suc j) d (omega arith) (omega arith)

way-ascends : (timer : Timer) (made timers : List Timer) → GivesWay timer made
    → AllPairs IsBefore (timer ∷ timers) → AllPairs IsBefore (made ++ timers)
way-ascends timer [] timers way pairs = others-ascend timer timers pairs
way-ascends timer (other ∷ []) timers way pairs =
    AllPairs-cons IsBefore other timers
    (subst (λ (n : ℕ). All (λ (t : Timer). n < t.number) timers) (sym way)
    (first-before timer timers pairs))
    (others-ascend timer timers pairs)
way-ascends timer (other ∷ another ∷ more) timers way pairs = absurd way

way-length : (timer : Timer) (made timers : List Timer) → GivesWay timer made
    → length (made ++ timers) ≤ suc (length timers)
way-length timer [] timers way = omega arith
way-length timer (other ∷ []) timers way = omega arith
way-length timer (other ∷ another ∷ more) timers way = absurd way

module _ (test : Timer → Bool) (make : Timer → List Timer)
    (ways : (timer : Timer) → GivesWay timer (make timer)) where
  -- what holds of the number of each
  replaced-all : (P : ℕ → Type 0) (timers : List Timer) → All (λ t. P t.number) timers
      → All (λ t. P t.number) (replaced test make timers)
  unfolding replaced
  replaced-all P [] all = all
  replaced-all P (timer ∷ timers) all =
      by (test timer) (All-head Of timer timers all) (All-tail Of timer timers all)
      (replaced-all P timers (All-tail Of timer timers all))
    where
      Of : Timer → Type 0
      Of t = P t.number

      by : (t : Bool) → P timer.number → All Of timers → All Of (replaced test make timers)
          → All Of (if t then make timer ++ timers else timer ∷ replaced test make timers)
      by true h rest more =
          All-append Of (make timer) timers (way-all P timer (make timer) (ways timer) h) rest
      by false h rest more = All-cons Of timer (replaced test make timers) h more

  replaced-ascend : (timers : List Timer) → AllPairs IsBefore timers
      → AllPairs IsBefore (replaced test make timers)
  unfolding replaced
  replaced-ascend [] pairs = pairs
  replaced-ascend (timer ∷ timers) pairs =
      by (test timer) (replaced-ascend timers (others-ascend timer timers pairs))
      (replaced-all (λ n. timer.number < n) timers (first-before timer timers pairs))
    where
      by : (t : Bool) → AllPairs IsBefore (replaced test make timers)
          → All (IsBefore timer) (replaced test make timers) → AllPairs IsBefore
          (if t then make timer ++ timers else timer ∷ replaced test make timers)
      by true more above = way-ascends timer (make timer) timers (ways timer) pairs
      by false more above = AllPairs-cons IsBefore timer (replaced test make timers) above more

  replaced-length : (timers : List Timer) → length (replaced test make timers) ≤ length timers
  unfolding replaced
  replaced-length [] = omega arith
  replaced-length (timer ∷ timers) = by (test timer) (replaced-length timers)
    where
      by : (t : Bool) → length (replaced test make timers) ≤ length timers → length
          (if t then make timer ++ timers else timer ∷ replaced test make timers)
          ≤ suc (length timers)
      by true fewer = way-length timer (make timer) timers (ways timer)
      by false fewer = omega arith

  replaced-sound : (s : TimersState) → AreTimers s
      → AreTimers (record s { timers = replaced test make s.timers })
  replaced-sound s h = record {
    ascend = replaced-ascend s.timers h.ascend;
    below = replaced-all (λ n. n < s.next) s.timers h.below;
    most = (let fewer = replaced-length s.timers in let few = h.most in omega arith);
  }

-- ---- all that becomes of timers

-- without any, whatever the next number
pub dropped-sound : (next : ℕ) → AreTimers (record { timers = []; next = next })
dropped-sound next = record {
  ascend = λ i j d before within. absurd (omega arith);
  below = All-nil (λ (t : Timer). t.number < next);
  most = omega arith;
}

pub none-sound : AreTimers no_timers
none-sound = dropped-sound 1

with_timer-sound : (function : List ℕ) (interval turns now : ℕ) (s : TimersState)
    → has_place s ≡ true → AreTimers s
    → AreTimers (with_timer (timer_set s.next function interval turns now) s)
with_timer-sound function interval turns now s place h =
    let timer : Timer = timer_set s.next function interval turns now in
    record {
      ascend = all_pairs_push IsBefore s.timers timer h.ascend (λ k d within. h.below k d within);
      below = All-push (λ (t : Timer). t.number < s.next + 1) s.timers timer
          (All-weaker (λ (t : Timer). t.number < s.next) (λ (t : Timer). t.number < s.next + 1)
          (λ t before. omega arith) s.timers h.below)
          (omega arith);
      most = omega (
        arith,
        length-append s.timers (timer ∷ []),
        ltb-true (length s.timers) most_timers (both-first _ _ place),
      );
    }

without_timer-sound : (number : ℕ) (s : TimersState) → AreTimers s
    → AreTimers (without_timer number s)
without_timer-sound number s h = replaced-sound (has_number number) (λ timer. []) (λ timer. tt) s h

pub calls-sound : (now : ℕ) (s : TimersState) → AreTimers s → HoldsOfTimers AreTimers now s
calls-sound now s h = record {
  stays = h;
  sets = λ function interval turns place least.
      with_timer-sound function interval turns now s place h;
  ends = λ number. without_timer-sound number s h;
}

pub with_fired-sound : (moment : ℕ) (s : TimersState) → AreTimers s → AreTimers (with_fired moment s)
with_fired-sound moment s h =
    replaced-sound (is_due moment) (λ timer. after_firing timer ∷ []) (λ timer. refl) s h

settled-way : (timer : Timer) → GivesWay timer (left_after_settling timer)
settled-way timer = by (goes_on (after_settling timer))
  where
    by : (goes : Bool) → GivesWay timer (if goes then after_settling timer ∷ [] else [])
    by true = refl
    by false = tt

pub with_settled-sound : (number : ℕ) (s : TimersState) → AreTimers s
    → AreTimers (with_settled number s)
with_settled-sound number s h =
    replaced-sound (has_number number) left_after_settling settled-way s h
