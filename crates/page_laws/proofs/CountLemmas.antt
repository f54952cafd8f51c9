-- How many events of timers are out, as these are set and end, as they fire, and as their events are dispatched or lost.
use Rattle.std.proofs.Common.{◌≡◌, ℕ, suc, ◌+◌, ◌-◌, ◌<◌, ◌≤◌, Bool, true, false, List, [], ◌∷◌, ◌++◌, length, Some, None, refl, sym, ◌∙◌, ap, subst, arith, length-append}
use Rattle.std.specs.Prelude.{◌==◌, All, cond, find, if◌then◌else◌, min, nat_lt}
use Rattle.std.specs.List.{AllPairs}
use Rattle.std.proofs.lemmas.Bool.{eqb-false, eqb-true, ltb-true, ne_eqb}
use Rattle.std.proofs.lemmas.List.Elements.{All-append, All-cons, All-head, All-nil, All-push, All-tail, All-weaker}
use Rattle.std.proofs.lemmas.List.Sums.{count_by-le-length, sum_by-append}
use Rattle.std.proofs.Math.Nat.{min-eq_left}
use Rattle.event_queue.specs.Queues.{most_events, with_posted}
use Rattle.event_queue.specs.Timers.{Timer, TimersState, after_firing, has_number, is_due, left_after_settling, most_out, replaced, timer_of, timer_set, with_fired, with_settled}
use Rattle.event_queue.specs.declared.events.Event.{Event}
use Rattle.event_queue.specs.declared.events.Event.TheVariants as events
use Rattle.page_laws.specs.Counts.{is_of_timer, timer_count}
use Rattle.page_laws.specs.Soundness.{AreTimers}
use Rattle.page_laws.proofs.LaterLemmas.{replaced-every, settled-every}
use Rattle.page_laws.proofs.QueueLemmas.{posted-all, posted-room}
use Rattle.page_laws.proofs.TimerLemmas.{HoldsOfTimers, IsBefore, calls-sound, dropped-sound, first-before, others-ascend, with_fired-sound, with_settled-sound}

-- so many events are out of the timer
abbrev pub IsOut : (ℕ → ℕ) → Timer → Type 0
IsOut count timer = timer.out ≡ count timer.number

abbrev pub AreOut : (ℕ → ℕ) → List Timer → Type 0
AreOut count timers = All (IsOut count) timers

-- with one more of the timer of a number
abbrev pub one_more : ℕ → (ℕ → ℕ) → ℕ → ℕ
one_more number count other = if number == other then suc (count other) else count other

same_number : (n : ℕ) → (n == n) ≡ true
same_number n = by (n == n) refl
  where
    by : (t : Bool) → (n == n) ≡ t → (n == n) ≡ true
    by true e = e
    by false e = absurd (eqb-false n n e refl)

more-same : (number : ℕ) (count : ℕ → ℕ) → one_more number count number ≡ suc (count number)
more-same number count =
    ap (λ (t : Bool). if t then suc (count number) else count number) (same_number number)

more-other : (number : ℕ) (count : ℕ → ℕ) (other : ℕ) → (number ≡ other → ⊥)
    → one_more number count other ≡ count other
more-other number count other not =
    ap (λ (t : Bool). if t then suc (count other) else count other) (ne_eqb number other not)

-- ---- one of them

found-holds : (P : Timer → Type 0) (test : Timer → Bool) (timers : List Timer) (first : Timer)
    → All P timers → find test timers ≡ Some first → P first
found-holds P test [] first all e = absurd (cc e)
found-holds P test (timer ∷ timers) first all e =
    by (test timer) e (found-holds P test timers first (All-tail P timer timers all))
  where
    by : (t : Bool) → (if t then Some timer else find test timers) ≡ Some first
        → (find test timers ≡ Some first → P first) → P first
    by true e more =
        let same : timer ≡ first = cc e in subst P same (All-head P timer timers all)
    by false e more = more e

-- what is counted of those behind a timer doesn't change with what is counted of it
others-more : (count : ℕ → ℕ) (timer : Timer) (timers : List Timer)
    → All (IsBefore timer) timers → AreOut count timers
    → AreOut (one_more timer.number count) timers
others-more count timer timers before all k d within =
    all k d within
    ∙ sym (more-other timer.number count _ (λ same. let h = before k d within in omega arith))

others-less : (count : ℕ → ℕ) (timer : Timer) (timers : List Timer)
    → All (IsBefore timer) timers → AreOut (one_more timer.number count) timers
    → AreOut count timers
others-less count timer timers before all k d within =
    all k d within
    ∙ more-other timer.number count _ (λ same. let h = before k d within in omega arith)

-- ---- the first that is due fires

fired-out : (moment : ℕ) (count : ℕ → ℕ) (timers : List Timer) (first : Timer)
    → ((n : ℕ) → count n < most_out) → AllPairs IsBefore timers → AreOut count timers
    → find (is_due moment) timers ≡ Some first
    → AreOut (one_more first.number count)
    (replaced (is_due moment) (λ timer. after_firing timer ∷ []) timers)
unfolding replaced
fired-out moment count [] first few pairs all e = absurd (cc e)
fired-out moment count (timer ∷ timers) first few pairs all e =
    by (is_due moment timer) e
    (fired-out moment count timers first few (others-ascend timer timers pairs)
    (All-tail (IsOut count) timer timers all))
  where
    others : List Timer
    others = replaced (is_due moment) (λ timer. after_firing timer ∷ []) timers

    here : timer.out ≡ count timer.number
    here = All-head (IsOut count) timer timers all

    behind : All (IsBefore timer) timers
    behind = first-before timer timers pairs

    by : (t : Bool) → (if t then Some timer else find (is_due moment) timers) ≡ Some first
        → (find (is_due moment) timers ≡ Some first
        → AreOut (one_more first.number count) others)
        → AreOut (one_more first.number count)
        (if t then after_firing timer ∷ timers else timer ∷ others)
    by true e more =
        let same : timer ≡ first = cc e in
        subst (λ (one : Timer). AreOut (one_more one.number count) (after_firing timer ∷ timers))
        same
        (All-cons (IsOut (one_more timer.number count)) (after_firing timer) timers
        (let low : count timer.number < most_out = few timer.number in
        let room : timer.out + 1 ≤ most_out = omega (arith, here, low) in
        let fits : min (timer.out + 1) most_out ≡ timer.out + 1 = min-eq_left room in
        let sum : timer.out + 1 ≡ suc (count timer.number) = omega (arith, here) in
        fits ∙ (sum ∙ sym (more-same timer.number count)))
        (others-more count timer timers behind (All-tail (IsOut count) timer timers all)))
    by false e more =
        let later : timer.number < first.number =
        found-holds (IsBefore timer) (is_due moment) timers first behind e in
        All-cons (IsOut (one_more first.number count)) timer others
        (here ∙ sym (more-other first.number count timer.number (λ same. omega arith)))
        (more e)

-- ---- an event of one is dispatched or lost

settled-out : (number : ℕ) (count : ℕ → ℕ) (timers : List Timer) → AllPairs IsBefore timers
    → AreOut (one_more number count) timers
    → AreOut count (replaced (has_number number) left_after_settling timers)
unfolding replaced
settled-out number count [] pairs all = All-nil (IsOut count)
settled-out number count (timer ∷ timers) pairs all =
    by (has_number number timer) refl
    (settled-out number count timers (others-ascend timer timers pairs)
    (All-tail (IsOut (one_more number count)) timer timers all))
  where
    others : List Timer
    others = replaced (has_number number) left_after_settling timers

    here : timer.out ≡ one_more number count timer.number
    here = All-head (IsOut (one_more number count)) timer timers all

    rest : AreOut (one_more number count) timers
    rest = All-tail (IsOut (one_more number count)) timer timers all

    by : (t : Bool) → has_number number timer ≡ t → AreOut count others → AreOut count
        (if t then left_after_settling timer ++ timers else timer ∷ others)
    by true e more =
        let is : timer.number ≡ number = eqb-true timer.number number e in
        let out : timer.out ≡ one_more timer.number count timer.number =
        subst (λ (n : ℕ). timer.out ≡ one_more n count timer.number) (sym is) here in
        let left : timer.out - 1 ≡ count timer.number =
        omega (arith, out ∙ more-same timer.number count) in
        All-append (IsOut count) (left_after_settling timer) timers
        (settled-every (IsOut count) timer left)
        (others-less count timer timers (first-before timer timers pairs)
        (subst (λ (n : ℕ). AreOut (one_more n count) timers) (sym is) rest))
    by false e more =
        All-cons (IsOut count) timer others
        (here
        ∙ more-other number count timer.number (λ same. eqb-false timer.number number e (sym same)))
        more

-- where no timer has the number, none counts it
none-out : (number : ℕ) (count : ℕ → ℕ) (timers : List Timer)
    → find (has_number number) timers ≡ None → AreOut (one_more number count) timers
    → AreOut count timers
none-out number count [] e all = All-nil (IsOut count)
none-out number count (timer ∷ timers) e all =
    by (has_number number timer) refl e
    (λ none. none-out number count timers none
    (All-tail (IsOut (one_more number count)) timer timers all))
  where
    by : (t : Bool) → has_number number timer ≡ t
        → (if t then Some timer else find (has_number number) timers) ≡ None
        → (find (has_number number) timers ≡ None → AreOut count timers)
        → AreOut count (timer ∷ timers)
    by true is e more = absurd (cc e)
    by false is e more =
        All-cons (IsOut count) timer timers
        (All-head (IsOut (one_more number count)) timer timers all
        ∙ more-other number count timer.number
        (λ same. eqb-false timer.number number is (sym same)))
        (more e)

-- ---- the events that wait

-- one more in front, or behind, is counted if it is one of the timer
first-count : (n : ℕ) (event : Event) (queue : List Event)
    → timer_count (event ∷ queue) n
    ≡ (0 + cond (is_of_timer n event) 1 0) + timer_count queue n
first-count n event queue =
    sum_by-append (λ (e : Event). cond (is_of_timer n e) 1 0) (event ∷ []) queue

pushed-count : (n : ℕ) (event : Event) (queue : List Event)
    → timer_count (queue ++ event ∷ []) n
    ≡ timer_count queue n + (0 + cond (is_of_timer n event) 1 0)
pushed-count n event queue =
    sum_by-append (λ (e : Event). cond (is_of_timer n e) 1 0) queue (event ∷ [])

one-first : (t : Bool) (k : ℕ) → (0 + cond t 1 0) + k ≡ (if t then suc k else k)
one-first true k = omega arith
one-first false k = omega arith

one-behind : (t : Bool) (k : ℕ) → k + (0 + cond t 1 0) ≡ (if t then suc k else k)
one-behind true k = omega arith
one-behind false k = omega arith

first-more : (number : ℕ) (queue : List Event) (n : ℕ)
    → timer_count (events.Timer number ∷ queue) n ≡ one_more number (timer_count queue) n
first-more number queue n =
    first-count n (events.Timer number) queue ∙ one-first (number == n) (timer_count queue n)

pushed-more : (number : ℕ) (queue : List Event) (n : ℕ)
    → one_more number (timer_count queue) n
    ≡ timer_count (queue ++ events.Timer number ∷ []) n
pushed-more number queue n =
    sym (pushed-count n (events.Timer number) queue
    ∙ one-behind (number == n) (timer_count queue n))

-- and it isn't if it is not
apart-first : (n : ℕ) (event : Event) (queue : List Event) → is_of_timer n event ≡ false
    → timer_count (event ∷ queue) n ≡ timer_count queue n
apart-first n event queue apart =
    first-count n event queue
    ∙ (one-first (is_of_timer n event) (timer_count queue n)
    ∙ ap (λ (t : Bool). if t then suc (timer_count queue n) else timer_count queue n) apart)

apart-pushed : (n : ℕ) (event : Event) (queue : List Event) → is_of_timer n event ≡ false
    → timer_count (queue ++ event ∷ []) n ≡ timer_count queue n
apart-pushed n event queue apart =
    pushed-count n event queue
    ∙ (one-behind (is_of_timer n event) (timer_count queue n)
    ∙ ap (λ (t : Bool). if t then suc (timer_count queue n) else timer_count queue n) apart)

-- the number of its timer was given
abbrev pub IsGiven : ℕ → Event → Type 0
IsGiven next (events.Timer number) = number < next
IsGiven next other = Unit {0}

given-later : (next : ℕ) (event : Event) → IsGiven next event → IsGiven (next + 1) event
given-later next (events.Timer number) h = omega (arith, h)
given-later next _ h = tt

given-other : (next : ℕ) (event : Event) → IsGiven next event → is_of_timer next event ≡ false
given-other next (events.Timer number) h = ne_eqb number next (λ same. omega (arith, h))
given-other next _ h = refl

-- of a number that wasn't given none waits
none-given : (next : ℕ) (queue : List Event) → All (IsGiven next) queue
    → timer_count queue next ≡ 0
none-given next [] all = refl
none-given next (event ∷ queue) all =
    let more : timer_count queue next ≡ 0 =
    none-given next queue (All-tail (IsGiven next) event queue all) in
    apart-first next event queue (given-other next event (All-head (IsGiven next) event queue all))
    ∙ more

-- of each timer that stands so many events are out as wait
pub record IsCounted (queue : List Event) (s : TimersState) : Type 0 where
  pub timers : AreTimers s
  pub room : length queue ≤ most_events
  pub given : All (IsGiven s.next) queue
  pub out : AreOut (timer_count queue) s.timers

few-wait : (queue : List Event) → length queue ≤ most_events → (n : ℕ)
    → timer_count queue n < most_out
few-wait queue room n = omega (arith, count_by-le-length (is_of_timer n) queue)

out-as : (one other : ℕ → ℕ) (timers : List Timer) → ((n : ℕ) → one n ≡ other n)
    → AreOut one timers → AreOut other timers
out-as one other timers same all k d within = all k d within ∙ same _

-- ---- what becomes of both

-- it is not the event of a timer
abbrev pub IsApart : Event → Type 0
IsApart event = (n : ℕ) → is_of_timer n event ≡ false

apart-given : (next : ℕ) (event : Event) → IsApart event → IsGiven next event
apart-given next (events.Timer number) apart = absurd (eqb-false number number (apart number) refl)
apart-given next _ apart = tt

-- another event is posted
pub posted-counted : (event : Event) (queue : List Event) (s : TimersState) → IsApart event
    → IsCounted queue s → IsCounted (with_posted event queue) s
posted-counted event queue s apart h = record {
  timers = h.timers;
  room = posted-room event queue h.room;
  given = posted-all (IsGiven s.next) event queue (apart-given s.next event apart) h.given;
  out = by (nat_lt (length queue) most_events);
}
  where
    by : (t : Bool) → AreOut (timer_count (if t then queue ++ event ∷ [] else queue)) s.timers
    by true =
        out-as (timer_count queue) (timer_count (queue ++ event ∷ [])) s.timers
        (λ n. sym (apart-pushed n event queue (apart n))) h.out
    by false = h.out

-- a script sets a timer, or ends one
pub calls-counted : (queue : List Event) (now : ℕ) (s : TimersState) → IsCounted queue s
    → HoldsOfTimers (IsCounted queue) now s
calls-counted queue now s h =
    let sound = calls-sound now s h.timers in
    record {
      stays = h;
      sets = λ function interval turns place least. record {
        timers = sound.sets function interval turns place least;
        room = h.room;
        given = All-weaker (IsGiven s.next) (IsGiven (s.next + 1)) (given-later s.next) queue
            h.given;
        out = All-push (IsOut (timer_count queue)) s.timers
            (timer_set s.next function interval turns now) h.out
            (sym (none-given s.next queue h.given));
      };
      ends = λ number. record {
        timers = sound.ends number;
        room = h.room;
        given = h.given;
        out = replaced-every (IsOut (timer_count queue)) (has_number number) (λ timer. [])
            (λ timer e out. All-nil (IsOut (timer_count queue))) s.timers h.out;
      };
    }

-- the first event is taken, which is none of a timer
pub taken-counted : (event : Event) (queue : List Event) (s : TimersState) → IsApart event
    → IsCounted (event ∷ queue) s → IsCounted queue s
taken-counted event queue s apart h = record {
  timers = h.timers;
  room = omega (arith, h.room);
  given = All-tail (IsGiven s.next) event queue h.given;
  out = out-as (timer_count (event ∷ queue)) (timer_count queue) s.timers
      (λ n. apart-first n event queue (apart n)) h.out;
}

-- or it is that of a timer, which is settled
pub settled-counted : (number : ℕ) (queue : List Event) (s : TimersState)
    → IsCounted (events.Timer number ∷ queue) s → IsCounted queue (with_settled number s)
settled-counted number queue s h = record {
  timers = with_settled-sound number s h.timers;
  room = omega (arith, h.room);
  given = All-tail (IsGiven s.next) (events.Timer number) queue h.given;
  out = settled-out number (timer_count queue) s.timers h.timers.ascend
      (out-as (timer_count (events.Timer number ∷ queue)) (one_more number (timer_count queue))
      s.timers (first-more number queue) h.out);
}

-- or there is no timer of the number any more
pub unknown-counted : (number : ℕ) (queue : List Event) (s : TimersState)
    → timer_of number s ≡ None → IsCounted (events.Timer number ∷ queue) s → IsCounted queue s
unfolding timer_of
unknown-counted number queue s none h = record {
  timers = h.timers;
  room = omega (arith, h.room);
  given = All-tail (IsGiven s.next) (events.Timer number) queue h.given;
  out = none-out number (timer_count queue) s.timers none
      (out-as (timer_count (events.Timer number ∷ queue)) (one_more number (timer_count queue))
      s.timers (first-more number queue) h.out);
}

-- the first timer that is due fires, and its event is posted, or is lost and settled
pub fired-counted : (moment : ℕ) (first : Timer) (queue : List Event) (s : TimersState)
    → find (is_due moment) s.timers ≡ Some first → IsCounted queue s
    → (nat_lt (length queue) most_events ≡ true
    → IsCounted (queue ++ events.Timer first.number ∷ []) (with_fired moment s))
    × IsCounted queue (with_settled first.number (with_fired moment s))
fired-counted moment first queue s e h = (kept, lost)
  where
    number : ℕ
    number = first.number

    out : AreOut (one_more number (timer_count queue)) (with_fired moment s).timers
    out =
        fired-out moment (timer_count queue) s.timers first (few-wait queue h.room)
        h.timers.ascend h.out e

    given : number < s.next
    given =
        found-holds (λ timer. timer.number < s.next) (is_due moment) s.timers first h.timers.below e

    sound : AreTimers (with_fired moment s)
    sound = with_fired-sound moment s h.timers

    kept : nat_lt (length queue) most_events ≡ true
        → IsCounted (queue ++ events.Timer number ∷ []) (with_fired moment s)
    kept room = record {
      timers = sound;
      room = omega (
        arith,
        ltb-true (length queue) most_events room,
        length-append queue (events.Timer number ∷ []),
      );
      given = All-push (IsGiven s.next) queue (events.Timer number) h.given given;
      out = out-as (one_more number (timer_count queue))
          (timer_count (queue ++ events.Timer number ∷ [])) (with_fired moment s).timers
          (pushed-more number queue) out;
    }

    lost : IsCounted queue (with_settled number (with_fired moment s))
    lost = record {
      timers = with_settled-sound number (with_fired moment s) sound;
      room = h.room;
      given = h.given;
      out = settled-out number (timer_count queue) (with_fired moment s).timers sound.ascend out;
    }

-- where nothing waits and no timer stands
pub none-counted : (next : ℕ) → IsCounted [] (record { timers = []; next = next })
none-counted next = record {
  timers = dropped-sound next;
  room = omega arith;
  given = All-nil (IsGiven next);
  out = All-nil (IsOut (timer_count []));
}
