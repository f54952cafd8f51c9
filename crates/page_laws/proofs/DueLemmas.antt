-- The timers that are due at a moment fire once each, and come later then.
use Rattle.std.proofs.Common.{◌≡◌, ℕ, zero, suc, ◌+◌, ◌<◌, ◌≤◌, Bool, true, false, List, [], ◌∷◌, ◌++◌, length, Option, Some, None, refl, sym, ◌∙◌, ap, arith}
use Rattle.std.specs.Prelude.{◌&&◌, All, IfSome, filter, find, if◌then◌else◌, nat_le, nat_lt, option_map}
use Rattle.std.specs.Option.{option_map_or}
use Rattle.std.proofs.lemmas.Bool.{leb-false, leb-true, lt-leb}
use Rattle.std.proofs.lemmas.List.Elements.{All-cons, All-head, All-nil, All-tail}
use Rattle.event_queue.specs.Queues.{most_events}
use Rattle.event_queue.specs.Timers.{Timer, after_firing, first_due, goes_on, has_number, is_due, is_firing, least_moment, lesser, most_timers, replaced, after_settling, left_after_settling, with_fired}
use Rattle.event_queue.specs.declared.events.Event.TheVariants as events
use Rattle.browser_objects.specs.Calls.{least_interval}
use Rattle.document_stages.specs.Acting.{Acting, acting_with_timers, with_event, with_timer_fired, with_timer_event, with_timer_settled, with_timers_fired}
use Rattle.acting_documents.specs.Handling.{due_effect}
use Rattle.acting_documents.specs.Runs.{Scene, acting_in, no_event}
use Rattle.page_laws.specs.Times.{IsLater}
use Rattle.page_laws.proofs.LaterLemmas.{LaterThan, replaced-every, settled-every}
use Rattle.page_laws.proofs.TargetLemmas.{both-first}

-- if a firing of the timer is left, the next one comes at the moment or later
pub record IsNear (moment : ℕ) (timer : Timer) : Type 0 where
  pub reached : is_firing timer.left ≡ true → moment ≤ timer.moment
  pub apart : least_interval ≤ timer.interval

abbrev pub AreNear : ℕ → List Timer → Type 0
AreNear moment timers = All (IsNear moment) timers

-- ---- the least moment

lesser-reached : (moment one : ℕ) (other : Option ℕ)
    → IfSome (lesser one other) (λ due. moment ≤ due)
    → (moment ≤ one) × IfSome other (λ due. moment ≤ due)
lesser-reached moment one None h = (h, tt)
lesser-reached moment one (Some other) h = by (nat_le one other) refl h
  where
    by : (t : Bool) → nat_le one other ≡ t → moment ≤ (if t then one else other)
        → (moment ≤ one) × (moment ≤ other)
    by true e h = (h, omega (arith, h, leb-true one other e))
    by false e h = (omega (arith, h, leb-false one other e), h)

-- where the next moment isn't before this one, none is
pub least-near : (clock moment : ℕ) (timers : List Timer) → All (IsLater clock) timers
    → IfSome (least_moment timers) (λ due. moment ≤ due) → AreNear moment timers
unfolding least_moment
least-near clock moment [] all h = All-nil (IsNear moment)
least-near clock moment (timer ∷ timers) all h =
    by (is_firing timer.left) refl h (least-near clock moment timers rest)
  where
    rest : All (IsLater clock) timers
    rest = All-tail (IsLater clock) timer timers all

    apart : least_interval ≤ timer.interval
    apart = (All-head (IsLater clock) timer timers all).apart

    by : (t : Bool) → is_firing timer.left ≡ t
        → IfSome (if t then lesser timer.moment (least_moment timers) else least_moment timers)
        (λ due. moment ≤ due)
        → (IfSome (least_moment timers) (λ due. moment ≤ due) → AreNear moment timers)
        → AreNear moment (timer ∷ timers)
    by true e h more =
        let both = lesser-reached moment timer.moment (least_moment timers) h in
        All-cons (IsNear moment) timer timers
        (record { reached = λ firing. both.0; apart = apart }) (more both.1)
    by false e h more =
        All-cons (IsNear moment) timer timers
        (record { reached = λ firing. absurd (cc (sym e ∙ firing)); apart = apart }) (more h)

lesser-later : (clock one : ℕ) (other : Option ℕ) → clock < one
    → IfSome other (λ due. clock < due) → IfSome (lesser one other) (λ due. clock < due)
lesser-later clock one None h more = h
lesser-later clock one (Some other) h more = by (nat_le one other)
  where
    by : (t : Bool) → clock < (if t then one else other)
    by true = h
    by false = more

-- where all come later, so does the least
pub least-later : (clock : ℕ) (timers : List Timer) → All (IsLater clock) timers
    → IfSome (least_moment timers) (λ due. clock < due)
unfolding least_moment
least-later clock [] all = tt
least-later clock (timer ∷ timers) all =
    by (is_firing timer.left) refl
    (least-later clock timers (All-tail (IsLater clock) timer timers all))
  where
    by : (t : Bool) → is_firing timer.left ≡ t
        → IfSome (least_moment timers) (λ due. clock < due) → IfSome
        (if t then lesser timer.moment (least_moment timers) else least_moment timers)
        (λ due. clock < due)
    by true e more =
        lesser-later clock timer.moment (least_moment timers)
        ((All-head (IsLater clock) timer timers all).later e) more
    by false e more = more

-- ---- how many are due

abbrev due_count : ℕ → List Timer → ℕ
due_count moment timers = length (filter (is_due moment) timers)

second-false : (a b : Bool) → a ≡ true → (a && b) ≡ false → b ≡ false
second-false true b h e = e
second-false false b h e = absurd (cc h)

and-false : (a b : Bool) → b ≡ false → (a && b) ≡ false
and-false true b e = e
and-false false b e = refl

-- what is near and not due comes later
near-later : (moment : ℕ) (timer : Timer) → IsNear moment timer → is_due moment timer ≡ false
    → IsLater moment timer
near-later moment timer h e = record {
  later = λ firing. leb-false timer.moment moment
      (second-false (is_firing timer.left) (nat_le timer.moment moment) firing e);
  apart = h.apart;
}

none-later : (moment : ℕ) (timers : List Timer) → AreNear moment timers
    → find (is_due moment) timers ≡ None → All (IsLater moment) timers
none-later moment [] all e = All-nil (IsLater moment)
none-later moment (timer ∷ timers) all e =
    by (is_due moment timer) refl e
    (none-later moment timers (All-tail (IsNear moment) timer timers all))
  where
    by : (t : Bool) → is_due moment timer ≡ t
        → (if t then Some timer else find (is_due moment) timers) ≡ None
        → (find (is_due moment) timers ≡ None → All (IsLater moment) timers)
        → All (IsLater moment) (timer ∷ timers)
    by true is e more = absurd (cc e)
    by false is e more =
        All-cons (IsLater moment) timer timers
        (near-later moment timer (All-head (IsNear moment) timer timers all) is) (more e)

none-found : (moment : ℕ) (timers : List Timer) → due_count moment timers ≤ 0
    → find (is_due moment) timers ≡ None
none-found moment [] few = refl
none-found moment (timer ∷ timers) few =
    by (is_due moment timer) few (none-found moment timers)
  where
    by : (t : Bool)
        → length (if t then timer ∷ filter (is_due moment) timers
        else filter (is_due moment) timers) ≤ 0
        → (due_count moment timers ≤ 0 → find (is_due moment) timers ≡ None)
        → (if t then Some timer else find (is_due moment) timers) ≡ None
    by true few more = absurd (omega (arith, few))
    by false few more = more few

-- at most all of them
count-most : (moment : ℕ) (timers : List Timer) → due_count moment timers ≤ length timers
count-most moment [] = omega arith
count-most moment (timer ∷ timers) = by (is_due moment timer) (count-most moment timers)
  where
    by : (t : Bool) → due_count moment timers ≤ length timers
        → length (if t then timer ∷ filter (is_due moment) timers
        else filter (is_due moment) timers) ≤ suc (length timers)
    by true more = omega (arith, more)
    by false more = omega (arith, more)

-- ---- the first that is due fires

fired-passed : (moment : ℕ) (timer : Timer) → IsNear moment timer
    → is_due moment timer ≡ true → is_due moment (after_firing timer) ≡ false
fired-passed moment timer h e =
    and-false (is_firing (after_firing timer).left) (nat_le (timer.moment + timer.interval) moment)
    (lt-leb (timer.moment + timer.interval) moment
    (omega (arith, h.apart, h.reached (both-first _ _ e))))

fired-near : (moment : ℕ) (timers : List Timer) → AreNear moment timers
    → AreNear moment (replaced (is_due moment) (λ timer. after_firing timer ∷ []) timers)
fired-near moment timers all =
    replaced-every (IsNear moment) (is_due moment) (λ timer. after_firing timer ∷ [])
    (λ timer e h. All-cons (IsNear moment) (after_firing timer) []
    (record {
      reached = λ firing. omega (arith, h.reached (both-first _ _ e));
      apart = h.apart;
    })
    (All-nil (IsNear moment)))
    timers all

passed-over : (moment : ℕ) (timer : Timer) (timers : List Timer) → is_due moment timer ≡ false
    → due_count moment (timer ∷ timers) ≡ due_count moment timers
passed-over moment timer timers e =
    ap (λ (t : Bool). length (if t then timer ∷ filter (is_due moment) timers
    else filter (is_due moment) timers)) e

-- one less is due then
fired-fewer : (moment : ℕ) (timers : List Timer) (first : Timer) → AreNear moment timers
    → find (is_due moment) timers ≡ Some first
    → suc (due_count moment (replaced (is_due moment) (λ timer. after_firing timer ∷ []) timers))
    ≤ due_count moment timers
unfolding replaced
fired-fewer moment [] first all e = absurd (cc e)
fired-fewer moment (timer ∷ timers) first all e =
    by (is_due moment timer) refl e
    (fired-fewer moment timers first (All-tail (IsNear moment) timer timers all))
  where
    others : List Timer
    others = replaced (is_due moment) (λ timer. after_firing timer ∷ []) timers

    by : (t : Bool) → is_due moment timer ≡ t
        → (if t then Some timer else find (is_due moment) timers) ≡ Some first
        → (find (is_due moment) timers ≡ Some first
        → suc (due_count moment others) ≤ due_count moment timers)
        → suc (due_count moment (if t then after_firing timer ∷ timers else timer ∷ others))
        ≤ length (if t then timer ∷ filter (is_due moment) timers
        else filter (is_due moment) timers)
    by true is e more =
        omega (
          arith,
          passed-over moment (after_firing timer) timers
              (fired-passed moment timer (All-head (IsNear moment) timer timers all) is),
        )
    by false is e more = omega (arith, more e, passed-over moment timer others is)

-- ---- an event of it is lost

settled-near : (moment number : ℕ) (timers : List Timer) → AreNear moment timers
    → AreNear moment (replaced (has_number number) left_after_settling timers)
settled-near moment number timers all =
    replaced-every (IsNear moment) (has_number number) left_after_settling
    (λ timer e h. settled-every (IsNear moment) timer
    (record { reached = h.reached; apart = h.apart }))
    timers all

both-counted : (t : Bool) (one other : Timer) (timers others : List Timer)
    → length timers ≤ length others
    → length (if t then one ∷ timers else timers) ≤ length (if t then other ∷ others else others)
both-counted true one other timers others h = omega (arith, h)
both-counted false one other timers others h = h

one-counted : (t : Bool) (one : Timer) (timers : List Timer)
    → length timers ≤ length (if t then one ∷ timers else timers)
one-counted true one timers = omega arith
one-counted false one timers = omega arith

-- no more are due then
settled-fewer : (moment number : ℕ) (timers : List Timer)
    → due_count moment (replaced (has_number number) left_after_settling timers)
    ≤ due_count moment timers
unfolding replaced
settled-fewer moment number [] = omega arith
settled-fewer moment number (timer ∷ timers) =
    by (has_number number timer) (settled-fewer moment number timers)
  where
    others : List Timer
    others = replaced (has_number number) left_after_settling timers

    of : (goes : Bool)
        → due_count moment ((if goes then after_settling timer ∷ [] else []) ++ timers)
        ≤ due_count moment (timer ∷ timers)
    of true =
        both-counted (is_due moment timer) (after_settling timer) timer (filter (is_due moment) timers)
        (filter (is_due moment) timers) (omega arith)
    of false = one-counted (is_due moment timer) timer (filter (is_due moment) timers)

    by : (t : Bool) → due_count moment others ≤ due_count moment timers
        → due_count moment (if t then left_after_settling timer ++ timers else timer ∷ others)
        ≤ due_count moment (timer ∷ timers)
    by true more = of (goes_on (after_settling timer))
    by false more =
        both-counted (is_due moment timer) timer timer (filter (is_due moment) others)
        (filter (is_due moment) timers) more

-- ---- all that are due fire

abbrev timers_of : Acting → List Timer
timers_of a = a.browser.timers.timers

posted-near : (moment number : ℕ) (a : Acting) → AreNear moment (timers_of a)
    → AreNear moment (timers_of (with_timer_event number a))
posted-near moment number a all = by (nat_lt (length a.queue) most_events)
  where
    by : (room : Bool) → AreNear moment (timers_of (if room then with_event (events.Timer number) a
        else with_timer_settled number (with_event (events.Timer number) a)))
    by true = all
    by false = settled-near moment number (timers_of a) all

posted-fewer : (moment number : ℕ) (a : Acting)
    → due_count moment (timers_of (with_timer_event number a)) ≤ due_count moment (timers_of a)
posted-fewer moment number a = by (nat_lt (length a.queue) most_events)
  where
    by : (room : Bool)
        → due_count moment (timers_of (if room then with_event (events.Timer number) a
        else with_timer_settled number (with_event (events.Timer number) a)))
        ≤ due_count moment (timers_of a)
    by true = omega arith
    by false = settled-fewer moment number (timers_of a)

-- As many firings as there are timers that are due are enough.
all-fire : (more moment : ℕ) (a : Acting) → AreNear moment (timers_of a)
    → due_count moment (timers_of a) ≤ more
    → All (IsLater moment) (timers_of (with_timers_fired more moment a))
unfolding with_timers_fired first_due
all-fire zero moment a all few =
    none-later moment (timers_of a) all (none-found moment (timers_of a) few)
all-fire (suc more) moment a all few =
    by (all-fire more moment) (find (is_due moment) (timers_of a)) refl
  where
    by : ((a : Acting) → AreNear moment (timers_of a) → due_count moment (timers_of a) ≤ more
        → All (IsLater moment) (timers_of (with_timers_fired more moment a)))
        → (found : Option Timer) → find (is_due moment) (timers_of a) ≡ found
        → All (IsLater moment) (timers_of (option_map_or
        (λ number. with_timers_fired more moment (with_timer_fired moment number a))
        (option_map (λ timer. timer.number) found) a))
    by rest None e = none-later moment (timers_of a) all e
    by rest (Some first) e =
        let next : Acting = acting_with_timers (with_fired moment a.browser.timers) a in
        rest (with_timer_fired moment first.number a)
        (posted-near moment first.number next (fired-near moment (timers_of a) all))
        (omega (
          arith,
          few,
          posted-fewer moment first.number next,
          fired-fewer moment (timers_of a) first all e,
        ))

-- what a moment leaves of the timers of a document
pub due-later : (moment : ℕ) (s : Scene) → AreNear moment s.browser.timers.timers
    → length s.browser.timers.timers ≤ most_timers
    → LaterThan moment (due_effect moment s).scene.browser.timers
unfolding due_effect
due-later moment s all few =
    all-fire most_timers moment (acting_in no_event (record s { now = moment })) all
    (omega (arith, few, count-most moment s.browser.timers.timers))
