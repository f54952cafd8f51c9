-- The first timer that passes a test, as it is kept and as it is seen.
use Rattle.std.proofs.Common.{◌≡◌, ◌<◌, ◌≤◌, ℕ, zero, suc, ◌+◌, Bool, true, false, List, [], ◌∷◌, ◌++◌, length, map, take, drop, cond, get_or, set, nat_le, nat_lt, ◌-◌, ◌&&◌, if◌then◌else◌, Option, Some, None, Bor, refl, sym, ap, ap₂, ◌∙◌, arith, subst}
use Rattle.std.specs.Prelude.{All, MatchOption, position, find, is_some, option_copied, option_map, unwrap_or}
use Rattle.std.specs.List.{position_or_len}
use Rattle.std.proofs.lemmas.List.Elements.{All-append, All-take, All-drop, All-set, All-get_or}
use Rattle.std.proofs.lemmas.List.{get_or-map, length-map, map-append, set_split, take-set, drop-set-lt, drop_all, drop_more}
use Rattle.std.proofs.lemmas.Bool.{false≢true, leb-true, ltb-false}
use Rattle.std.proofs.lemmas.Option.{none-some}
use Rattle.std.proofs.lemmas.List.Sums.{fails_before_first}
use Rattle.std.proofs.lemmas.List.Quantifiers.{position-Some}
use Rattle.event_queue.specs.Timers.{Timer, goes_on, is_due, is_firing, least_moment, lesser, replaced, after_settling, left_after_settling}
use Rattle.event_queue.specs.devices.KeptTimers.{AreKept, IsChanged, seen}
use Rattle.event_queue.specs.declared.timers.KeptTimer.{KeptTimer}

-- what is found, and what it gives way to, where the first one that passes stands at a place
pub record IsFirst (test : Timer → Bool) (xs : List KeptTimer) (place : ℕ) (d : KeptTimer)
    : Type 0 where
  pub below : place < length xs
  pub passes : test (seen (get_or xs place d)) ≡ true
  pub found : find test (map seen xs) ≡ Some (seen (get_or xs place d))
  pub replaced_is : (make : Timer → List Timer) → replaced test make (map seen xs)
      ≡ map seen (take place xs)
      ++ (make (seen (get_or xs place d)) ++ map seen (drop (suc place) xs))

first-at : (test : Timer → Bool) (xs : List KeptTimer) (place : ℕ) (d : KeptTimer)
    → place < length xs → test (seen (get_or xs place d)) ≡ true
    → ((k : ℕ) → k < place → test (seen (get_or xs k d)) ≡ false)
    → IsFirst test xs place d
unfolding replaced
first-at test [] place d h is before = absurd (omega arith)
first-at test (x ∷ xs) zero d h is before = record {
  below = h;
  passes = is;
  found = rw is refl;
  replaced_is = λ make. rw is refl;
}
first-at test (x ∷ xs) (suc place) d h is before =
    let fails : test (seen x) ≡ false = before 0 (omega arith) in
    let rest : IsFirst test xs place d
    = first-at test xs place d (omega arith) is (λ k lt. before (suc k) (omega arith)) in
    record {
      below = h;
      passes = is;
      found = rw fails rest.found;
      replaced_is = λ make. rw fails (ap (λ l. seen x ∷ l) (rest.replaced_is make));
    }

pub first : (test : Timer → Bool) (xs : List KeptTimer) (place : ℕ) (d : KeptTimer)
    → position (λ timer. test (seen timer)) xs ≡ Some place → IsFirst test xs place d
first test xs place d e =
    let p = position-Some (λ timer. test (seen timer)) xs place d e in
    first-at test xs place d p.0 p.1 p.2

-- ---- where none passes

pub record IsNone (test : Timer → Bool) (xs : List KeptTimer) : Type 0 where
  pub found : find test (map seen xs) ≡ None
  pub replaced_is : (make : Timer → List Timer) → replaced test make (map seen xs) ≡ map seen xs

none-of : (test : Timer → Bool) (xs : List KeptTimer) (d : KeptTimer)
    → ((k : ℕ) → k < length xs → test (seen (get_or xs k d)) ≡ false) → IsNone test xs
unfolding replaced
none-of test [] d fails = record { found = refl; replaced_is = λ make. refl }
none-of test (x ∷ xs) d fails =
    let here : test (seen x) ≡ false = fails 0 (omega arith) in
    let rest : IsNone test xs = none-of test xs d (λ k lt. fails (suc k) (omega arith)) in
    record {
      found = rw here rest.found;
      replaced_is = λ make. rw here (ap (λ l. seen x ∷ l) (rest.replaced_is make));
    }

no-place : (b : Bool) (place : ℕ) → cond b (Some place) None ≡ None → b ≡ false
no-place true place e = absurd (none-some place (sym e))
no-place false place e = refl

pub none : (test : Timer → Bool) (xs : List KeptTimer) (d : KeptTimer)
    → position (λ timer. test (seen timer)) xs ≡ None → IsNone test xs
none test xs d e =
    let at : nat_lt (position_or_len (λ timer. test (seen timer)) xs) (length xs) ≡ false
    = no-place _ _ e in
    none-of test xs d
    (λ k h. fails_before_first (λ timer. test (seen timer)) xs k d
    (let least : length xs ≤ position_or_len (λ timer. test (seen timer)) xs = ltb-false _ _ at in omega arith))

-- ---- lists that change at a place

pub blank : KeptTimer
blank = record {
  number = 0;
  function = None;
  moment = 0;
  interval = 0;
  left = None;
  out = 0;
}

pub kept-without : (xs : List KeptTimer) (next place : ℕ) → AreKept xs next
    → AreKept (take place xs ++ drop (suc place) xs) next
kept-without xs next place k = record {
  named = All-append (λ timer. is_some timer.function ≡ true) (take place xs) (drop (suc place) xs)
      (All-take (λ timer. is_some timer.function ≡ true) place xs k.named)
      (All-drop (λ timer. is_some timer.function ≡ true) (suc place) xs k.named);
  next_is = k.next_is;
}

pub kept-changed : (change : Timer → Timer) (xs ys : List KeptTimer) (next place : ℕ)
    → place < length xs → IsChanged change place xs ys → AreKept xs next → AreKept ys next
kept-changed change xs ys next place h ch k = record {
  named = subst (All (λ timer. is_some timer.function ≡ true)) (sym ch.new_is)
      (All-set (λ timer. is_some timer.function ≡ true) xs place ch.timer
      (ap is_some (ch.function_is blank)
      ∙ All-get_or (λ timer. is_some timer.function ≡ true) xs place blank h k.named) k.named);
  next_is = k.next_is;
}

-- what holds of each timer as it is seen holds of the one at a place
pub seen-at : (P : Timer → Type 0) (xs : List KeptTimer) (place : ℕ) (d : KeptTimer)
    → place < length xs → All P (map seen xs) → P (seen (get_or xs place d))
seen-at P xs place d h all =
    subst P (get_or-map seen xs place d (seen d) h)
    (All-get_or P (map seen xs) place (seen d) (subst (λ n. place < n) (sym (length-map xs seen)) h) all)

-- ---- as they are seen

pub removed-at : (test : Timer → Bool) (xs : List KeptTimer) (place : ℕ)
    → IsFirst test xs place blank
    → map seen (take place xs ++ drop (suc place) xs) ≡ replaced test (λ timer. []) (map seen xs)
removed-at test xs place f =
    map-append seen (take place xs) (drop (suc place) xs) ∙ sym (f.replaced_is (λ timer. []))

set-seen : (xs : List KeptTimer) (place : ℕ) (timer : KeptTimer) → place < length xs
    → map seen (set xs place timer)
    ≡ map seen (take place xs) ++ (seen timer ∷ map seen (drop (suc place) xs))
set-seen xs place timer h =
    ap (map seen) (set_split xs place timer h)
    ∙ map-append seen (take place xs) (timer ∷ drop (suc place) xs)

pub changed-at : (test : Timer → Bool) (change : Timer → Timer) (xs ys : List KeptTimer)
    (place : ℕ) → IsFirst test xs place blank → IsChanged change place xs ys
    → map seen ys ≡ replaced test (λ timer. change timer ∷ []) (map seen xs)
changed-at test change xs ys place f ch =
    ap (map seen) ch.new_is
    ∙ set-seen xs place ch.timer f.below
    ∙ ap (λ timer. map seen (take place xs) ++ (timer ∷ map seen (drop (suc place) xs)))
    (ch.seen_is blank)
    ∙ sym (f.replaced_is (λ timer. change timer ∷ []))

pub goes-on-at : (test : Timer → Bool) (xs ys : List KeptTimer) (place : ℕ)
    → IsFirst test xs place blank → IsChanged after_settling place xs ys
    → goes_on (after_settling (seen (get_or xs place blank))) ≡ true
    → map seen ys ≡ replaced test left_after_settling (map seen xs)
goes-on-at test xs ys place f ch on =
    ap (map seen) ch.new_is
    ∙ set-seen xs place ch.timer f.below
    ∙ ap (λ timer. map seen (take place xs) ++ (timer ∷ map seen (drop (suc place) xs)))
    (ch.seen_is blank)
    ∙ sym (f.replaced_is left_after_settling ∙ made)
  where
    made : map seen (take place xs)
        ++ (left_after_settling (seen (get_or xs place blank)) ++ map seen (drop (suc place) xs))
        ≡ map seen (take place xs)
        ++ (after_settling (seen (get_or xs place blank)) ∷ map seen (drop (suc place) xs))
    made = rw on refl

pub ends-at : (test : Timer → Bool) (xs ys : List KeptTimer) (place : ℕ)
    → IsFirst test xs place blank → IsChanged after_settling place xs ys
    → goes_on (after_settling (seen (get_or xs place blank))) ≡ false
    → map seen (take place ys ++ drop (suc place) ys)
    ≡ replaced test left_after_settling (map seen xs)
ends-at test xs ys place f ch off =
    ap (map seen)
    (ap₂ (λ a b. a ++ b) (ap (take place) ch.new_is ∙ take-set xs place ch.timer)
    (ap (drop (suc place)) ch.new_is ∙ drop-set-lt (suc place) xs place ch.timer (omega arith)))
    ∙ map-append seen (take place xs) (drop (suc place) xs)
    ∙ sym (f.replaced_is left_after_settling ∙ made)
  where
    made : map seen (take place xs)
        ++ (left_after_settling (seen (get_or xs place blank)) ++ map seen (drop (suc place) xs))
        ≡ map seen (take place xs) ++ map seen (drop (suc place) xs)
    made = rw off refl

-- ---- what is due, and what is called

second-true : (a b : Bool) → (a && b) ≡ true → b ≡ true
second-true true b h = h
second-true false b h = absurd (false≢true h)

pub due-moment : (moment : ℕ) (timer : Timer) → is_due moment timer ≡ true → timer.moment ≤ moment
due-moment moment timer h =
    leb-true timer.moment moment (second-true (is_firing timer.left) (nat_le timer.moment moment) h)

pub called : (o : Option (List ℕ)) (r : Option (Bor (List ℕ))) (A : Type 0) (timer : Option Timer)
    → option_copied r ≡ o → is_some o ≡ true
    → option_map (λ timer. timer.function) timer ≡ Some (unwrap_or o [])
    → MatchOption r A (λ function. option_map (λ timer. timer.function) timer ≡ Some function.now)
called o None A timer e some is = absurd (false≢true (ap is_some e ∙ some))
called o (Some r) A timer e some is = is ∙ ap (λ o. Some (unwrap_or o [])) (sym e)

-- ---- the least moment

pub one-more : (xs : List KeptTimer) (behind : ℕ) (timer : KeptTimer) → behind < length xs
    → timer ≡ get_or xs (length xs - 1 - behind) timer
    → least_moment (map seen (drop (length xs - (behind + 1)) xs))
    ≡ (if is_firing timer.left
    then lesser timer.moment (least_moment (map seen (drop (length xs - behind) xs)))
    else least_moment (map seen (drop (length xs - behind) xs)))
unfolding least_moment
one-more xs behind timer h is =
    let first : length xs - (behind + 1) ≡ length xs - 1 - behind = omega arith in
    let next : length xs - 1 - behind + 1 ≡ length xs - behind = omega arith in
    ap (λ l. least_moment (map seen l))
    (ap (λ n. drop n xs) first
    ∙ drop_more xs (length xs - 1 - behind) timer (omega arith)
    ∙ ap₂ (λ x n. x ∷ drop n xs) (sym is) next)

pub none-left : (xs : List KeptTimer) → None ≡ least_moment (map seen (drop (length xs - 0) xs))
unfolding least_moment
none-left xs =
    sym (ap (λ l. least_moment (map seen l)) (drop_all (length xs - 0) xs (omega arith)))
