-- How timers fire one behind the other.
use Rattle.std.proofs.Common.{◌≡◌, ℕ, zero, suc, ◌+◌, ◌-◌, ◌<◌, Bool, true, false, Option, Some, None, refl, sym, ap, ◌∙◌, arith}
use Rattle.std.specs.Prelude.{is_some}
use Rattle.std.specs.Option.{option_map_or}
use Rattle.event_queue.specs.Timers.{first_due, most_timers}
use Rattle.document_stages.specs.Acting.{Acting, with_timer_fired, with_timers_fired}

-- the timer that is due first, if any
abbrev pub first_at : ℕ → Acting → Option ℕ
first_at moment a = first_due moment a.browser.timers

-- what is left where it fires, if there is one
abbrev pub first_fired : ℕ → Acting → Acting
first_fired moment a = option_map_or (λ number. with_timer_fired moment number a) (first_at moment a) a

some-goes : (f : Acting → Acting) (g : ℕ → Acting) (found : Option ℕ) (a b : Acting) → b ≡ option_map_or g found a → is_some found ≡ true → option_map_or (λ (n : ℕ). f (g n)) found a ≡ f b
some-goes f g (Some n) a b is there = ap f (sym is)
some-goes f g None a b is there = cc

none-stays : (g : ℕ → Acting) (found : Option ℕ) (a : Acting) → is_some found ≡ false → option_map_or g found a ≡ a
none-stays g (Some n) a there = cc
none-stays g None a there = refl

-- where the first one fires, those behind it fire then
one-fires : (left moment : ℕ) (a b : Acting) → b ≡ first_fired moment a → is_some (first_at moment a) ≡ true → with_timers_fired (suc left) moment a ≡ with_timers_fired left moment b
unfolding with_timers_fired
one-fires left moment a b is there =
    some-goes (with_timers_fired left moment) (λ (n : ℕ). with_timer_fired moment n a) (first_at moment a) a b is there

-- where none is due nothing happens
none-fires : (left moment : ℕ) (a : Acting) → is_some (first_at moment a) ≡ false → with_timers_fired left moment a ≡ a
unfolding with_timers_fired
none-fires zero moment a there = refl
none-fires (suc left) moment a there =
    none-stays (λ (n : ℕ). with_timers_fired left moment (with_timer_fired moment n a)) (first_at moment a) a there

-- so many have fired, and those that are left fire from here
abbrev pub HaveFired : ℕ → ℕ → Acting → Acting → Type 0
HaveFired count moment first a =
    with_timers_fired most_timers moment first ≡ with_timers_fired (most_timers - count) moment a

pub have-fired-more : (count moment : ℕ) (there : Bool) (first a b : Acting) → count < most_timers → HaveFired count moment first a → b ≡ first_fired moment a → there ≡ is_some (first_at moment a) → there ≡ true → HaveFired (count + 1) moment first b
have-fired-more count moment there first a b h fired is found holds =
    let behind : most_timers - count ≡ suc (most_timers - (count + 1)) = omega arith in
    fired ∙ (ap (λ (left : ℕ). with_timers_fired left moment a) behind ∙ one-fires (most_timers - (count + 1)) moment a b is (sym found ∙ holds))

pub have-fired-all : (count moment : ℕ) (there : Bool) (first a b : Acting) → HaveFired count moment first a → b ≡ first_fired moment a → there ≡ is_some (first_at moment a) → there ≡ false → b ≡ with_timers_fired most_timers moment first
have-fired-all count moment there first a b fired is found fails =
    is
    ∙ (none-stays (λ (n : ℕ). with_timer_fired moment n a) (first_at moment a) a (sym found ∙ fails)
    ∙ sym (fired ∙ none-fires (most_timers - count) moment a (sym found ∙ fails)))

pub have-fired-most : (count moment : ℕ) (first a : Acting) → count ≡ most_timers → HaveFired count moment first a → a ≡ with_timers_fired most_timers moment first
unfolding with_timers_fired
have-fired-most count moment first a h fired =
    let none : most_timers - count ≡ 0 = omega arith in
    sym (fired ∙ ap (λ (left : ℕ). with_timers_fired left moment a) none)
