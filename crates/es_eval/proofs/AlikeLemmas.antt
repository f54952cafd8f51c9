-- Actions that are alike up to so many steps that are left. What goes on behind them need only be
-- the same on worlds with no more steps, and then they are one run; and where each end of what goes
-- on has no more steps left than it began with, so has each end of theirs. What actions are made of
-- keeps that.
use Rattle.std.proofs.Common.{◌≡◌, ℕ, ◌+◌, ◌-◌, ◌<◌, ◌≤◌, Bool, true, false, List, refl, arith}
use Rattle.std.proofs.lemmas.Bool.{le-leb, leb-true}
use Rattle.std.specs.Prelude.{Option, Some, None, if◌then◌else◌, nat_le}
use Rattle.std.specs.Option.{option_map_or}
use Rattle.es_values.specs.declared.hosts.HostAnswer.{HostAnswer}
use Rattle.es_values.specs.declared.values.Value.{Value}
use Rattle.es_values.specs.Conversions.{number_of, text_of}
use Rattle.es_values.specs.Objects.{ObjectState}
use Rattle.es_builtins.specs.Rows.{Row}
use Rattle.es_builtins.specs.Rows.Row.{NoRow, Gives}
use Rattle.es_eval.specs.declared.outcomes.Outcome.{Outcome}
use Rattle.es_eval.specs.declared.outcomes.Outcome.TheVariants.{Normal as AtEnd, Ended, Stopped}
use Rattle.es_eval.specs.declared.outcomes.StopCause.{StopCause}
use Rattle.es_eval.specs.declared.outcomes.StopCause.TheVariants.{Budget, Depth, NotCallable, NotObject, Unresolved}
use Rattle.es_eval.specs.Actions.{Action, Next, and_then, as_number, as_text, behind, by_row, by_row_in, charged, gives, step, stops, takes}
use Rattle.es_eval.specs.Worlds.{World, Run, with_more}
use Rattle.es_eval.specs.Worlds.Run.{Over, Reads, Writes, Calls}

-- ---- runs

-- each end has at most so many steps left
abbrev pub EndsWithin : ℕ → Run → Type 0
EndsWithin left (Over outcome w) = w.left ≤ left
EndsWithin left (Reads base name go) = (value : Value) → EndsWithin left (go value)
EndsWithin left (Writes base name value heap go) = EndsWithin left go
EndsWithin left (Calls base name arguments heap go) =
    (answer : HostAnswer) (after : List ObjectState) → EndsWithin left (go answer after)

ends-more : {less left : ℕ} (run : Run) → less ≤ left → EndsWithin less run → EndsWithin left run
ends-more (Over outcome w) h ends = let l : w.left ≤ _ = ends in omega arith
ends-more (Reads base name go) h ends = λ value. ends-more (go value) h (ends value)
ends-more (Writes base name value heap go) h ends = ends-more go h ends
ends-more (Calls base name arguments heap go) h ends =
    λ answer after. ends-more (go answer after) h (ends answer after)

-- they are one, and its ends are within these steps where that is asked
pub record Same (counted : Bool) (left : ℕ) (first second : Run) : Type 0 where
  pub run : first ≡ second
  pub ends : counted ≡ true → EndsWithin left first

pub same_more : {counted : Bool} {less left : ℕ} {first second : Run} → less ≤ left
    → Same counted less first second → Same counted left first second
same_more {first = first} h same =
    record { run = same.run; ends = λ asked. ends-more first h (same.ends asked) }

pub over-same : {counted : Bool} {left : ℕ} (outcome : Outcome) (w : World) → w.left ≤ left
    → Same counted left (Over outcome w) (Over outcome w)
over-same outcome w h = record { run = refl; ends = λ asked. h }

-- ---- runs with more steps

abbrev pub EndsFurther : ℕ → Outcome → World → Run → Type 0
EndsFurther more (Stopped Budget) w run = Unit {0}
EndsFurther more outcome w run = run ≡ Over outcome (with_more more w)

-- The second run asks what the first one asks and ends as that does, with so many steps more left, unless that
-- is stopped for want of steps.
abbrev pub GoesFurther : ℕ → Run → Run → Type 0
GoesFurther more (Over outcome w) run = EndsFurther more outcome w run
GoesFurther more (Reads base name go) run =
    (on : Value → Run) × (run ≡ Reads base name on)
    × ((value : Value) → GoesFurther more (go value) (on value))
GoesFurther more (Writes base name value heap go) run =
    (on : Run) × (run ≡ Writes base name value heap on) × GoesFurther more go on
GoesFurther more (Calls base name arguments heap go) run =
    (on : HostAnswer → List ObjectState → Run) × (run ≡ Calls base name arguments heap on)
    × ((answer : HostAnswer) (after : List ObjectState)
    → GoesFurther more (go answer after) (on answer after))

pub over-further : (more : ℕ) (outcome : Outcome) (w : World)
    → GoesFurther more (Over outcome w) (Over outcome (with_more more w))
over-further more AtEnd w = refl
over-further more Ended w = refl
over-further more (Stopped Budget) w = tt
over-further more (Stopped Depth) w = refl
over-further more (Stopped NotCallable) w = refl
over-further more (Stopped NotObject) w = refl
over-further more (Stopped Unresolved) w = refl

-- ---- what goes on, and actions

pub record Onward {A : Type 0} (counted : Bool) (left : ℕ) (next other : Next A) : Type 0 where
  pub on : (x : A) (w : World) → w.left ≤ left → Same counted w.left (next x w) (other x w)

pub record Further {A : Type 0} (more left : ℕ) (next other : Next A) : Type 0 where
  pub on : (x : A) (w : World) → w.left + more ≤ left
      → GoesFurther more (next x w) (other x (with_more more w))

pub record Alike {A : Type 0} (left : ℕ) (first second : Action A) : Type 0 where
  pub same : (counted : Bool) (w : World) → w.left ≤ left → (next other : Next A)
      → Onward counted w.left next other → Same counted w.left (first w next) (second w other)
  pub further : (more : ℕ) (w : World) → w.left + more ≤ left → (next other : Next A)
      → Further more (w.left + more) next other
      → GoesFurther more (first w next) (second (with_more more w) other)

-- what goes on behind them has fewer steps left
pub record Sooner {A : Type 0} (left : ℕ) (first second : Action A) : Type 0 where
  pub same : (counted : Bool) (w : World) → w.left ≤ left → (next other : Next A)
      → ((x : A) (v : World) → v.left < w.left → Same counted v.left (next x v) (other x v))
      → Same counted w.left (first w next) (second w other)
  pub further : (more : ℕ) (w : World) → w.left + more ≤ left → (next other : Next A)
      → ((x : A) (v : World) → v.left < w.left
      → GoesFurther more (next x v) (other x (with_more more v)))
      → GoesFurther more (first w next) (second (with_more more w) other)

pub onward_less : {A : Type 0} {counted : Bool} {left less : ℕ} {next other : Next A} → less ≤ left
    → Onward counted left next other → Onward counted less next other
onward_less h onward = record { on = λ x w l. onward.on x w (omega arith) }

pub further_less : {A : Type 0} {more left less : ℕ} {next other : Next A} → less ≤ left
    → Further more left next other → Further more less next other
further_less h further = record { on = λ x w l. further.on x w (omega arith) }

pub alike_less : {A : Type 0} {left less : ℕ} {first second : Action A} → less ≤ left
    → Alike left first second → Alike less first second
alike_less h alike = record {
  same = λ counted w l next other onward. alike.same counted w (omega arith) next other onward;
  further = λ more w l next other on. alike.further more w (omega arith) next other on;
}

pub sooner-alike : {A : Type 0} {left : ℕ} {first second : Action A} → Sooner left first second
    → Alike left first second
sooner-alike sooner = record {
  same = λ counted w l next other onward.
      sooner.same counted w l next other (λ x v less. onward.on x v (omega arith));
  further = λ more w l next other on.
      sooner.further more w l next other (λ x v less. on.on x v (omega arith));
}

-- ---- choices

pub if-same : {counted : Bool} {left : ℕ} (test : Bool) {a b c d : Run} → Same counted left a c
    → Same counted left b d
    → Same counted left (if test then a else b) (if test then c else d)
if-same true p q = p
if-same false p q = q

pub if-further : (more : ℕ) (test : Bool) (a b c d : Run) → GoesFurther more a c
    → GoesFurther more b d → GoesFurther more (if test then a else b) (if test then c else d)
if-further more true a b c d p q = p
if-further more false a b c d p q = q

pub if-alike : {A : Type 0} {left : ℕ} (test : Bool) {a b c d : Action A} → Alike left a c
    → Alike left b d → Alike left (if test then a else b) (if test then c else d)
if-alike true p q = p
if-alike false p q = q

pub option-alike : {A B : Type 0} {left : ℕ} (option : Option B) {f g : B → Action A}
    {a b : Action A} → ((x : B) → Alike left (f x) (g x)) → Alike left a b
    → Alike left (option_map_or f option a) (option_map_or g option b)
option-alike None p q = q
option-alike (Some x) p q = p x

-- ---- actions one behind the other

pub gives-alike : {A : Type 0} {left : ℕ} (x : A) → Alike left (gives x) (gives x)
gives-alike x = record {
  same = λ counted w l next other onward. onward.on x w (omega arith);
  further = λ more w l next other on. on.on x w (omega arith);
}

pub stops-alike : {A : Type 0} {left : ℕ} (cause : StopCause)
    → Alike {A = A} left (stops cause) (stops cause)
stops-alike cause = record {
  same = λ counted w l next other onward. over-same (Stopped cause) w (omega arith);
  further = λ more w l next other on. over-further more (Stopped cause) w;
}

pub behind-alike : {A B : Type 0} {left : ℕ} {a b : Action A} {f g : A → Action B}
    → Alike left a b → ((x : A) → Alike left (f x) (g x)) → Alike left (behind a f) (behind b g)
behind-alike first second = record {
  same = λ counted w l next other onward. first.same counted w l _ _ (record {
    on = λ x v less. (second x).same counted v (omega arith) next other (onward_less less onward);
  });
  further = λ more w l next other on. first.further more w l _ _ (record {
    on = λ x v less. (second x).further more v (omega arith) next other (further_less less on);
  });
}

pub and_then-alike : {A B : Type 0} {left : ℕ} {a b : Action A} {c d : Action B}
    → Alike left a b → Alike left c d → Alike left (and_then a c) (and_then b d)
and_then-alike first second = behind-alike first (λ x. second)

pub sooner-behind : {A B : Type 0} {left : ℕ} {a b : Action A} {f g : A → Action B}
    → Sooner left a b → ((less : ℕ) → less < left → (x : A) → Alike less (f x) (g x))
    → Alike left (behind a f) (behind b g)
sooner-behind first second = record {
  same = λ counted w l next other onward. first.same counted w l _ _ (λ x v less.
      (second v.left (omega arith) x).same counted v (omega arith) next other
      (onward_less (omega arith) onward));
  further = λ more w l next other on. first.further more w l _ _ (λ x v less.
      (second (v.left + more) (omega arith) x).further more v (omega arith) next other
      (further_less (omega arith) on));
}

-- ---- steps

taken : {A : Type 0} (counted : Bool) (steps : ℕ) (w : World) (a b : Action A) (next other : Next A)
    → (steps ≤ w.left → Same counted (w.left - steps) (a (record w { left = w.left - steps }) next)
    (b (record w { left = w.left - steps }) other))
    → Same counted w.left (takes steps a w next) (takes steps b w other)
taken counted steps w a b next other same = go (nat_le steps w.left) refl
  where
    go : (test : Bool) → nat_le steps w.left ≡ test → Same counted w.left
        (if test then a (record w { left = w.left - steps }) next else Over (Stopped Budget) w)
        (if test then b (record w { left = w.left - steps }) other else Over (Stopped Budget) w)
    go true p = same_more (omega arith) (same (leb-true steps w.left p))
    go false p = over-same (Stopped Budget) w (omega arith)

taken-further : {A : Type 0} (more steps : ℕ) (w : World) (a b : Action A) (next other : Next A)
    → (steps ≤ w.left → GoesFurther more (a (record w { left = w.left - steps }) next)
    (b (with_more more (record w { left = w.left - steps })) other))
    → GoesFurther more (takes steps a w next) (takes steps b (with_more more w) other)
taken-further more steps w a b next other goes = go (nat_le steps w.left) refl
  where
    go : (test : Bool) → nat_le steps w.left ≡ test → GoesFurther more
        (if test then a (record w { left = w.left - steps }) next else Over (Stopped Budget) w)
        (if nat_le steps (w.left + more)
        then b (record w { left = (w.left + more) - steps }) other
        else Over (Stopped Budget) (with_more more w))
    go true p =
        let h = leb-true steps w.left p in
        let e : (w.left + more) - steps ≡ (w.left - steps) + more = omega arith in
        rw (le-leb steps (w.left + more) (omega arith), e) (goes h)
    go false p = tt

pub takes-alike : {A : Type 0} {left : ℕ} (steps : ℕ) {a b : Action A} → Alike left a b
    → Alike left (takes steps a) (takes steps b)
takes-alike steps {a} {b} alike = record {
  same = λ counted w l next other onward. taken counted steps w a b next other (λ h.
      alike.same counted (record w { left = w.left - steps }) (omega arith) next other
      (onward_less (omega arith) onward));
  further = λ more w l next other on. taken-further more steps w a b next other (λ h.
      alike.further more (record w { left = w.left - steps }) (omega arith) next other
      (further_less (omega arith) on));
}

pub step-sooner : {A : Type 0} {left : ℕ} {a b : Action A}
    → ((less : ℕ) → less < left → Alike less a b) → Sooner left (step a) (step b)
step-sooner {a = a} {b = b} alike = record {
  same = λ counted w l next other onward. taken counted 1 w a b next other (λ h.
      (alike (w.left - 1) (omega arith)).same counted (record w { left = w.left - 1 }) (omega arith)
      next other (record { on = λ x v less. onward x v (omega arith) }));
  further = λ more w l next other on. taken-further more 1 w a b next other (λ h.
      (alike ((w.left - 1) + more) (omega arith)).further more (record w { left = w.left - 1 })
      (omega arith) next other (record { on = λ x v less. on x v (omega arith) }));
}

pub step-alike : {A : Type 0} {left : ℕ} {a b : Action A} → Alike left a b
    → Alike left (step a) (step b)
step-alike alike = takes-alike 1 alike

pub charged-alike : {A : Type 0} {left : ℕ} (charge : List ObjectState → ℕ) {a b : Action A}
    → Alike left a b → Alike left (charged charge a) (charged charge b)
charged-alike charge alike = record {
  same = λ counted w l next other onward.
      (takes-alike (charge w.heap) alike).same counted w l next other onward;
  further = λ more w l next other on.
      (takes-alike (charge w.heap) alike).further more w l next other on;
}

-- ---- what changes a world and gives a value, and takes no step

pub gives-in-alike : {A : Type 0} {left : ℕ} (value : World → A) (after : World → World)
    → ((w : World) → (after w).left ≡ w.left)
    → ((more : ℕ) (w : World) → value (with_more more w) ≡ value w)
    → ((more : ℕ) (w : World) → after (with_more more w) ≡ with_more more (after w))
    → Alike left (λ w next. next (value w) (after w)) (λ w next. next (value w) (after w))
gives-in-alike value after kept same moved = record {
  same = λ counted w l next other onward.
      let equal : (after w).left ≡ w.left = kept w in
      same_more (omega arith) (onward.on (value w) (after w) (omega arith));
  further = λ more w l next other on.
      let equal : (after w).left ≡ w.left = kept w in
      rw (same more w, moved more w) (on.on (value w) (after w) (omega arith));
}

pub as_text-alike : {left : ℕ} (value : Value) → Alike left (as_text value) (as_text value)
as_text-alike value =
    charged-alike _ (gives-in-alike (λ w. text_of w.heap value) (λ w. w) (λ w. refl)
    (λ more w. refl) (λ more w. refl))

pub as_number-alike : {left : ℕ} (value : Value) → Alike left (as_number value) (as_number value)
as_number-alike value =
    charged-alike _ (gives-in-alike (λ w. number_of w.heap value) (λ w. w) (λ w. refl)
    (λ more w. refl) (λ more w. refl))

-- ---- rows of built-in functions and methods

by_row_in-alike : {left : ℕ} (row : Row)
    → Alike left (λ w next. by_row_in w next row) (λ w next. by_row_in w next row)
by_row_in-alike NoRow = stops-alike NotCallable
by_row_in-alike (Gives charge value heap) =
    takes-alike charge (gives-in-alike (λ v. value) (λ v. record v { heap = heap }) (λ v. refl)
    (λ more w. refl) (λ more w. refl))

pub by_row-alike : {left : ℕ} (row : List ObjectState → Row) → Alike left (by_row row) (by_row row)
by_row-alike row = record {
  same = λ counted w l next other onward.
      (by_row_in-alike (row w.heap)).same counted w l next other onward;
  further = λ more w l next other on.
      (by_row_in-alike (row w.heap)).further more w l next other on;
}
