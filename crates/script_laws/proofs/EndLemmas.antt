-- What a run leaves passes with every host that keeps to the test; and that functions have numbers
-- below the limit is a test to which each host keeps.
use Rattle.std.proofs.Common.{◌≡◌, ℕ, ◌<◌, Bool, true, false, List, [], ◌∷◌, length, refl, ap, subst, arith, ◌⊎◌, inl, inr}
use Rattle.std.proofs.lemmas.Bool.{eqb-true, ltb-true}
use Rattle.std.proofs.lemmas.Bool.Decides.{nat_tests}
use Rattle.std.proofs.lemmas.List.Elements.{All-cons, All-head, All-nil, All-tail}
use Rattle.std.specs.Prelude.{All, ◌||◌, ◌==◌, nat_lt}
use Rattle.std.specs.List.{list_any}
use Rattle.es_values.specs.declared.hosts.HostAnswer.{HostAnswer}
use Rattle.es_values.specs.declared.hosts.HostAnswer.TheVariants as answer
use Rattle.es_values.specs.declared.values.HostRef.{HostRef}
use Rattle.es_values.specs.declared.values.Value.{Value}
use Rattle.es_values.specs.declared.values.Value.TheVariants.{Undefined, Null, Bool as Boolean, Number, Str, Object, Function, Host}
use Rattle.es_values.specs.Heaps.{holds_function}
use Rattle.es_values.specs.Hosts.{IsAnswer, KeepsHeap, is_any_function}
use Rattle.es_values.specs.Objects.{ObjectState}
use Rattle.es_values.specs.Values.{is_function, is_plain}
use Rattle.es_eval.specs.declared.outcomes.Outcome.{Outcome}
use Rattle.es_eval.specs.Endings.{MayEnd}
use Rattle.es_eval.specs.Evaluation.{global_run, program_run}
use Rattle.script_laws.specs.Soundness.{AreSound, HasNumbers, StaySound, function_limit}
use Rattle.es_shapes.specs.Syntax.{Program}
use Rattle.es_eval.specs.Worlds.{World, Run}
use Rattle.es_eval.specs.Worlds.Run.{Over, Reads, Writes, Calls}
use Rattle.script_laws.specs.Keeping.{KeepsTest}
use Rattle.script_laws.specs.Passing.{AllPass, HeapPasses, ObjectPasses, PassesOwn}
use Rattle.script_laws.specs.Staying.{AnswerPasses, AreFit, StaysWithin}
use Rattle.script_laws.proofs.RunLemmas.{global-within, program-within}
use Rattle.script_laws.proofs.StateLemmas.{LiveLaws}

-- ---- with a host

module _ {H : Type 0} (reads : H → HostRef → List ℕ → Value → H → Type 0)
    (writes : H → HostRef → List ℕ → Value → List ObjectState → H → Type 0)
    (calls : H → HostRef → List ℕ → List Value → List ObjectState → HostAnswer → H
    → List ObjectState → Type 0) where
  pub ends-pass : (good : Value → Bool) (is_fine : H → Bool) (least : ℕ) (run : Run) (host : H)
      (outcome : Outcome) (w : World) (after : H) → KeepsTest good is_fine reads writes calls
      → is_fine host ≡ true → StaysWithin good least run
      → MayEnd reads writes calls run host outcome w after
      → AreFit good least w.globals w.heap × (is_fine after ≡ true)
  unfolding MayEnd
  ends-pass good is_fine least (Over said v) host outcome w after keeps fine within may = (
    subst (λ u. AreFit good least u.globals u.heap) may.1 within,
    subst (λ h. is_fine h ≡ true) may.2 fine,
  )
  ends-pass good is_fine least (Reads base name go) host outcome w after keeps fine within
      (value, next, read, plain, rest) =
      let passes = keeps.read host base name value next fine within.0 plain read in
      ends-pass good is_fine least (go value) next outcome w after keeps passes.1
      (within.1 value plain passes.0) rest
  ends-pass good is_fine least (Writes base name value heap go) host outcome w after keeps fine
      within (next, written, rest) =
      ends-pass good is_fine least go next outcome w after keeps
      (keeps.written host base name value heap next fine within.0 within.1 within.2 within.3
      written)
      within.4 rest
  ends-pass good is_fine least (Calls base name arguments heap go) host outcome w after keeps fine
      within (answer, next, heap_after, called, is, stays, sound, rest) =
      let passes = keeps.called host base name arguments heap answer next heap_after fine within.0
      within.1 is stays sound called in
      ends-pass good is_fine least (go answer heap_after) next outcome w after keeps passes.2
      (within.2 answer heap_after is stays passes.0
      (record { passes = passes.1; sound = sound })) rest

-- ---- functions below a limit

or-cases : (a b : Bool) → (a || b) ≡ true → (a ≡ true) ⊎ (b ≡ true)
or-cases true b h = inl refl
or-cases false b h = inr h

or-left : (a b : Bool) → a ≡ true → (a || b) ≡ true
or-left a b h = ap (λ t. t || b) h

or-right : (a b : Bool) → b ≡ true → (a || b) ≡ true
or-right true b h = refl
or-right false b h = h

-- every value but a function whose number isn't below the limit
abbrev is_below : ℕ → Value → Bool
is_below limit (Function number) = nat_lt number limit
is_below limit _ = true

module _ (limit : ℕ) where
  own-below : PassesOwn limit (is_below limit)
  own-below (Function number) h = h
  own-below Undefined h = refl
  own-below Null h = refl
  own-below (Boolean truth) h = refl
  own-below (Number number) h = refl
  own-below (Str text) h = refl
  own-below (Object object) h = refl
  own-below (Host reference) h = refl

  plain-below : (value : Value) → is_any_function value ≡ false → is_below limit value ≡ true
  plain-below (Function number) h = absurd (cc h)
  plain-below _ h = refl

  value-below : (value : Value) → ((number : ℕ) → is_function number value ≡ true → number < limit)
      → is_below limit value ≡ true
  value-below (Function number) named =
      let same : (number == number) ≡ true = grind (arith, nat_tests) in
      let less : number < limit = named number same in
      grind (arith, nat_tests)
  value-below _ named = refl

  number-below : (value : Value) → is_below limit value ≡ true → (number : ℕ)
      → is_function number value ≡ true → number < limit
  number-below (Function other) below number h =
      let same : number ≡ other = eqb-true number other h in
      let less : other < limit = ltb-true other limit below in
      omega arith
  number-below Undefined below number h = absurd (cc h)
  number-below Null below number h = absurd (cc h)
  number-below (Boolean truth) below number h = absurd (cc h)
  number-below (Number a) below number h = absurd (cc h)
  number-below (Str text) below number h = absurd (cc h)
  number-below (Object object) below number h = absurd (cc h)
  number-below (Host reference) below number h = absurd (cc h)

  -- of lists of things that have a test or hold a function
  module _ {X : Type 0} (test : ℕ → X → Bool) (P : X → Type 0) where
    each : ((x : X) → ((number : ℕ) → test number x ≡ true → number < limit) → P x)
        → (xs : List X) → ((number : ℕ) → list_any (test number) xs ≡ true → number < limit)
        → All P xs
    each one [] named = All-nil P
    each one (x ∷ xs) named =
        All-cons P x xs
        (one x (λ number h. named number (or-left (test number x) (list_any (test number) xs) h)))
        (each one xs (λ number h. named number
        (or-right (test number x) (list_any (test number) xs) h)))

    any : ((x : X) → P x → (number : ℕ) → test number x ≡ true → number < limit)
        → (xs : List X) → All P xs → (number : ℕ) → list_any (test number) xs ≡ true
        → number < limit
    any one [] all number h = absurd (cc h)
    any one (x ∷ xs) all number h =
        elim (or-cases (test number x) (list_any (test number) xs) h) [
          | inl first ↦ one x (All-head P x xs all) number first
          | inr later ↦ any one xs (All-tail P x xs all) number later
        ]

  abbrev Holding : ℕ → ObjectState → Bool
  Holding number object = list_any (λ property. is_function number property.1) object.properties

  heap-below : (heap : List ObjectState)
      → ((number : ℕ) → holds_function number heap ≡ true → number < limit)
      → HeapPasses (is_below limit) heap
  heap-below heap held =
      each Holding (ObjectPasses (is_below limit))
      (λ object. each (λ number property. is_function number property.1)
      (λ property. is_below limit property.1 ≡ true) (λ property. value-below property.1)
      object.properties) heap held

  held-below : (heap : List ObjectState) → HeapPasses (is_below limit) heap → (number : ℕ)
      → holds_function number heap ≡ true → number < limit
  held-below heap passes =
      any Holding (ObjectPasses (is_below limit))
      (λ object. any (λ number property. is_function number property.1)
      (λ property. is_below limit property.1 ≡ true) (λ property. number-below property.1)
      object.properties) heap passes

  pub fit-sound : (globals : List (List ℕ × Value)) (heap : List ObjectState)
      → AreSound limit globals heap → AreFit (is_below limit) (length heap) globals heap
  fit-sound globals heap sound = record {
    pass = each (λ number global. is_function number global.1)
        (λ global. is_below limit global.1 ≡ true) (λ global. value-below global.1) globals
        sound.named;
    live = sound.live;
    fit = record { passes = heap-below heap sound.held; sound = sound.sound };
    objects = omega arith;
  }

  pub stay-sound : (old : List ObjectState) (globals : List (List ℕ × Value))
      (heap : List ObjectState) → AreFit (is_below limit) (length old) globals heap
      → StaySound limit old globals heap
  stay-sound old globals heap fit = record {
    all = record {
      live = fit.live;
      sound = fit.fit.sound;
      named = any (λ number global. is_function number global.1)
          (λ global. is_below limit global.1 ≡ true) (λ global. number-below global.1) globals
          fit.pass;
      held = held-below heap fit.fit.passes;
    };
    objects = fit.objects;
  }

  pub plain_value-below : (value : Value) → is_plain value ≡ true → is_below limit value ≡ true
  plain_value-below (Function number) h = absurd (cc h)
  plain_value-below _ h = refl

  pub answer-below : (heap : List ObjectState) (answer : HostAnswer) → IsAnswer heap answer
      → AnswerPasses (is_below limit) answer
  answer-below heap (answer.Value value) is = plain-below value is.0
  answer-below heap answer.Ended is = tt
  answer-below heap answer.NotCallable is = tt

  pub kept-below : (heap : List ObjectState) (arguments : List Value) (after : List ObjectState)
      → HeapPasses (is_below limit) heap → AllPass (is_below limit) arguments
      → KeepsHeap heap arguments after → HeapPasses (is_below limit) after
  kept-below heap arguments after passes all keeps =
      heap-below after (λ number h.
      elim (or-cases (holds_function number heap) (list_any (is_function number) arguments)
      (keeps.functions number h)) [
        | inl held ↦ held-below heap passes number held
        | inr among ↦ any is_function (λ value. is_below limit value ≡ true) number-below arguments
            all number among
      ])

-- ---- with any host

module _ (laws : LiveLaws) {H : Type 0} (reads : H → HostRef → List ℕ → Value → H → Type 0)
    (writes : H → HostRef → List ℕ → Value → List ObjectState → H → Type 0)
    (calls : H → HostRef → List ℕ → List Value → List ObjectState → HostAnswer → H
    → List ObjectState → Type 0) where
  keeps-below : (limit : ℕ) → KeepsTest (is_below limit) (λ h. true) reads writes calls
  keeps-below limit = record {
    read = λ h base name value next fine passes plain read.
        (plain_value-below limit value plain, refl);
    written = λ h base name value heap next fine passes given live fit written. refl;
    called = λ h base name arguments heap answer next after fine passes handed is keeps sound did. (
      answer-below limit after answer is,
      kept-below limit heap arguments after handed.fit.passes handed.pass keeps,
      refl,
    );
  }

  sound-ends : (limit : ℕ) (old : List ObjectState) (run : Run) (host : H) (outcome : Outcome)
      (w : World) (after : H) → StaysWithin (is_below limit) (length old) run
      → MayEnd reads writes calls run host outcome w after → StaySound limit old w.globals w.heap
  sound-ends limit old run host outcome w after within may =
      stay-sound limit old w.globals w.heap
      (ends-pass reads writes calls (is_below limit) (λ h. true) (length old) run host outcome w
      after (keeps-below limit) refl within may).0

  pub program-sound : (programs before : List Program) (program : Program)
      (globals : List (List ℕ × Value)) (heap : List ObjectState) (budget : ℕ) (host : H)
      (outcome : Outcome) (w : World) (after : H) → HasNumbers programs before program
      → AreSound (function_limit programs) globals heap
      → MayEnd reads writes calls
      (program_run programs before program globals heap budget) host outcome w after
      → StaySound (function_limit programs) heap w.globals w.heap
  program-sound programs before program globals heap budget host outcome w after numbers sound may =
      let limit = function_limit programs in
      sound-ends limit heap (program_run programs before program globals heap budget) host outcome w
      after
      (program-within laws (is_below limit) (length heap) programs before program globals heap
      budget (own-below limit) numbers (fit-sound limit globals heap sound))
      may

  pub global-sound : (programs : List Program) (name : List ℕ) (globals : List (List ℕ × Value))
      (heap : List ObjectState) (budget : ℕ) (host : H) (outcome : Outcome) (w : World) (after : H)
      → AreSound (function_limit programs) globals heap
      → MayEnd reads writes calls (global_run programs name globals heap budget) host
      outcome w after → StaySound (function_limit programs) heap w.globals w.heap
  global-sound programs name globals heap budget host outcome w after sound may =
      let limit = function_limit programs in
      sound-ends limit heap (global_run programs name globals heap budget) host outcome w after
      (global-within laws (is_below limit) (length heap) programs name globals heap budget
      (own-below limit) (fit-sound limit globals heap sound))
      may
