-- What a host's answers make of the ends of a run: behind an answer, each end of the run that is
-- left is one of the run that asked.
use Rattle.std.proofs.Common.{◌≡◌, ◌<◌, ◌≤◌, ℕ, Global, List, [], ◌∷◌, Vec, length, refl, subst, sym, true, arith}
use Rattle.std.proofs.lemmas.Bool.{false≢true}
use Rattle.std.proofs.lemmas.List.Elements.{All-cons, All-head, All-nil}
use Rattle.es_reader.specs.Programs.{ToldProgram}
use Rattle.es_values.specs.declared.hosts.HostAnswer.{HostAnswer}
use Rattle.es_values.specs.declared.hosts.HostAnswer.TheVariants as host
use Rattle.es_values.specs.declared.values.HostRef.{HostRef}
use Rattle.es_values.specs.declared.values.Value.{Value}
use Rattle.es_values.specs.declared.values.Value.TheVariants.{Undefined, Null, Bool as Boolean, Number, Str, Object, Function, Host}
use Rattle.es_values.specs.Heaps.{IsLive, IsSound}
use Rattle.es_values.specs.Hosts.{IsAnswer, KeepsHeap}
use Rattle.es_values.specs.Objects.{ObjectState}
use Rattle.es_values.specs.Values.{is_plain}
use Rattle.es_eval.specs.declared.outcomes.Outcome.{Outcome}
use Rattle.es_eval.specs.declared.works.Given.TheVariants as given
use Rattle.es_eval.specs.declared.works.Now.{Now}
use Rattle.es_eval.specs.declared.works.Now.TheVariants as now
use Rattle.es_eval.specs.Actions.{answered}
use Rattle.es_eval.specs.Endings.{MayEnd}
use Rattle.es_eval.specs.devices.Leading.{LeadsTo}
use Rattle.es_eval.specs.devices.Machines.{AreLive, IsMachine, MachineState, burden, next_behind, rest, run_from, values_of_next, weight, weight_of_next, world_of}
use Rattle.es_eval.specs.Worlds.{Run, World}
use Rattle.es_eval.proofs.MachineLemmas.{frames-stay, named-stays}

pub leads-same : {H : Type 0} (reads : H → HostRef → List ℕ → Value → H → Type 0)
    (writes : H → HostRef → List ℕ → Value → List ObjectState → H → Type 0)
    (calls : H → HostRef → List ℕ → List Value → List ObjectState → HostAnswer → H
    → List ObjectState → Type 0) (run told : Run) (h : H) → run ≡ told
    → LeadsTo reads writes calls run h told h
leads-same reads writes calls run told h same = record {
  ends = λ outcome w after. subst (λ (r : Run). MayEnd reads writes calls r h outcome w after) same;
}

pub leads-in : {H : Type 0} (reads : H → HostRef → List ℕ → Value → H → Type 0)
    (writes : H → HostRef → List ℕ → Value → List ObjectState → H → Type 0)
    (calls : H → HostRef → List ℕ → List Value → List ObjectState → HostAnswer → H
    → List ObjectState → Type 0) (new old : List ToldProgram) (m : MachineState) (next : Now)
    (h : H) (first : Run) (start : H) → new ≡ old
    → LeadsTo reads writes calls (run_from old m next) h first start
    → LeadsTo reads writes calls (run_from new m next) h first start
leads-in reads writes calls new old m next h first start same leads =
    subst (λ (p : List ToldProgram). LeadsTo reads writes calls (run_from p m next) h first start)
    (sym same) leads

pub leads-behind : {H : Type 0} (reads : H → HostRef → List ℕ → Value → H → Type 0)
    (writes : H → HostRef → List ℕ → Value → List ObjectState → H → Type 0)
    (calls : H → HostRef → List ℕ → List Value → List ObjectState → HostAnswer → H
    → List ObjectState → Type 0) (run mid first : Run) (h then start : H)
    → LeadsTo reads writes calls run h mid then → LeadsTo reads writes calls mid then first start
    → LeadsTo reads writes calls run h first start
leads-behind reads writes calls run mid first h then start one other = record {
  ends = λ outcome w after ended. other.ends outcome w after (one.ends outcome w after ended);
}

module _ {H : Type 0} (reads : H → HostRef → List ℕ → Value → H → Type 0)
    (writes : H → HostRef → List ℕ → Value → List ObjectState → H → Type 0)
    (calls : H → HostRef → List ℕ → List Value → List ObjectState → HostAnswer → H
    → List ObjectState → Type 0) (programs : List ToldProgram) (m : MachineState) (asked : Now)
    (first : Run) (h start : H)
    (leads : LeadsTo reads writes calls (run_from programs m asked) h first start) where
  leads-from : (told : Now) → asked ≡ told
      → LeadsTo reads writes calls (run_from programs m told) h first start
  leads-from told is =
      subst (λ (x : Now). LeadsTo reads writes calls (run_from programs m x) h first start) is leads

  -- the script is over
  pub leads-over : (outcome : Outcome) → asked ≡ now.Over outcome
      → MayEnd reads writes calls first start outcome (world_of programs m) h
  unfolding MayEnd
  leads-over outcome is =
      (leads-from (now.Over outcome) is).ends outcome (world_of programs m) h (refl, refl, refl)

  -- a member was read
  pub leads-read : (base : HostRef) (name : List ℕ) (value : Value) (next : Now) (then : H)
      → asked ≡ now.Reads base name → reads h base name value then → is_plain value ≡ true
      → next ≡ now.Gives (given.Value value)
      → LeadsTo reads writes calls (run_from programs m next) then first start
  unfolding MayEnd
  leads-read base name value next then is read plain given_is =
      let from = leads-from (now.Reads base name) is in
      let to : LeadsTo reads writes calls
      (run_from programs m (now.Gives (given.Value value))) then first start = record {
        ends = λ outcome w after ended. from.ends outcome w after (value, then, read, plain, ended);
      } in
      subst (λ (x : Now). LeadsTo reads writes calls (run_from programs m x) then first start)
      (sym given_is) to

  -- a member was given a value
  pub leads-write : (base : HostRef) (name : List ℕ) (value : Value) (next : Now) (then : H)
      → asked ≡ now.Writes base name value → writes h base name value m.heap then
      → next ≡ now.Gives (given.Value value)
      → LeadsTo reads writes calls (run_from programs m next) then first start
  unfolding MayEnd
  leads-write base name value next then is written given_is =
      let from = leads-from (now.Writes base name value) is in
      let to : LeadsTo reads writes calls
      (run_from programs m (now.Gives (given.Value value))) then first start = record {
        ends = λ outcome w after ended. from.ends outcome w after (then, written, ended);
      } in
      subst (λ (x : Now). LeadsTo reads writes calls (run_from programs m x) then first start)
      (sym given_is) to

  behind-answer : (answer : HostAnswer) (heap : List ObjectState) (then : H) (outcome : Outcome)
      (w : World) (after : H)
      → MayEnd reads writes calls (run_from programs (record m { heap = heap }) (next_behind answer))
      then outcome w after
      → MayEnd reads writes calls (answered (world_of programs m)
      (λ value later. rest programs m.frames (given.Value value) later) answer heap)
      then outcome w after
  behind-answer (host.Value value) heap then outcome w after ended = ended
  behind-answer host.Ended heap then outcome w after ended = ended
  behind-answer host.NotCallable heap then outcome w after ended = ended

  -- a member was called
  pub leads-call : (base : HostRef) (name : List ℕ) (args : Vec Value Global) (answer : HostAnswer)
      (heap : List ObjectState) (next : Now) (then : H)
      → asked ≡ now.Calls base name args → calls h base name args.items m.heap answer then heap
      → IsAnswer heap answer → KeepsHeap m.heap args.items heap → IsSound heap
      → next ≡ next_behind answer
      → LeadsTo reads writes calls (run_from programs (record m { heap = heap }) next) then first
      start
  unfolding MayEnd
  leads-call base name args answer heap next then is called is_answer keeps sound behind_is =
      let from = leads-from (now.Calls base name args) is in
      let to : LeadsTo reads writes calls
      (run_from programs (record m { heap = heap }) (next_behind answer)) then first start = record {
        ends = λ outcome w after ended. from.ends outcome w after (
          answer,
          then,
          heap,
          called,
          is_answer,
          keeps,
          sound,
          behind-answer answer heap then outcome w after ended,
        );
      } in
      subst (λ (x : Now). LeadsTo reads writes calls (run_from programs (record m { heap = heap }) x)
      then first start) (sym behind_is) to

-- ---- what is live behind an answer

pub live-plain : (heap : List ObjectState) (value : Value) → is_plain value ≡ true
    → IsLive heap value
live-plain heap Undefined plain = tt
live-plain heap Null plain = tt
live-plain heap (Boolean truth) plain = tt
live-plain heap (Number number) plain = tt
live-plain heap (Str text) plain = tt
live-plain heap (Object object) plain = absurd (false≢true plain)
live-plain heap (Function number) plain = tt
live-plain heap (Host reference) plain = tt

pub live-given : (heap : List ObjectState) (value : Value) (next : Now)
    → next ≡ now.Gives (given.Value value) → IsLive heap value → AreLive heap (values_of_next next)
live-given heap value next is live =
    subst (λ (x : Now). AreLive heap (values_of_next x)) (sym is)
    (All-cons (IsLive heap) value [] live (All-nil (IsLive heap)))

pub live-written : (heap : List ObjectState) (asked next : Now) (base : HostRef)
    (name : List ℕ) (value : Value) → asked ≡ now.Writes base name value
    → next ≡ now.Gives (given.Value value) → AreLive heap (values_of_next asked)
    → AreLive heap (values_of_next next)
live-written heap asked next base name value was is live =
    let written : AreLive heap (value ∷ []) =
    subst (λ (x : Now). AreLive heap (values_of_next x)) was live in
    live-given heap value next is (All-head (IsLive heap) value [] written)

live-answer : (heap : List ObjectState) (answer : HostAnswer) → IsAnswer heap answer
    → AreLive heap (values_of_next (next_behind answer))
live-answer heap (host.Value value) live =
    All-cons (IsLive heap) value [] live.1 (All-nil (IsLive heap))
live-answer heap host.Ended live = All-nil (IsLive heap)
live-answer heap host.NotCallable live = All-nil (IsLive heap)

pub live-behind : (heap : List ObjectState) (answer : HostAnswer) (next : Now)
    → next ≡ next_behind answer → IsAnswer heap answer → AreLive heap (values_of_next next)
live-behind heap answer next is live =
    subst (λ (x : Now). AreLive heap (values_of_next x)) (sym is) (live-answer heap answer live)

-- ---- a call that was answered leaves less to do

light-answer : (answer : HostAnswer) → weight_of_next (next_behind answer) ≤ 11
light-answer (host.Value value) = omega arith
light-answer host.Ended = omega arith
light-answer host.NotCallable = omega arith

pub less-behind : (old m : MachineState) (heap : List ObjectState) (base : HostRef)
    (name : List ℕ) (args : Vec Value Global) (answer : HostAnswer) (asked next : Now) → m ≡ old
    → asked ≡ now.Calls base name args → next ≡ next_behind answer
    → weight (record m { heap = heap }) next < weight old asked
unfolding burden
less-behind old m heap base name args answer asked next same was is =
    let light = light-answer answer in
    rw (was, is, ← same) (omega arith)

-- ---- the heap that a call leaves

pub machine-with-heap : (m : MachineState) (heap : List ObjectState) → IsMachine m
    → length m.heap ≤ length heap → IsMachine (record m { heap = heap })
machine-with-heap m heap kept longer = record {
  globals = named-stays m.heap heap m.globals longer kept.globals;
  frames = frames-stay m.heap heap m.frames longer kept.frames;
  some = kept.some;
  depth = kept.depth;
  steps = kept.steps;
}
