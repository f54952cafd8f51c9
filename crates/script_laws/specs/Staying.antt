-- What a run hands to its host, and what it leaves. (This project's own.)
use Rattle.std.specs.Prelude.{◌≡◌, ℕ, ◌≤◌, Bool, true, List, length, All}
use Rattle.es_values.specs.declared.hosts.HostAnswer.{HostAnswer}
use Rattle.es_values.specs.declared.hosts.HostAnswer.TheVariants.{Value as Answered, Ended, NotCallable}
use Rattle.es_values.specs.declared.values.Value.{Value}
use Rattle.es_values.specs.declared.values.Value.TheVariants.{Host}
use Rattle.es_values.specs.Heaps.{IsLive, IsSound}
use Rattle.es_values.specs.Hosts.{IsAnswer, KeepsHeap}
use Rattle.es_values.specs.Objects.{ObjectState}
use Rattle.es_values.specs.Values.{is_plain}
use Rattle.es_eval.specs.Worlds.{Run}
use Rattle.es_eval.specs.Worlds.Run.{Over, Reads, Writes, Calls}
use Rattle.script_laws.specs.Passing.{AllPass, HeapPasses}

-- each value of the globals passes
abbrev pub GlobalsPass : (Value → Bool) → List (List ℕ × Value) → Type 0
GlobalsPass good globals = All (λ global. good global.1 ≡ true) globals

-- the value of an answer does, if it has one
abbrev pub AnswerPasses : (Value → Bool) → HostAnswer → Type 0
AnswerPasses good (Answered value) = good value ≡ true
AnswerPasses good Ended = Unit {0}
AnswerPasses good NotCallable = Unit {0}

-- the values of a heap pass, and each object that it names is in it
pub record IsFit (good : Value → Bool) (heap : List ObjectState) : Type 0 where
  pub passes : HeapPasses good heap
  pub sound : IsSound heap

-- so it is, and so are the globals, and the heap has at least so many objects
pub record AreFit (good : Value → Bool) (least : ℕ) (globals : List (List ℕ × Value))
    (heap : List ObjectState) : Type 0 where
  pub pass : GlobalsPass good globals
  pub live : All (λ global. IsLive heap global.1) globals
  pub fit : IsFit good heap
  pub objects : least ≤ length heap

-- values that are handed over with a heap pass, and each object among them is in it
pub record AreHanded (good : Value → Bool) (values : List Value)
    (heap : List ObjectState) : Type 0 where
  pub pass : AllPass good values
  pub live : All (IsLive heap) values
  pub fit : IsFit good heap

-- What the run hands over passes, and so does what it leaves at each of its ends, whatever a host
-- answers that passes and is what it may be; and at the end there are at least so many objects.
abbrev pub StaysWithin : (Value → Bool) → ℕ → Run → Type 0
StaysWithin good least (Over outcome w) = AreFit good least w.globals w.heap
StaysWithin good least (Reads base name go) =
    (good (Host base) ≡ true)
    × ((value : Value) → is_plain value ≡ true → good value ≡ true
    → StaysWithin good least (go value))
StaysWithin good least (Writes base name value heap go) =
    (good (Host base) ≡ true) × (good value ≡ true) × IsLive heap value × IsFit good heap
    × StaysWithin good least go
StaysWithin good least (Calls base name arguments heap go) =
    (good (Host base) ≡ true) × AreHanded good arguments heap
    × ((answer : HostAnswer) (after : List ObjectState) → IsAnswer after answer
    → KeepsHeap heap arguments after → AnswerPasses good answer → IsFit good after
    → StaysWithin good least (go answer after))
