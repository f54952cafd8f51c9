-- Hosts that keep to a test. (This project's own.)
use Rattle.std.specs.Prelude.{◌≡◌, ℕ, Bool, true, List}
use Rattle.es_values.specs.declared.hosts.HostAnswer.{HostAnswer}
use Rattle.es_values.specs.declared.values.HostRef.{HostRef}
use Rattle.es_values.specs.declared.values.Value.{Value}
use Rattle.es_values.specs.declared.values.Value.TheVariants.{Host}
use Rattle.es_values.specs.Heaps.{IsLive, IsSound}
use Rattle.es_values.specs.Hosts.{IsAnswer, KeepsHeap}
use Rattle.es_values.specs.Objects.{ObjectState}
use Rattle.es_values.specs.Values.{is_plain}
use Rattle.script_laws.specs.Passing.{HeapPasses}
use Rattle.script_laws.specs.Staying.{AnswerPasses, AreHanded, IsFit}

-- Where what is handed to a host passes, what it answers does. Only states of the host that are fine
-- need be so, and from a fine one it comes to fine ones.
pub record KeepsTest {H : Type 0} (good : Value → Bool) (is_fine : H → Bool)
    (reads : H → HostRef → List ℕ → Value → H → Type 0)
    (writes : H → HostRef → List ℕ → Value → List ObjectState → H → Type 0)
    (calls : H → HostRef → List ℕ → List Value → List ObjectState → HostAnswer → H
    → List ObjectState → Type 0) : Type 0 where
  pub read : (h : H) (base : HostRef) (name : List ℕ) (value : Value) (next : H)
      → is_fine h ≡ true → good (Host base) ≡ true → is_plain value ≡ true
      → reads h base name value next → (good value ≡ true) × (is_fine next ≡ true)
  pub written : (h : H) (base : HostRef) (name : List ℕ) (value : Value)
      (heap : List ObjectState) (next : H) → is_fine h ≡ true → good (Host base) ≡ true
      → good value ≡ true → IsLive heap value → IsFit good heap
      → writes h base name value heap next → is_fine next ≡ true
  pub called : (h : H) (base : HostRef) (name : List ℕ) (arguments : List Value)
      (heap : List ObjectState) (answer : HostAnswer) (next : H) (after : List ObjectState)
      → is_fine h ≡ true → good (Host base) ≡ true → AreHanded good arguments heap
      → IsAnswer after answer → KeepsHeap heap arguments after → IsSound after
      → calls h base name arguments heap answer next after
      → AnswerPasses good answer × HeapPasses good after × (is_fine next ≡ true)
