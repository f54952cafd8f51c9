-- How a run may end with a host. (This project's own.)
use Rattle.std.specs.Prelude.{◌≡◌, ℕ, true, List}
use Rattle.es_values.specs.declared.hosts.HostAnswer.{HostAnswer}
use Rattle.es_values.specs.declared.values.HostRef.{HostRef}
use Rattle.es_values.specs.declared.values.Value.{Value}
use Rattle.es_values.specs.Heaps.{IsSound}
use Rattle.es_values.specs.Hosts.{IsAnswer, KeepsHeap}
use Rattle.es_values.specs.Objects.{ObjectState}
use Rattle.es_values.specs.Values.{is_plain}
use Rattle.es_eval.specs.declared.outcomes.Outcome.{Outcome}
use Rattle.es_eval.specs.declared.outcomes.Outcome.TheVariants.{Stopped}
use Rattle.es_eval.specs.declared.outcomes.StopCause.TheVariants.{Budget}
use Rattle.es_eval.specs.Worlds.{World, Run}
use Rattle.es_eval.specs.Worlds.Run.{Over, Reads, Writes, Calls}

-- With a host in this state the run may end so: with this outcome and world, and the host in that state.
-- At each question there is an answer, and a state that the host is in behind it, as its relations allow; the
-- heap that a call leaves is one, so that each object that it names is in it.
unfoldable pub MayEnd : {H : Type 0}
    → (H → HostRef → List ℕ → Value → H → Type 0)
    → (H → HostRef → List ℕ → Value → List ObjectState → H → Type 0)
    → (H → HostRef → List ℕ → List Value → List ObjectState → HostAnswer → H
    → List ObjectState → Type 0)
    → Run → H → Outcome → World → H → Type 0
MayEnd {H} reads writes calls (Over outcome w) h outcome_after w_after h_after =
    (outcome ≡ outcome_after) × (w ≡ w_after) × (h ≡ h_after)
MayEnd {H} reads writes calls (Reads base name go) h outcome_after w_after h_after =
    (value : Value) × (next : H) × reads h base name value next × (is_plain value ≡ true)
    × MayEnd reads writes calls (go value) next outcome_after w_after h_after
MayEnd {H} reads writes calls (Writes base name value heap go) h outcome_after w_after h_after =
    (next : H) × writes h base name value heap next
    × MayEnd reads writes calls go next outcome_after w_after h_after
MayEnd {H} reads writes calls (Calls base name arguments heap go) h outcome_after w_after h_after =
    (answer : HostAnswer) × (next : H) × (heap_after : List ObjectState)
    × calls h base name arguments heap answer next heap_after × IsAnswer heap_after answer
    × KeepsHeap heap arguments heap_after × IsSound heap_after
    × MayEnd reads writes calls (go answer heap_after) next outcome_after w_after h_after

-- The run may end so with what is left of a script: its globals and objects.
abbrev pub EndsWith : {H : Type 0}
    → (H → HostRef → List ℕ → Value → H → Type 0)
    → (H → HostRef → List ℕ → Value → List ObjectState → H → Type 0)
    → (H → HostRef → List ℕ → List Value → List ObjectState → HostAnswer → H
    → List ObjectState → Type 0)
    → Run → H → Outcome → List (List ℕ × Value) → List ObjectState → H → Type 0
EndsWith {H} reads writes calls run h outcome globals heap h_after =
    (w : World) × (w.globals ≡ globals) × (w.heap ≡ heap)
    × MayEnd reads writes calls run h outcome w h_after

-- The run may be stopped with this host for want of steps.
abbrev pub MayRunOut : {H : Type 0}
    → (H → HostRef → List ℕ → Value → H → Type 0)
    → (H → HostRef → List ℕ → Value → List ObjectState → H → Type 0)
    → (H → HostRef → List ℕ → List Value → List ObjectState → HostAnswer → H
    → List ObjectState → Type 0)
    → Run → H → Type 0
MayRunOut {H} reads writes calls run h =
    (w : World) × (h_after : H) × MayEnd reads writes calls run h (Stopped Budget) w h_after
