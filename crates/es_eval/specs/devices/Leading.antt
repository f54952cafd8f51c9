-- A device of the proofs: what an answer of a host, or a move of the evaluator, leaves of a run.
use Rattle.std.specs.Prelude.{ℕ, List}
use Rattle.es_values.specs.declared.hosts.HostAnswer.{HostAnswer}
use Rattle.es_values.specs.declared.values.HostRef.{HostRef}
use Rattle.es_values.specs.declared.values.Value.{Value}
use Rattle.es_values.specs.Objects.{ObjectState}
use Rattle.es_eval.specs.declared.outcomes.Outcome.{Outcome}
use Rattle.es_eval.specs.Endings.{MayEnd}
use Rattle.es_eval.specs.Worlds.{Run, World}

-- each end of the one run, with its host in this state, is one of the other, with its host in that
-- state
pub record LeadsTo {H : Type 0} (reads : H → HostRef → List ℕ → Value → H → Type 0)
    (writes : H → HostRef → List ℕ → Value → List ObjectState → H → Type 0)
    (calls : H → HostRef → List ℕ → List Value → List ObjectState → HostAnswer → H
    → List ObjectState → Type 0)
    (run : Run) (h : H) (first : Run) (start : H) : Type 0 where
  pub ends : (outcome : Outcome) (w : World) (after : H)
      → MayEnd reads writes calls run h outcome w after
      → MayEnd reads writes calls first start outcome w after
