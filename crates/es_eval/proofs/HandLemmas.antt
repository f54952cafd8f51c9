-- What an item of an expression is handed and is no value goes on to the item below it.
use Rattle.std.proofs.Common.{◌≡◌, ◌∙◌, ◌≤◌, List, ap, refl, sym, arith}
use Rattle.es_reader.specs.Programs.{ToldProgram}
use Rattle.es_values.specs.declared.values.Value.{Value}
use Rattle.es_eval.specs.declared.works.CallWork.TheVariants as call
use Rattle.es_eval.specs.declared.works.Given.{Given}
use Rattle.es_eval.specs.declared.works.Given.TheVariants as given
use Rattle.es_eval.specs.declared.works.Now.TheVariants.{Gives}
use Rattle.es_eval.specs.declared.works.StatementWork.{StatementWork}
use Rattle.es_eval.specs.declared.works.TargetWork.{TargetWork}
use Rattle.es_eval.specs.declared.works.TargetWork.TheVariants as target
use Rattle.es_eval.specs.declared.works.Work.{Work}
use Rattle.es_eval.specs.declared.works.Work.TheVariants as work
use Rattle.es_eval.specs.Actions.{Action, Next}
use Rattle.es_eval.specs.devices.Machines.{MachineState, rest, run_from, turns_of, world_of}
use Rattle.es_eval.specs.devices.Works.{does, with_value}
use Rattle.es_eval.specs.Worlds.{World}

abbrev pub IsNoStatement : Work → Type 0
IsNoStatement item = (inner : StatementWork) → item ≡ work.Statement inner → ⊥

abbrev pub IsNoValue : Given → Type 0
IsNoValue handed = (value : Value) → handed ≡ given.Value value → ⊥

with-none : (f : Value → Action Given) (handed : Given) (w : World) (next : Next Given)
    → IsNoValue handed → with_value f handed w next ≡ next handed w
with-none f (given.Value value) w next none = absurd (none value refl)
with-none f given.Normal w next none = refl
with-none f given.Broke w next none = refl
with-none f given.Continued w next none = refl
with-none f (given.Returned value) w next none = refl

handed-on : (programs : List ToldProgram) (item : Work) (handed : Given) (w : World)
    (next : Next Given) → IsNoStatement item → IsNoValue handed
    → does programs item handed w next ≡ next handed w
handed-on programs (work.Operand item) handed w next expression none = with-none _ handed w next none
handed-on programs (work.Member item) handed w next expression none = with-none _ handed w next none
handed-on programs (work.Call item) handed w next expression none = with-none _ handed w next none
handed-on programs (work.Target item) handed w next expression none = with-none _ handed w next none
handed-on programs (work.Statement item) handed w next expression none = absurd (expression item refl)

-- the item was taken, and the rest of the run is the same
pub handed-run : (programs : List ToldProgram) (old mid : MachineState) (item : Work)
    (handed : Given) → IsNoStatement item → IsNoValue handed
    → rest programs old.frames
    ≡ (λ handed w. does programs item handed w (rest programs mid.frames))
    → ((told : List ToldProgram) → world_of told mid ≡ world_of told old)
    → run_from programs mid (Gives handed) ≡ run_from programs old (Gives handed)
handed-run programs old mid item handed expression none taken same =
    sym (handed-on programs item handed (world_of programs mid) (rest programs mid.frames) expression none)
    ∙ sym (ap (λ (next : Next Given). next handed (world_of programs mid)) taken)
    ∙ ap (λ (w : World). rest programs old.frames handed w) (same programs)

pub some-turn : (item : Work) → 1 ≤ turns_of item
some-turn (work.Operand item) = omega arith
some-turn (work.Member item) = omega arith
some-turn (work.Call (call.IndexBase key code)) = omega arith
some-turn (work.Call (call.IndexKey base code)) = omega arith
some-turn (work.Call (call.MemberBase name code)) = omega arith
some-turn (work.Call (call.Callee code)) = omega arith
some-turn (work.Call (call.Constructor code)) = omega arith
some-turn (work.Call (call.Argument opened)) = omega arith
some-turn (work.Call (call.Constructed new)) = omega arith
some-turn (work.Statement item) = omega arith
some-turn (work.Target item) = by item
  where
    by : (item : TargetWork) → 1 ≤ turns_of (work.Target item)
    by (target.IndexKey base purpose) = omega arith
    by (target.MemberBase name purpose) = omega arith
    by (target.StepRead in_front down place) = omega arith
    by (target.IndexBase key purpose) = omega arith
    by (target.Write place) = omega arith
    by (target.UpdateRead operator place right) = omega arith
    by (target.UpdateRight operator place before) = omega arith
    by (target.Visited visit) = omega arith
