-- How what is done with a target comes to a run.
use Rattle.std.proofs.Common.{◌≡◌, ◌∙◌, Bool, List, ap, subst, refl}
use Rattle.std.specs.Prelude.{Option, Some, None, if◌then◌else◌}
use Rattle.es_reader.specs.Programs.{ToldProgram}
use Rattle.es_values.specs.declared.numbers.Num.{Num}
use Rattle.es_values.specs.declared.values.Value.TheVariants.{Number}
use Rattle.es_shapes.specs.declared.codes.Code.{Code}
use Rattle.es_shapes.specs.declared.operators.Operator.{Operator}
use Rattle.es_eval.specs.declared.works.Given.{Given}
use Rattle.es_eval.specs.declared.works.Now.{Now}
use Rattle.es_eval.specs.declared.works.OperandWork.TheVariants as operand
use Rattle.es_eval.specs.declared.works.Place.{Place as Placed}
use Rattle.es_eval.specs.declared.works.StatementWork.TheVariants as statement
use Rattle.es_eval.specs.declared.works.TargetWork.TheVariants as target
use Rattle.es_eval.specs.declared.works.Use.TheVariants as use_of
use Rattle.es_eval.specs.declared.works.Visit.{Visit}
use Rattle.es_eval.specs.declared.works.Work.{Work}
use Rattle.es_eval.specs.declared.works.Work.TheVariants as work
use Rattle.es_eval.specs.Actions.{Next, and_then, gives}
use Rattle.es_eval.specs.devices.Machines.{GoesOn, MachineState, rest, run_from, world_of}
use Rattle.es_eval.specs.Members.{Place, read_place, write_place}
use Rattle.es_shapes.specs.Operators.{stepped}
use Rattle.es_eval.specs.Rows.{Completion, behind_body}
use Rattle.es_eval.specs.Rows.Completion.{Normal, Broke, Continued, Returned}
use Rattle.es_eval.specs.devices.Works.{as_completion, as_value, completed, does, executes, place_of, turns, use_row, visit_body, visit_task}
use Rattle.es_eval.specs.Worlds.{World}
use Rattle.es_eval.proofs.ArmLemmas.{put-run}

-- the rest behind an item that was put
abbrev pub IsPut : MachineState → Work → MachineState → Type 0
IsPut old item mid =
    (told : List ToldProgram) → rest told mid.frames
    ≡ (λ handed w. does told item handed w (rest told old.frames))

pub update-run : (programs : List ToldProgram) (old mid new : MachineState) (operator : Operator)
    (place there : Placed) (right : Code) (next : Now) → there ≡ place
    → IsPut old (work.Target (target.UpdateRead operator there right)) mid
    → ((told : List ToldProgram) → world_of told mid ≡ world_of told old)
    → GoesOn programs mid (as_value (read_place (place_of place))) new next
    → GoesOn programs old (use_row programs (use_of.Update operator right) (place_of place)) new next
update-run programs old mid new operator place there right next is rests same on =
    put-run programs old mid new (work.Target (target.UpdateRead operator place right))
    (as_value (read_place (place_of place))) next
    (subst (λ (p : Placed). IsPut old (work.Target (target.UpdateRead operator p right)) mid)
    is rests) same on

pub steps-run : (programs : List ToldProgram) (old mid new : MachineState) (in_front down : Bool)
    (place there : Placed) (next : Now) → there ≡ place
    → IsPut old (work.Target (target.StepRead in_front down there)) mid
    → ((told : List ToldProgram) → world_of told mid ≡ world_of told old)
    → GoesOn programs mid (as_value (read_place (place_of place))) new next
    → GoesOn programs old (use_row programs (use_of.Step in_front down) (place_of place)) new next
steps-run programs old mid new in_front down place there next is rests same on =
    put-run programs old mid new (work.Target (target.StepRead in_front down place))
    (as_value (read_place (place_of place))) next
    (subst (λ (p : Placed). IsPut old (work.Target (target.StepRead in_front down p)) mid)
    is rests) same on

-- what is written, and what is given in its place
pub instead-run : (programs : List ToldProgram) (old mid new : MachineState) (place : Place)
    (in_front down : Bool) (number after kept : Num) (next : Now)
    → after ≡ stepped down number
    → kept ≡ (if in_front then after else number)
    → IsPut old (work.Operand (operand.Instead (Number kept))) mid
    → ((told : List ToldProgram) → world_of told mid ≡ world_of told old)
    → GoesOn programs mid (as_value (write_place place (Number after))) new next
    → GoesOn programs old (as_value (and_then (write_place place (Number (stepped down number)))
    (gives (Number (if in_front then stepped down number else number))))) new next
instead-run programs old mid new place in_front down number after kept next is_after is_kept rests
    same on =
    let both : (a : Num) → after ≡ a
    → GoesOn programs old (as_value (and_then (write_place place (Number a))
    (gives (Number (if in_front then a else number))))) new next =
    λ a is. subst (λ (a : Num). GoesOn programs old (as_value (and_then
    (write_place place (Number a)) (gives (Number (if in_front then a else number))))) new next)
    is
    (put-run programs old mid new
    (work.Operand (operand.Instead (Number (if in_front then after else number))))
    (as_value (write_place place (Number after))) next
    (subst (λ (n : Num). IsPut old (work.Operand (operand.Instead (Number n))) mid) is_kept
    rests) same on) in
    both (stepped down number) is_after

-- what a body's completion is handed to
visiting : (programs : List ToldProgram) (visit : Visit) (next : Next Given)
    (completion : Completion) (w : World)
    → does programs (work.Statement (statement.Visiting visit)) (completed completion) w next
    ≡ as_completion (behind_body (turns programs (visit_task programs visit)) completion) w next
visiting programs visit next Normal w = refl
visiting programs visit next Broke w = refl
visiting programs visit next Continued w = refl
visiting programs visit next (Returned value) w = refl

pub visited-run : (programs : List ToldProgram) (old new : MachineState) (visit : Visit)
    (next : Now)
    → run_from programs new next ≡ executes programs visit.body (world_of programs old)
    (λ completion w. does programs (work.Statement (statement.Visiting visit))
    (completed completion) w (rest programs old.frames))
    → GoesOn programs old (as_completion (visit_body programs visit)) new next
visited-run programs old new visit next run =
    run ∙ ap (executes programs visit.body (world_of programs old))
    (λ i completion w. visiting programs visit (rest programs old.frames) completion w i)

pub none-found : {A : Type 0} (found : Option A) → ((x : A) → found ≡ Some x → ⊥)
    → found ≡ None
none-found None differs = refl
none-found (Some x) differs = absurd (differs x refl)
