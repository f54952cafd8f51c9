use Rattle.std.proofs.Common.{refl}
use Rattle.es_values.specs.declared.values.Value.{Value}
use Rattle.es_eval.specs.Actions.{Action, behind}
use Rattle.es_eval.specs.Rows.{Completion}
use Rattle.es_eval.specs.declared.held.Ran.TheVariants as ran_of
use Rattle.es_eval.specs.declared.works.StatementWork.TheVariants.{NextTurn}
use Rattle.es_eval.specs.devices.Machines.{world_of}
use Rattle.es_eval.specs.devices.Works.{evaluates, loop_again, loop_task, turns}
use Rattle.es_eval.proofs.HeldLemmas.{reached_stop, reached_wait}
use Rattle.es_eval.proofs.TurnedLemmas.{goes_same, not_updated_again, reached_goes, same_runs, updated_again}
use Rattle.es_eval.proofs.machine.Machine.run_update.Goals as goal

pub returns-in_default : goal.returns-in_default
returns-in_default c =
    let programs = c.args.programs.now in
    let given_loop = c.args.given_loop in
    let old = c.args.self.now in (
      goes_same programs (loop_again programs given_loop)
          (turns programs (loop_task programs given_loop)) old
          (λ next. not_updated_again programs given_loop (world_of programs old) next c.in_default.is),
      c.requires,
    )

pub returns-in-Value : goal.returns-in-Value
returns-in-Value c =
    let programs = c.args.programs.now in
    let given_loop = c.args.given_loop in
    let old = c.args.self.now in
    let again = turns programs (loop_task programs given_loop) in
    reached_goes programs (evaluates programs c.in-Some.update) (λ value. again)
    (loop_again programs given_loop) again old c.reach.new.self c.in_ok-found.field-0
    c.reach.new.held c.in-Value.found
    (λ next. updated_again programs given_loop c.in-Some.update (world_of programs old) next c.in-Some.is)
    c.in_ok-found.ensures c.in-Value.is refl

pub returns-in-Stopped : goal.returns-in-Stopped
returns-in-Stopped c =
    let programs = c.args.programs.now in
    let given_loop = c.args.given_loop in
    let old = c.args.self.now in
    let first = evaluates programs c.in-Some.update in
    let more : Value → Action Completion = λ value. turns programs (loop_task programs given_loop) in
    same_runs programs 12 (loop_again programs given_loop) (behind first more) old
    c.reach.new.self (ran_of.Stopped c.in-Stopped.cause) c.reach.new.held
    (λ next. updated_again programs given_loop c.in-Some.update (world_of programs old) next c.in-Some.is)
    (reached_stop programs first more old c.reach.new.self c.in_ok-found.field-0
    c.reach.new.held c.in-Stopped.cause c.in_ok-found.ensures c.in-Stopped.is)

pub returns-in_ok-holds-in-Waits : goal.returns-in_ok-holds-in-Waits
returns-in_ok-holds-in-Waits c =
    let programs = c.args.programs.now in
    let given_loop = c.args.given_loop in
    let old = c.args.self.now in
    let first = evaluates programs c.in-Some.update in
    let more : Value → Action Completion = λ value. turns programs (loop_task programs given_loop) in
    same_runs programs 12 (loop_again programs given_loop) (behind first more) old
    c.reach.new.self c.in_ok-holds-in-Waits.field-0 c.holds.new.self
    (λ next. updated_again programs given_loop c.in-Some.update (world_of programs old) next c.in-Some.is)
    (reached_wait programs first more old c.reach.new.self c.in_ok-found.field-0
    c.reach.new.held c.holds.new.self (NextTurn given_loop) c.in_ok-holds-in-Waits.field-0
    c.in_ok-found.ensures c.in-Waits.is c.in_ok-holds-in-Waits.ensures.waits
    c.in_ok-holds-in-Waits.ensures.next c.in_ok-holds-in-Waits.ensures.items (λ value. refl) refl)
