use Rattle.std.proofs.Common.{◌∙◌, Bool, List, ap, refl, rules, sym}
use Rattle.std.specs.Prelude.{if◌then◌else◌}
use Rattle.es_values.specs.declared.values.Value.{Value}
use Rattle.es_values.specs.Values.{truth_of}
use Rattle.es_reader.specs.Programs.{ToldProgram}
use Rattle.es_eval.specs.Actions.{Action, behind, gives}
use Rattle.es_eval.specs.Rows.{Completion}
use Rattle.es_eval.specs.Rows.Completion.{Normal}
use Rattle.es_eval.specs.declared.works.Loop.{Loop}
use Rattle.es_eval.specs.declared.works.StatementWork.TheVariants.{Test}
use Rattle.es_eval.specs.devices.Machines.{world_of}
use Rattle.es_eval.specs.devices.Works.{evaluates, loop_body, loop_task, turns}
use Rattle.es_eval.specs.declared.held.Ran.TheVariants as ran_of
use Rattle.es_eval.specs.declared.works.Given.TheVariants as given
use Rattle.es_eval.proofs.HeldLemmas.{reached_given, reached_stop, reached_wait}
use Rattle.es_eval.proofs.TurnedLemmas.{goes_same, reached_goes, same_runs, tested_turn, untested_turn}
use Rattle.es_eval.proofs.machine.Machine.run_test.Goals as goal

where_true : List ToldProgram → Loop → Bool → Action Completion
where_true programs given_loop truth = if truth then loop_body programs given_loop else gives Normal

pub returns-in_default : goal.returns-in_default
returns-in_default c =
    let programs = c.args.programs.now in
    let given_loop = c.args.given_loop in
    let old = c.args.self.now in (
      goes_same programs (turns programs (loop_task programs given_loop))
          (loop_body programs given_loop) old
          (λ next. untested_turn programs given_loop (world_of programs old) next c.in_default.is),
      c.requires,
    )

pub returns-then-truth : goal.returns-then-truth
unfolding where_true
returns-then-truth c =
    let programs = c.args.programs.now in
    let given_loop = c.args.given_loop in
    let old = c.args.self.now in
    reached_goes programs (evaluates programs c.in-Some.test)
    (λ value. where_true programs given_loop (truth_of value))
    (turns programs (loop_task programs given_loop)) (loop_body programs given_loop) old
    c.reach.new.self c.in_ok-given.field-0 c.reach.new.held c.in-Value.given
    (λ next. tested_turn programs given_loop c.in-Some.test (world_of programs old) next c.in-Some.is)
    c.in_ok-given.ensures c.in-Value.is
    (ap (where_true programs given_loop) (sym c.truth.ensures ∙ c.if-truth.true))

pub returns-else-truth : goal.returns-else-truth
unfolding where_true
returns-else-truth c =
    let programs = c.args.programs.now in
    let given_loop = c.args.given_loop in
    let old = c.args.self.now in
    let first = evaluates programs c.in-Some.test in
    let more : Value → Action Completion = λ value. where_true programs given_loop (truth_of value) in
    same_runs programs 12 (turns programs (loop_task programs given_loop)) (behind first more) old
    c.reach.new.self (ran_of.Given given.Normal) c.reach.new.held
    (λ next. tested_turn programs given_loop c.in-Some.test (world_of programs old) next c.in-Some.is)
    (reached_given programs first more old c.reach.new.self c.in_ok-given.field-0
    c.reach.new.held c.in-Value.given Normal c.in_ok-given.ensures c.in-Value.is
    (ap (where_true programs given_loop) (sym c.truth.ensures ∙ c.if-truth.false)) (search rules))

pub returns-in-Stopped : goal.returns-in-Stopped
unfolding where_true
returns-in-Stopped c =
    let programs = c.args.programs.now in
    let given_loop = c.args.given_loop in
    let old = c.args.self.now in
    let first = evaluates programs c.in-Some.test in
    let more : Value → Action Completion = λ value. where_true programs given_loop (truth_of value) in
    same_runs programs 12 (turns programs (loop_task programs given_loop)) (behind first more) old
    c.reach.new.self (ran_of.Stopped c.in-Stopped.cause) c.reach.new.held
    (λ next. tested_turn programs given_loop c.in-Some.test (world_of programs old) next c.in-Some.is)
    (reached_stop programs first more old c.reach.new.self c.in_ok-given.field-0
    c.reach.new.held c.in-Stopped.cause c.in_ok-given.ensures c.in-Stopped.is)

pub returns-in_ok-holds-in-Waits : goal.returns-in_ok-holds-in-Waits
unfolding where_true
returns-in_ok-holds-in-Waits c =
    let programs = c.args.programs.now in
    let given_loop = c.args.given_loop in
    let old = c.args.self.now in
    let first = evaluates programs c.in-Some.test in
    let more : Value → Action Completion = λ value. where_true programs given_loop (truth_of value) in
    same_runs programs 12 (turns programs (loop_task programs given_loop)) (behind first more) old
    c.reach.new.self c.in_ok-holds-in-Waits.field-0 c.holds.new.self
    (λ next. tested_turn programs given_loop c.in-Some.test (world_of programs old) next c.in-Some.is)
    (reached_wait programs first more old c.reach.new.self c.in_ok-given.field-0
    c.reach.new.held c.holds.new.self (Test given_loop) c.in_ok-holds-in-Waits.field-0
    c.in_ok-given.ensures c.in-Waits.is c.in_ok-holds-in-Waits.ensures.waits
    c.holds.ensures.next c.in_ok-holds-in-Waits.ensures.items (λ value. refl) refl)
