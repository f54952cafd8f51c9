use Rattle.std.proofs.Common.{refl}
use Rattle.es_values.specs.declared.values.Value.{Value}
use Rattle.es_shapes.specs.devices.Parts.{declarator_at}
use Rattle.es_eval.specs.Actions.{Action, and_then, behind}
use Rattle.es_eval.specs.Members.{write_name}
use Rattle.es_eval.specs.Rows.{Completion, declarator_row}
use Rattle.es_eval.specs.declared.held.Ran.TheVariants as ran_of
use Rattle.es_eval.specs.declared.works.StatementWork.TheVariants.{Declared}
use Rattle.es_eval.specs.devices.Machines.{world_of}
use Rattle.es_eval.specs.devices.Works.{declares, enters, evaluates}
use Rattle.es_eval.proofs.HeldLemmas.{reached_stop, reached_wait}
use Rattle.es_eval.proofs.RanLemmas.{goes_then_goes}
use Rattle.es_eval.proofs.TurnedLemmas.{goes_same, none_declared, one_declared, reached_goes, same_runs, written_goes}
use Rattle.es_eval.proofs.machine.Machine.declare_one.Goals as goal

pub returns-in_default : goal.returns-in_default
returns-in_default c =
    let programs = c.args.programs.now in
    let old = c.args.self.now in
    let more = declares programs c.args.code c.args.next in (
      goes_same programs
          (and_then (declarator_row (enters programs) (declarator_at programs c.args.declared)) more) more old
          (λ next. none_declared programs c.args.declared c.in_ok-shape.shape more (world_of programs old)
          next c.in_ok-shape.ensures c.in_default.is),
      c.requires,
    )

pub returns-in_ok-write_name-in-Value : goal.returns-in_ok-write_name-in-Value
returns-in_ok-write_name-in-Value c =
    let programs = c.args.programs.now in
    let old = c.args.self.now in
    let shape = c.in_ok-shape.shape in
    let more = declares programs c.args.code c.args.next in
    let action = and_then (declarator_row (enters programs) (declarator_at programs c.args.declared)) more in
    let writes = and_then (write_name shape.name c.in-Value.given) more in
    let reached = reached_goes programs (evaluates programs c.in-Some.value)
    (λ value. and_then (write_name shape.name value) more) action writes old c.reach.new.self
    c.in_ok-given.field-0 c.reach.new.held c.in-Value.given
    (λ next. one_declared programs c.args.declared shape c.in-Some.value more
    (world_of programs old) next c.in_ok-shape.ensures c.in-Some.is)
    c.in_ok-given.ensures c.in-Value.is refl in (
      goes_then_goes programs action writes more old c.reach.new.self c.write_name.new.self reached.0
          (written_goes programs shape.name c.in-Value.given more c.reach.new.self
          c.write_name.new.self c.in_ok-write_name-in-Value.ensures.name c.write_name.ensures.stays),
      reached.1,
    )

pub returns-in-Stopped : goal.returns-in-Stopped
returns-in-Stopped c =
    let programs = c.args.programs.now in
    let old = c.args.self.now in
    let shape = c.in_ok-shape.shape in
    let rest = declares programs c.args.code c.args.next in
    let first = evaluates programs c.in-Some.value in
    let more : Value → Action Completion = λ value. and_then (write_name shape.name value) rest in
    same_runs programs 12
    (and_then (declarator_row (enters programs) (declarator_at programs c.args.declared)) rest)
    (behind first more) old c.reach.new.self (ran_of.Stopped c.in-Stopped.cause) c.reach.new.held
    (λ next. one_declared programs c.args.declared shape c.in-Some.value rest
    (world_of programs old) next c.in_ok-shape.ensures c.in-Some.is)
    (reached_stop programs first more old c.reach.new.self c.in_ok-given.field-0
    c.reach.new.held c.in-Stopped.cause c.in_ok-given.ensures c.in-Stopped.is)

pub returns-in_ok-holds-in-Waits : goal.returns-in_ok-holds-in-Waits
returns-in_ok-holds-in-Waits c =
    let programs = c.args.programs.now in
    let old = c.args.self.now in
    let shape = c.in_ok-shape.shape in
    let rest = declares programs c.args.code c.args.next in
    let first = evaluates programs c.in-Some.value in
    let more : Value → Action Completion = λ value. and_then (write_name shape.name value) rest in
    same_runs programs 12
    (and_then (declarator_row (enters programs) (declarator_at programs c.args.declared)) rest)
    (behind first more) old c.reach.new.self c.in_ok-holds-in-Waits.field-0 c.holds.new.self
    (λ next. one_declared programs c.args.declared shape c.in-Some.value rest
    (world_of programs old) next c.in_ok-shape.ensures c.in-Some.is)
    (reached_wait programs first more old c.reach.new.self c.in_ok-given.field-0
    c.reach.new.held c.holds.new.self (Declared shape.name c.args.code c.args.next)
    c.in_ok-holds-in-Waits.field-0 c.in_ok-given.ensures c.in-Waits.is
    c.in_ok-holds-in-Waits.ensures.waits c.in_ok-holds-in-Waits.ensures.next
    c.in_ok-holds-in-Waits.ensures.items (λ value. refl) refl)
