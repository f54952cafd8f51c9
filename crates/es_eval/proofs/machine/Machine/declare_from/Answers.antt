use Rattle.std.proofs.Common.{◌+◌}
use Rattle.es_shapes.specs.devices.Parts.{declarator_at}
use Rattle.es_eval.specs.Actions.{and_then, gives}
use Rattle.es_eval.specs.Rows.{declarator_row}
use Rattle.es_eval.specs.Rows.Completion.{Normal}
use Rattle.es_eval.specs.devices.Machines.{world_of}
use Rattle.es_eval.specs.devices.Works.{declares, enters}
use Rattle.es_eval.proofs.StatementArms.{nothing-declared}
use Rattle.es_eval.proofs.RanLemmas.{goes_then_goes, goes_then_runs}
use Rattle.es_eval.proofs.TurnedLemmas.{declares_first, goes_same, passes_none, passes_some, same_runs}
use Rattle.es_eval.proofs.machine.Machine.declare_from.Goals as goal

pub returns-in-Some-2 : goal.returns-in-Some-2
returns-in-Some-2 c =
    let programs = c.args.programs.now in
    let code = c.args.code in
    let place = c.names.place in
    let more = declares programs code (place + 1) in
    let one = and_then (declarator_row (enters programs) (declarator_at programs c.in-Some.declared)) more in
    goes_then_runs programs 12 (declares programs code c.args.first) (declares programs code place)
    c.args.self.now c.names.self c.declare_one.new.self c.in-Some-2.ended c.declare_one.new.held
    c.names.invariant.goes
    (same_runs programs 12 (declares programs code place) one c.names.self c.declare_one.new.self
    c.in-Some-2.ended c.declare_one.new.held
    (λ next. declares_first programs code c.in-Some.declared place (world_of programs c.names.self)
    next c.in-Some.ensures.part)
    (passes_some programs one more c.names.self c.declare_one.new.self c.in_ok-ended.field-0
    c.in-Some-2.ended c.declare_one.new.held c.in_ok-ended.ensures c.in-Some-2.is))

pub names-preserved : goal.names-preserved
names-preserved c =
    let programs = c.args.programs.now in
    let code = c.args.code in
    let place = c.names.place in
    let more = declares programs code (place + 1) in
    let one = and_then (declarator_row (enters programs) (declarator_at programs c.in-Some.declared)) more in
    let passes = passes_none programs one more c.names.self c.declare_one.new.self
    c.in_ok-ended.field-0 c.declare_one.new.held c.in_ok-ended.ensures c.in_default-2.is in
    record {
      goes = goes_then_goes programs (declares programs code c.args.first) (declares programs code place)
          more c.args.self.now c.names.self c.declare_one.new.self c.names.invariant.goes
          (goes_then_goes programs (declares programs code place) one more c.names.self c.names.self
          c.declare_one.new.self
          (goes_same programs (declares programs code place) one c.names.self
          (λ next. declares_first programs code c.in-Some.declared place
          (world_of programs c.names.self) next c.in-Some.ensures.part)) passes.0);
      clear = passes.1;
    }

pub returns : goal.returns
returns c =
    let programs = c.args.programs.now in
    let code = c.args.code in
    let place = c.names.place in (
      goes_then_goes programs (declares programs code c.args.first) (declares programs code place)
          (gives Normal) c.args.self.now c.names.self c.names.self c.names.invariant.goes
          (goes_same programs (declares programs code place) (gives Normal) c.names.self
          (λ next. nothing-declared programs code place (world_of programs c.names.self) next
          c.in_default.ensures.part)),
      c.names.invariant.clear,
    )
