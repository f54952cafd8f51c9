use Rattle.std.proofs.Common.{ap}
use Rattle.std.specs.Option.{option_map}
use Rattle.std.proofs.lemmas.Result.{IfOk-weaker}
use Rattle.es_eval.proofs.StatementArms.{all-visited, none-visited}
use Rattle.es_eval.proofs.machine.Machine.visit_all.Goals as goal

pub returns-in-Some-clause-run : goal.returns-in-Some-clause-run
returns-in-Some-clause-run c =
    IfOk-weaker c.visit_next.result _ _ (λ next on.
    all-visited c.args.programs.now c.args.self.now c.names.new.self c.visit_next.new.self
    c.args.visitor c.args.body c.args.object.now c.in-Object.object
    (option_map (λ names. names.items) c.in_ok-names.field-0) c.in-Some.names.items next
    c.in-Object.is c.in_ok-names.ensures.names
    (ap (option_map (λ names. names.items)) c.in-Some.is) c.in_ok-names.ensures.stays on)
    c.visit_next.ensures.run

pub returns-in-None-clause-run : goal.returns-in-None-clause-run
returns-in-None-clause-run c =
    none-visited c.args.programs.now c.args.self.now c.names.new.self c.args.visitor c.args.body
    c.args.object.now c.in-Object.object
    (option_map (λ names. names.items) c.in_ok-names.field-0) c.stopped.result
    c.in-Object.is c.in_ok-names.ensures.names
    (ap (option_map (λ names. names.items)) c.in-None.is) c.stopped.ensures
