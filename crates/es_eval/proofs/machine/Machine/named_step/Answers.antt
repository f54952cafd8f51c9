use Rattle.std.proofs.Common.{◌∙◌, sym}
use Rattle.std.proofs.lemmas.Bool.{true≢false}
use Rattle.std.proofs.lemmas.Result.{IfOk-weaker}
use Rattle.es_shapes.specs.Sources.{target_of}
use Rattle.es_shapes.specs.devices.Parts.{expression_at}
use Rattle.es_eval.specs.Rows.{step_row}
use Rattle.es_eval.proofs.FoundLemmas.{no-place-finds, place-finds, stays-on}
use Rattle.es_eval.proofs.machine.Machine.named_step.Goals as goal

pub returns-then-not-take_step-clause-finds : goal.returns-then-not-take_step-clause-finds
returns-then-not-take_step-clause-finds c =
    let programs = c.args.programs.now in
    no-place-finds programs (target_of (expression_at programs c.args.target))
    (step_row c.args.in_front c.args.down) c.args.self.now c.take_step.new.self c.take_step.result
    c.take_step.ensures.step c.if-not-take_step.true

pub returns-clause-finds : goal.returns-clause-finds
returns-clause-finds c =
    IfOk-weaker c.step_name.result _ _
    (λ found finds. place-finds c.args.programs.now c.args.target c.in-Some.name.now
    (step_row c.args.in_front c.args.down) c.args.self.now c.take_step.new.self
    c.step_name.new.self c.take_step.result found c.take_step.ensures.step c.if-not-take_step.false
    c.in-Some.ensures finds) c.step_name.ensures.finds

pub returns-clause-stays : goal.returns-clause-stays
returns-clause-stays c =
    stays-on c.args.self.now c.take_step.new.self c.step_name.new.self c.take_step.ensures.stays
    c.step_name.ensures.stays

pub unreachable-requires : goal.unreachable-requires
unreachable-requires c =
    true≢false (sym c.requires ∙ c.in-None.ensures)
