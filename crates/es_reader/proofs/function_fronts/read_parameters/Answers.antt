use Rattle.std.proofs.Common.{arith, refl, ◌+◌}
use Rattle.std.proofs.lemmas.Option.{slice_get_within}
use Rattle.es_reader.specs.Statements.Parameters.{NoParameters, SomeParameters}
use Rattle.es_reader.proofs.PartLemmas.{fails}
use Rattle.es_reader.proofs.BadLemmas.{handed, if-bad}
use Rattle.es_reader.proofs.FrontBadLemmas.{first-bad, further-bad}
use Rattle.es_reader.proofs.FrontLemmas.{first-name, next-name, none-are}
use Rattle.es_reader.proofs.function_fronts.read_parameters.Goals as goal

pub parameters-init : goal.parameters-init
parameters-init c = first-name c.args.tokens.now c.args.place c.new-names.result c.add_parameter.new.names c.new-names.ensures (c.in_ok-add_parameter.ensures {u = tt}).name

pub parameters-smaller : goal.parameters-smaller
parameters-smaller c =
    let there = (c.in_ok-add_parameter-2.ensures {u = tt}).name in
    let l = slice_get_within c.args.tokens.now (c.parameters.behind + 1) there.0 there.1 in
    omega (arith, l)

pub parameters-preserved : goal.parameters-preserved
parameters-preserved c = next-name c.args.tokens.now c.args.place c.parameters.behind (c.parameters.behind + 2) c.parameters.names c.add_parameter-in-parameters.new.names c.parameters.invariant (c.is_mark_at-in-parameters.ensures.0 c.parameters-test.true) (c.in_ok-add_parameter-2.ensures {u = tt}).name refl

pub returns-clause-parameters : goal.returns-clause-parameters
returns-clause-parameters c = let x = c.parameters.invariant in (SomeParameters x.0 x.1, x.2, fails _ c.is_mark_at-in-parameters.result c.is_mark_at-in-parameters.ensures.1 c.parameters-test.false)

pub returns-then-is_mark_at-clause-parameters : goal.returns-then-is_mark_at-clause-parameters
returns-then-is_mark_at-clause-parameters c = (NoParameters, none-are c.args.tokens.now c.args.place c.new-names.result c.requires c.new-names.ensures, c.is_mark_at.ensures.0 c.if-is_mark_at.true)

pub returns-in_err-add_parameter-clause-bad : goal.returns-in_err-add_parameter-clause-bad
returns-in_err-add_parameter-clause-bad c = handed c.from_residual.result c.in_err-add_parameter.field-0.0 _ c.from_residual.ensures.1 (if-bad c.in_err-add_parameter.field-0.0 _ _ (first-bad c.args.tokens.now c.args.place c.new-names.result c.new-names.ensures (fails _ c.is_mark_at.result c.is_mark_at.ensures.1 c.if-is_mark_at.false)) (c.in_err-add_parameter.ensures {u = tt}).bad)

pub returns-in_err-add_parameter-2-clause-bad : goal.returns-in_err-add_parameter-2-clause-bad
returns-in_err-add_parameter-2-clause-bad c = handed c.from_residual-in_err-add_parameter-2.result c.in_err-add_parameter-2.field-0.0 _ c.from_residual-in_err-add_parameter-2.ensures.1 (if-bad c.in_err-add_parameter-2.field-0.0 _ _ (further-bad c.args.tokens.now c.args.place c.parameters.behind c.parameters.names c.parameters.invariant (c.is_mark_at-in-parameters.ensures.0 c.parameters-test.true)) (c.in_err-add_parameter-2.ensures {u = tt}).bad)
