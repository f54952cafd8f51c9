use Rattle.es_reader.proofs.BadLemmas.{handed, if-bad}
use Rattle.es_reader.proofs.FrontBadLemmas.{no-name-new}
use Rattle.std.proofs.Common.{rules}
use Rattle.es_reader.proofs.FrontLemmas.{one-name}
use Rattle.es_reader.proofs.function_fronts.add_parameter.Goals as goal

pub returns-clause-name : goal.returns-clause-name
returns-clause-name c = one-name c.args.tokens.now c.args.place c.args.names.now c.add.new.self c.in_ok-name.name.now _ (c.in_ok-name.ensures {u = tt}).name (c.in_ok-add.ensures {u = tt}).added (search rules) (c.in_ok-add.ensures {u = tt}).names

pub returns-in_err-name-clause-bad : goal.returns-in_err-name-clause-bad
returns-in_err-name-clause-bad c = handed c.from_residual.result c.in_err-name.field-0.0 _ c.from_residual.ensures.1 (if-bad c.in_err-name.field-0.0 _ _ (no-name-new c.args.names.now c.args.tokens.now c.args.place) (c.in_err-name.ensures {u = tt}).lacks)
