use Rattle.std.proofs.Common.{sym, ◌∙◌}
use Rattle.multipart_entities.proofs.RootLemmas.{component_of-none, component_of-one, component_of-more}
use Rattle.multipart_entities.proofs.paths.component_ref.Goals as goal

pub returns-in_err-codes : goal.returns-in_err-codes
returns-in_err-codes c = c.from_residual.ensures ∙ sym (component_of-none c.args.text.now c.codes.result.now c.codes.ensures c.in_err-codes.ensures)

pub returns-in-None : goal.returns-in-None
returns-in-None c = c.component_number.ensures ∙ sym (component_of-one c.args.text.now c.codes.result.now c.in_ok-codes.codes.now c.codes.ensures c.in_ok-codes.ensures c.in-None.ensures)

pub returns-in-Some : goal.returns-in-Some
returns-in-Some c = sym (component_of-more c.args.text.now c.codes.result.now c.in_ok-codes.codes.now c.in-Some.field-0.0.now c.in-Some.field-0.1.now c.codes.ensures c.in_ok-codes.ensures c.in-Some.ensures)
