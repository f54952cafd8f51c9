use Rattle.std.proofs.Common.{◌∙◌, ap}
use Rattle.bml_bytes.specs.Codes.{codes}
use Rattle.es_values.specs.declared.values.Value.TheVariants.{Str}
use Rattle.es_eval.proofs.ShapeRows.{plain-type_name}
use Rattle.es_eval.proofs.machine.Machine.type_text.Goals as goal

pub returns : goal.returns
returns c =
    ap Str (c.in_ok-name.ensures ∙ ap codes (c.as_bytes.ensures.value ∙ c.type_name.ensures)
    ∙ plain-type_name c.args.operand.now)
