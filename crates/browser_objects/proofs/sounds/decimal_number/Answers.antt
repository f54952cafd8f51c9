use Rattle.std.proofs.Common.{◌∙◌, sym}
use Rattle.browser_objects.proofs.NumberLemmas.{field-other, field-tried}
use Rattle.browser_objects.proofs.sounds.decimal_number.Goals as goal

pub returns-then-is_field : goal.returns-then-is_field
returns-then-is_field c =
    c.ok.ensures.value ∙ field-tried c.args.digits.now c.number_of_digits.result c.try_from.result (sym c.is_field.ensures ∙ c.if-is_field.true) c.number_of_digits.ensures c.try_from.ensures

pub returns-else-is_field : goal.returns-else-is_field
returns-else-is_field c = field-other c.args.digits.now (sym c.is_field.ensures ∙ c.if-is_field.false)
