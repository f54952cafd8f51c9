use Rattle.es_values.proofs.texts.+is_decimal_text.Given as goal

abbrev pub decreases-is_decimal_text : goal.decreases-is_decimal_text
decreases-is_decimal_text l = l.number
