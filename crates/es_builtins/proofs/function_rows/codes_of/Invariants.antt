use Rattle.std.proofs.Common.{◌≡◌, map, take}
use Rattle.es_values.specs.Conversions.{number_of}
use Rattle.es_builtins.specs.Numerals.{code_of_number}
use Rattle.es_builtins.proofs.function_rows.codes_of.Given as goal

abbrev pub invariant-loop-value : goal.invariant-loop-value
invariant-loop-value l = l.codes.items ≡ map (λ value. code_of_number (number_of l.heap value)) (take l.value-index l.args)
