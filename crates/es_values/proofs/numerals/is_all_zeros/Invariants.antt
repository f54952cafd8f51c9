use Rattle.std.proofs.Common.{◌≡◌, take}
use Rattle.std.specs.List.{list_all}
use Rattle.es_values.specs.devices.Runs.{is_zero}
use Rattle.es_values.proofs.numerals.is_all_zeros.Given as goal

abbrev pub invariant-loop-code : goal.invariant-loop-code
invariant-loop-code l = l.all ≡ list_all is_zero (take l.code-index l.block)
