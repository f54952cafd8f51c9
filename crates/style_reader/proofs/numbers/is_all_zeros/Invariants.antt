use Rattle.std.proofs.Common.{◌≡◌, take}
use Rattle.std.specs.List.{list_all}
use Rattle.style_reader.specs.devices.Runs.{is_zero}
use Rattle.style_reader.proofs.numbers.is_all_zeros.Given as goal

abbrev pub invariant-codes : goal.invariant-codes
invariant-codes l = l.all ≡ list_all is_zero (take l.code-index l.block)
