use Rattle.std.proofs.Common.{◌≡◌, take}
use Rattle.std.specs.List.{list_all}
use Rattle.es_values.specs.Numerals.{is_white}
use Rattle.es_values.proofs.numerals.is_all_white.Given as goal

abbrev pub invariant-loop-code : goal.invariant-loop-code
invariant-loop-code l = l.all ≡ list_all is_white (take l.code-index l.block)
