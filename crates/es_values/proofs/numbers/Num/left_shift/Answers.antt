use Rattle.std.proofs.Common.{rules}
use Rattle.es_values.proofs.NumberLemmas.{int_wrap-pos_mod}
use Rattle.es_values.proofs.numbers.Num.left_shift.Goals as goal

pub returns : goal.returns
returns c = search (rules, int_wrap-pos_mod)
