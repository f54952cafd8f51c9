use Rattle.std.proofs.Common.{rules, sym}
use Rattle.es_values.proofs.NumberLemmas.{int_wrap-pos}
use Rattle.es_values.proofs.numbers.of_bits.Goals as goal

pub returns : goal.returns
returns c = search (rules, sym (int_wrap-pos c.args.bits c.ranges.bits.fits))
