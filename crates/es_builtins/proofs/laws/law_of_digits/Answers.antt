use Rattle.std.proofs.Common.{refl}
use Rattle.es_builtins.proofs.WrittenLemmas.{text-digits, text-written}
use Rattle.es_builtins.proofs.laws.law_of_digits.Goals as goal

pub returns : goal.returns
returns c = record { written = text-written; digits = text-digits; negative = λ base number. refl }
