use Rattle.std.specs.Int.{w32}
use Rattle.std.proofs.lemmas.Int.{SFits-int_wrap, int_wrap_fits}
use Rattle.es_values.proofs.LawLemmas.{wrapped-turn}
use Rattle.es_values.proofs.laws.law_of_wrapping.Goals as goal

pub returns : goal.returns
returns c = record {
  fits = λ z. SFits-int_wrap w32 z;
  same = λ z h. int_wrap_fits w32 z h;
  turn = wrapped-turn;
}
