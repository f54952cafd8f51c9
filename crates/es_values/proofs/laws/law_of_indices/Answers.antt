use Rattle.es_values.proofs.JoinLemmas.{index_of-digits, index_of-is, not-length}
use Rattle.es_values.proofs.laws.law_of_indices.Goals as goal

pub returns : goal.returns
returns c = record {
  digits = index_of-digits c.law_of_decimals.ensures.number;
  text = index_of-is;
  others = not-length c.law_of_decimals.ensures.digits;
}
