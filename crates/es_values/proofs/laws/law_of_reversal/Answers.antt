use Rattle.es_values.proofs.ReverseLemmas.{turned-element, turned-other_name}
use Rattle.es_values.proofs.laws.law_of_reversal.Goals as goal

pub returns : goal.returns
returns c = record {
  elements = turned-element c.law_of_decimals.ensures.number;
  others = turned-other_name c.law_of_decimals.ensures.number;
}
