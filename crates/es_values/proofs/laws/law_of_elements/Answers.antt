use Rattle.es_values.proofs.OrderLemmas.{made-element, made-length, set-element}
use Rattle.es_values.proofs.laws.law_of_elements.Goals as goal

pub returns : goal.returns
returns c = record {
  made = made-element c.law_of_decimals.ensures.number;
  size = made-length c.law_of_decimals.ensures.number;
  set = set-element c.law_of_decimals.ensures.number;
}
