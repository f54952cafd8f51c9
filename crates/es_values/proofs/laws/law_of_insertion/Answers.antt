use Rattle.es_values.proofs.OrderLemmas.{cut-element, names-put, names-without, put-longer}
use Rattle.es_values.proofs.laws.law_of_insertion.Goals as goal

pub returns : goal.returns
returns c = record {
  put = λ o name v. names-put o.properties name v;
  removed = names-without;
  longer = put-longer;
  shorter = λ o count index small. cut-element c.law_of_decimals.ensures.number o.properties count index small;
}
