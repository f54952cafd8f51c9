use Rattle.es_values.proofs.LawLemmas.{listed, put-others, put-there}
use Rattle.es_values.proofs.laws.law_of_properties.Goals as goal

pub returns : goal.returns
returns c = record {
  put = put-there;
  others = put-others;
  names = λ o name. listed o.properties name;
}
