use Rattle.es_values.proofs.HeldLemmas.{function-added, function-elements, function-reversed, function-set, function-sized}
use Rattle.es_values.proofs.laws.law_of_array_functions.Goals as goal

pub returns : goal.returns
returns c = record {
  made = λ heap number values. function-added heap values number;
  empty = function-sized;
  elements = function-elements;
  set = function-set;
  turned = function-reversed;
}
