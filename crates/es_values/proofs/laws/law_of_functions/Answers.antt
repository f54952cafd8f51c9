use Rattle.es_values.proofs.LawLemmas.{function-add, function-put, function-read, function-remove}
use Rattle.es_values.proofs.laws.law_of_functions.Goals as goal

pub returns : goal.returns
returns c = record {
  read = function-read;
  put = function-put;
  removed = function-remove;
  added = function-add;
}
