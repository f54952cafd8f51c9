use Rattle.es_values.proofs.HeldLemmas.{live-elements, sound-array, sound-first, sound-sized, sound-turned}
use Rattle.es_values.proofs.laws.law_of_arrays.Goals as goal

pub returns : goal.returns
returns c = record {
  made = sound-array;
  empty = sound-sized;
  elements = live-elements;
  set = sound-first;
  turned = sound-turned;
}
