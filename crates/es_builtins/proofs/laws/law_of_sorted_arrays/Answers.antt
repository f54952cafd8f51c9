use Rattle.std.proofs.Common.{refl}
use Rattle.es_values.specs.Arrays.{elements_of}
use Rattle.es_builtins.specs.Arrays.{sorted}
use Rattle.es_builtins.proofs.laws.law_of_sorted_arrays.Goals as goal

pub returns : goal.returns
returns c = record {
  elements = λ heap object place small. c.law_of_elements.ensures.set object (sorted heap (elements_of object)) place small;
  size = λ heap object. refl;
}
