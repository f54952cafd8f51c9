use Rattle.std.proofs.lemmas.List.Elements.{All-nil}
use Rattle.es_values.specs.Heaps.{HasSoundLength, new_object}
use Rattle.es_values.specs.Arrays.{array_of}
use Rattle.es_values.proofs.LengthLemmas.{element-below, lengths-add, lengths-elements, lengths-put, lengths-removed, lengths-reversed, made-below, new-below}
use Rattle.es_values.proofs.laws.law_of_lengths.Goals as goal

pub returns : goal.returns
returns c = record {
  below = λ o count index sound is small there. element-below c.law_of_decimals.ensures.number count o.properties index small (sound count is) there;
  nothing = All-nil HasSoundLength;
  added = λ heap array h. lengths-add heap (new_object array) h (new-below array);
  made = λ heap vs h. lengths-add heap (array_of vs) h (made-below vs);
  put = lengths-put;
  removed = lengths-removed;
  set = lengths-elements;
  reversed = lengths-reversed c.law_of_decimals.ensures.number;
}
