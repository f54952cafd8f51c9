use Rattle.carousel_writer.proofs.laws.entity_laws_below.Goals as goal

pub returns : goal.returns
returns c = record {
  own = c.law_of_own_codes.ensures.codes;
  same = c.law_of_same_texts.ensures;
  lines = c.law_of_ended_lines.ensures.both;
  one = c.law_of_ended_lines.ensures.one;
  both = c.law_of_delimiters.ensures.both;
  none = c.law_of_delimiters.ensures.none;
  inner = c.law_of_delimiters.ensures.inner;
  last = c.law_of_delimiters.ensures.last;
}
