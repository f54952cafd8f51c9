use Rattle.std.proofs.Common.{refl, ap, ◌∙◌}
use Rattle.style_cascade.specs.Keeping.{IsRight}
use Rattle.style_cascade.specs.devices.Tables.{cell_of}
use Rattle.style_cascade.specs.declared.states.State.{State}
use Rattle.style_cascade.proofs.ForgetLemmas.{right-less}
use Rattle.style_cascade.proofs.laws.law_of_states.Goals as goal

pub returns : goal.returns
unfolding IsRight
returns c = λ items before after styles same right. right-less items before after styles styles (record {
  rules = refl;
  said = refl;
  long = refl;
  room = refl;
  writes = right.writes;
  fewer = λ node state property value e. e;
  own = λ node state property value e. refl;
  above = λ node up state property value was inherits path parent below within e was_is. ap (λ (k : State). cell_of styles.kept.values up k property) (same up) ∙ was_is;
}) right
