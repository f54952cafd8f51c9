use Rattle.style_cascade.proofs.InlineLaws.{inline-last}
use Rattle.style_cascade.proofs.laws.law_of_inline_values.Goals as goal

pub returns : goal.returns
returns c = inline-last
