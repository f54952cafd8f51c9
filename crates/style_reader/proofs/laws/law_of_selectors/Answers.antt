use Rattle.style_reader.proofs.SelectorLaws.{selector-read, selector-spelled}
use Rattle.style_reader.proofs.laws.law_of_selectors.Goals as goal

pub returns : goal.returns
returns c = λ selector text. (selector-read selector text, selector-spelled selector text)
