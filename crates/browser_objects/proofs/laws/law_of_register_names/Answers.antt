use Rattle.browser_objects.proofs.RegisterLemmas.{named, read}
use Rattle.browser_objects.proofs.laws.law_of_register_names.Goals as goal

pub returns : goal.returns
returns c = λ name number. (named c.law_of_indices.ensures.text name number, read c.law_of_indices.ensures.digits name number)
