use Rattle.browser_objects.proofs.OutcomeLemmas.{new-objects}
use Rattle.browser_objects.proofs.laws.law_of_new_objects.Goals as goal

pub returns : goal.returns
returns c = new-objects
