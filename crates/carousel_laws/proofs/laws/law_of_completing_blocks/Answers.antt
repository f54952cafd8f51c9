use Rattle.carousel_laws.proofs.CompletingLemmas.{completed_module, held_after, not_held_before}
use Rattle.carousel_laws.proofs.laws.law_of_completing_blocks.Goals as goal

pub returns-clause-module_is : goal.returns-clause-module_is
returns-clause-module_is c = completed_module

pub returns-clause-before : goal.returns-clause-before
returns-clause-before c = not_held_before c.law_of_completed_modules.ensures.before c.law_of_completed_modules.ensures.change

pub returns-clause-held : goal.returns-clause-held
returns-clause-held c = held_after
