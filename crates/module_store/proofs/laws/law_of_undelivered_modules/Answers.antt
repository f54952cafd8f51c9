use Rattle.module_store.proofs.UndeliveredLaws.{map_undelivered, section_undelivered}
use Rattle.module_store.proofs.laws.law_of_undelivered_modules.Goals as goal

pub returns-clause-sections : goal.returns-clause-sections
returns-clause-sections c = section_undelivered c.law_of_messages.ensures

pub returns-clause-maps : goal.returns-clause-maps
returns-clause-maps c = map_undelivered
