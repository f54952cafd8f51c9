use Rattle.receiver_core.proofs.WantedLaws.{each_turned, still_wanted}
use Rattle.receiver_core.proofs.laws.law_of_wanted_sections.Goals as goal

pub returns-clause-wanted : goal.returns-clause-wanted
returns-clause-wanted c = still_wanted c.law_of_unread_sections.ensures.service c.law_of_unread_sections.ensures.map

pub returns-clause-pieces : goal.returns-clause-pieces
returns-clause-pieces c = each_turned c.law_of_unread_sections.ensures.service c.law_of_unread_sections.ensures.map
