use Rattle.page.proofs.StandingLaws.{stands_in_sections, stands_in_maps}
use Rattle.page.proofs.laws.law_of_posted_changes.Goals as goal

pub returns-clause-sections : goal.returns-clause-sections
returns-clause-sections c = stands_in_sections c.law_of_found_paths.ensures.sections c.law_of_start_documents.ensures.sections

pub returns-clause-maps : goal.returns-clause-maps
returns-clause-maps c = stands_in_maps c.law_of_found_paths.ensures.maps c.law_of_start_documents.ensures.maps
