use Rattle.module_store.proofs.StayingLaws.{look_stays, section_keeps, map_keeps}
use Rattle.module_store.specs.Store.{with_section, with_map}
use Rattle.module_store.proofs.laws.law_of_found_resources.Goals as goal

pub returns-clause-sections : goal.returns-clause-sections
returns-clause-sections c = λ stored component section path bytes low found quiet.
    look_stays stored (with_section component section stored) path bytes (section_keeps c.law_of_messages.ensures stored component section path.component path.module low quiet) found

pub returns-clause-maps : goal.returns-clause-maps
returns-clause-maps c = λ stored components path bytes tag_low low apart found none.
    look_stays stored (with_map components stored) path bytes (map_keeps stored components path.component path.module tag_low low apart none) found
