use Rattle.std.proofs.Common.{arith}
use Rattle.module_store.proofs.StayingLaws.{start_stays, section_informs, map_informs}
use Rattle.module_store.specs.Resources.{start_component}
use Rattle.module_store.specs.Store.{with_section, with_map}
use Rattle.module_store.proofs.laws.law_of_start_paths.Goals as goal

pub returns-clause-sections : goal.returns-clause-sections
returns-clause-sections c = λ stored component section quiet.
    start_stays stored (with_section component section stored) (section_informs c.law_of_messages.ensures stored component section start_component 0 (omega arith) quiet)

pub returns-clause-maps : goal.returns-clause-maps
returns-clause-maps c = λ stored components apart none.
    start_stays stored (with_map components stored) (map_informs stored components start_component 0 (omega arith) (omega arith) apart none)
