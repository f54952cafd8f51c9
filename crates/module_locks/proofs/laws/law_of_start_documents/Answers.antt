use Rattle.std.proofs.Common.{ap}
use Rattle.std.specs.Option.{option_map_or}
use Rattle.module_store.specs.Copies.{KeptModule}
use Rattle.module_store.specs.Resources.{start_component}
use Rattle.module_locks.specs.Locks.{kept_on, start_path_as}
use Rattle.module_locks.proofs.KeptLaws.{start_behind}
use Rattle.module_locks.proofs.laws.law_of_start_documents.Goals as goal

pub returns-clause-sections : goal.returns-clause-sections
returns-clause-sections c = λ modules component section no_event quiet.
    start_behind modules component section (λ still. c.law_of_start_paths.ensures.sections modules.stored component section still) no_event quiet

pub returns-clause-maps : goal.returns-clause-maps
returns-clause-maps c = λ modules components apart stays.
    ap (λ path. option_map_or (λ (kept : KeptModule). start_path_as kept.is_entity) (kept_on modules.locks start_component 0) path)
    (c.law_of_start_paths.ensures.maps modules.stored components apart stays)
