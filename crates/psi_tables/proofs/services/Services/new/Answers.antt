use Rattle.std.proofs.Common.{◌≡◌, rules}
use Rattle.psi_tables.specs.History.{map_at_first}
use Rattle.psi_tables.proofs.HistoryLemmas.{stands_at_first}
use Rattle.psi_tables.proofs.services.Services.new.Goals as goal
use Rattle.psi_tables.proofs.services.Services.new.Goals.{in-Pid, in_default}

pub returns-clause-stands : goal.returns-clause-stands
returns-clause-stands c =
    let map : c.match-selection.map.items ≡ map_at_first c.match-selection.selection = elim c.match-selection.branch [ in-Pid w ↦ search rules | in_default w ↦ search rules ] in
    stands_at_first c.match-selection.selection c.match-selection.map.items map
