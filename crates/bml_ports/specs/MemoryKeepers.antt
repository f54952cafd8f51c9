-- What contracts see of a keeper in memory, of this project's own.
use Rattle.std.specs.Prelude.{ℕ, List, Some}
use Rattle.bml_ports.specs.declared.memory_calls.Calls.{Calls}
use Rattle.bml_ports.specs.Keepers.{KeeperState}
use Rattle.bml_ports.specs.MemoryCalls.{counter_of}

-- the bytes that are kept, the numbers of the calls that are to fail, and the loads and stores so far
pub record MemoryKeeperState : Type 0 where
  pub kept : List ℕ
  pub failing : List ℕ
  pub calls : Calls

abbrev pub told_by_keeper : MemoryKeeperState → KeeperState
told_by_keeper keeper = record { faults = counter_of keeper.calls; calls = keeper.calls.made; kept = Some keeper.kept }
