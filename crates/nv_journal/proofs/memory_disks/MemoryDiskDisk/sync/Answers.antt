use Rattle.std.proofs.Common.{ap}
use Rattle.nv_journal.specs.MemoryDisks.{MemoryDiskState}
use Rattle.nv_journal.proofs.Recalled.{sync-refused, sync-done}
use Rattle.nv_journal.proofs.memory_disks.MemoryDiskDisk.sync.Goals as goal

pub returns-then-fails-clause-content : goal.returns-then-fails-clause-content
returns-then-fails-clause-content c = sync-refused _ _ _ (ap (λ (s : MemoryDiskState). s.content) c.count.ensures.after) c.count.ensures.read

pub returns-clause-content : goal.returns-clause-content
returns-clause-content c = sync-done _ _ (ap (λ (s : MemoryDiskState). s.content) c.settle.ensures.after) c.settle.ensures.read
