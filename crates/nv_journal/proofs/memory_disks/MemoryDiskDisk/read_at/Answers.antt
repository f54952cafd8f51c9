use Rattle.std.proofs.Common.{ap}
use Rattle.nv_journal.specs.MemoryDisks.{MemoryDiskState}
use Rattle.nv_journal.proofs.Recalled.{read-refused}
use Rattle.nv_journal.proofs.memory_disks.MemoryDiskDisk.read_at.Goals as goal

pub returns-then-fails-clause-content : goal.returns-then-fails-clause-content
returns-then-fails-clause-content c = read-refused _ _ _ _ _ _ (ap (λ (s : MemoryDiskState). s.content) c.count.ensures.after) c.count.ensures.read
