use Rattle.std.proofs.Common.{ap}
use Rattle.nv_journal.specs.MemoryDisks.{MemoryDiskState}
use Rattle.nv_journal.proofs.Recalled.{write-refused, write-failed, write-done, image-put}
use Rattle.nv_journal.proofs.memory_disks.MemoryDiskDisk.write_at.Goals as goal

pub returns-then-not-has_room-clause-content : goal.returns-then-not-has_room-clause-content
returns-then-not-has_room-clause-content c = write-refused _ _ _ _ _ (ap (λ (s : MemoryDiskState). s.content) c.count.ensures.after) c.count.ensures.read

pub returns-then-fails-clause-content : goal.returns-then-fails-clause-content
returns-then-fails-clause-content c = write-failed _ _ _ _ _ (ap (λ (s : MemoryDiskState). s.content) c.note_write.ensures.after) c.note_write.ensures.read

pub put-requires-clause-image : goal.put-requires-clause-image
put-requires-clause-image c = image-put _ _ _ _ (ap (λ (s : MemoryDiskState). s.content) c.note_write.ensures.after) c.requires.place c.note_write.ensures.read

pub returns-clause-content : goal.returns-clause-content
returns-clause-content c =
    write-done _ _ _ _ _ (ap (λ (s : MemoryDiskState). s.content) c.note_write.ensures.after) (ap (λ (s : MemoryDiskState). s.content) c.put.ensures) c.requires.place c.note_write.ensures.read
