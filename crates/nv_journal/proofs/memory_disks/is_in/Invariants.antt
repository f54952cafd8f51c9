use Rattle.std.proofs.Common.{take}
use Rattle.nv_journal.specs.Disks.{IsIn}
use Rattle.nv_journal.proofs.memory_disks.is_in.Given as goal

abbrev pub invariant-loop-extent : goal.invariant-loop-extent
invariant-loop-extent l = IsIn (take l.extent-index l.extents) l.place → ⊥
