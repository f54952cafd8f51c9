use Rattle.std.proofs.Common.{◌≤◌, length, take}
use Rattle.nv_journal.specs.Disks.{furthest}
use Rattle.nv_journal.specs.Slots.{journal_length}
use Rattle.nv_journal.proofs.memory_disks.greatest_length.Given as goal

abbrev pub invariant-loop-extent : goal.invariant-loop-extent
invariant-loop-extent l = record {
  least : length l.settled ≤ l.greatest;
  most : l.greatest ≤ furthest (length l.settled) (take l.extent-index l.written);
  fits : l.greatest ≤ journal_length;
}
