use Rattle.std.proofs.Common.{◌≡◌, ℕ, ◌<◌, length, get_or}
use Rattle.nv_journal.specs.Disks.{IsIn}
use Rattle.nv_journal.proofs.memory_disks.image_of.Given as goal

abbrev pub invariant-loop-place : goal.invariant-loop-place
invariant-loop-place l = record {
  size : length l.image.items ≡ l.place;
  elsewhere : (k : ℕ) → k < l.place → k < length l.settled → (IsIn l.written k → ⊥) → get_or l.image.items k 0 ≡ get_or l.settled k 0;
}
