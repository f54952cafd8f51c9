use Rattle.std.proofs.Common.{◌≡◌, ℕ, ◌+◌, ◌<◌, ◌≤◌, get_or}
use Rattle.ts_packets.proofs.buffer.move_to_front.Given as goal

-- the bytes below this place are moved, the others as before
abbrev pub invariant-loop-place : goal.invariant-loop-place
invariant-loop-place l =
    ((k : ℕ) → k < l.place → get_or l.bytes k 0 ≡ get_or l.initial.bytes (l.start + k) 0)
    × ((k : ℕ) → l.place ≤ k → get_or l.bytes k 0 ≡ get_or l.initial.bytes k 0)
