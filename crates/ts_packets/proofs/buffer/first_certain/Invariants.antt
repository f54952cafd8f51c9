use Rattle.std.proofs.Common.{ℕ, ◌<◌}
use Rattle.ts_packets.specs.Cutter.{IsCertainAt}
use Rattle.ts_packets.proofs.buffer.first_certain.Given as goal

-- no packet is certain before this place
abbrev pub invariant-loop-place : goal.invariant-loop-place
invariant-loop-place l = (other : ℕ) → other < l.place → IsCertainAt (record { held = l.held; ended = l.ended }) other → ⊥
