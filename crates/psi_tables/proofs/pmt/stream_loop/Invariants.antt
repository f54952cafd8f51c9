use Rattle.std.proofs.Common.{◌≡◌, length}
use Rattle.psi_tables.specs.Reading.{items_in, stream_at}
use Rattle.psi_tables.proofs.ItemLoop.{with_front}
use Rattle.psi_tables.proofs.pmt.stream_loop.Given as goal

abbrev pub invariant-loop-rest : goal.invariant-loop-rest
invariant-loop-rest l = items_in stream_at l.fn.bytes ≡ with_front l.streams.items (items_in stream_at l.rest)

abbrev pub decreases-loop-rest : goal.decreases-loop-rest
decreases-loop-rest l = length l.rest
