use Rattle.std.proofs.Common.{◌≤◌, length}
use Rattle.replay_run.proofs.WritingLaws.{IsWrittenTo}
use Rattle.replay_run.proofs.output.write_piece.Given as goal

-- what is written is the piece without the rest
abbrev pub invariant-writes : goal.invariant-writes
invariant-writes g l = record {
  written : IsWrittenTo (g.S.Sink.told l.initial.out).written (g.S.Sink.told l.out).written
      l.piece l.rest;
  later : (g.S.Sink.told l.initial.out).writes.faults ≤ (g.S.Sink.told l.out).writes.faults;
}

abbrev pub decreases-writes : goal.decreases-writes
decreases-writes g l = length l.rest
