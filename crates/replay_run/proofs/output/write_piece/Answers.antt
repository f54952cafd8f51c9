use Rattle.std.proofs.Common.{arith}
use Rattle.replay_run.proofs.WritingLaws.{grows_kept, grows_written, none_written, rest_written}
use Rattle.replay_run.proofs.output.write_piece.Goals as goal

pub writes-init : goal.writes-init
writes-init g c = record { written = none_written _ _; later = omega arith }

pub writes-preserved : goal.writes-preserved
writes-preserved g c = record {
  written = rest_written _ _ _ _ _ _ c.writes.invariant.written c.in-Ok.ensures.bytes;
  later = omega (arith, c.writes.invariant.later, c.in-Ok.ensures.counted.later);
}

pub returns-clause-grows : goal.returns-clause-grows
returns-clause-grows g c = grows_written _ _ _ _ c.writes.invariant.written

pub returns-in-Err-clause-grows : goal.returns-in-Err-clause-grows
returns-in-Err-clause-grows g c =
    grows_kept _ _ _ _ _ c.in-Err.ensures.bytes c.writes.invariant.written
