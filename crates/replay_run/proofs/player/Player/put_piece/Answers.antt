use Rattle.std.proofs.Common.{arith}
use Rattle.replay_run.proofs.WritingLaws.{grows_none}
use Rattle.replay_run.proofs.player.Player.put_piece.Goals as goal

pub returns-in_err-keep_area-clause-later : goal.returns-in_err-keep_area-clause-later
returns-in_err-keep_area-clause-later g c = record {
  keeper = c.in_err-keep_area.ensures.faults;
  sink = omega arith;
  written = grows_none _;
}

pub returns-clause-later : goal.returns-clause-later
returns-clause-later g c = record {
  keeper = c.in_ok-keep_area.ensures.faults;
  sink = c.write_piece.ensures.writes;
  written = c.write_piece.ensures.grows;
}
