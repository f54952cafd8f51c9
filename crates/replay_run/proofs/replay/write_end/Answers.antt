use Rattle.replay_run.proofs.WritingLaws.{grows_none}
use Rattle.replay_run.proofs.replay.write_end.Goals as goal

pub returns-in_err-push_end_line-clause-grows : goal.returns-in_err-push_end_line-clause-grows
returns-in_err-push_end_line-clause-grows g c = grows_none _
