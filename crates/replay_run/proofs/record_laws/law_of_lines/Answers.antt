use Rattle.replay_run.proofs.LineLaws.{written_line_feed, written_return, written_last}
use Rattle.replay_run.proofs.record_laws.law_of_lines.Goals as goal

pub returns-clause-ended : goal.returns-clause-ended
returns-clause-ended c = written_line_feed

pub returns-clause-with_return : goal.returns-clause-with_return
returns-clause-with_return c = written_return

pub returns-clause-last : goal.returns-clause-last
returns-clause-last c = written_last
