use Rattle.replay_run.proofs.CommandLaws.{command_written, command_read}
use Rattle.replay_run.proofs.word_laws.law_of_commands.Goals as goal

pub returns-clause-written : goal.returns-clause-written
returns-clause-written c = command_written

pub returns-clause-read : goal.returns-clause-read
returns-clause-read c = command_read
