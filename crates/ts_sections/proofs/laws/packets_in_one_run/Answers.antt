use Rattle.ts_sections.proofs.SendingLaws.{one_run}
use Rattle.ts_sections.proofs.laws.packets_in_one_run.Goals as goal

pub returns : goal.returns
returns c = one_run
