use Rattle.page_laws.proofs.ClockLemmas.{turn-clock, turn-service}
use Rattle.page_laws.proofs.laws.law_of_clocks.Goals as goal

pub returns : goal.returns
returns c = record { clock = turn-clock; service = turn-service }
