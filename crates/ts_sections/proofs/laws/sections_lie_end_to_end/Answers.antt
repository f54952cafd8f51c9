use Rattle.ts_sections.proofs.PieceLemmas.{sections_of_piece-step}
use Rattle.ts_sections.proofs.laws.sections_lie_end_to_end.Goals as goal

pub returns : goal.returns
returns c = sections_of_piece-step
