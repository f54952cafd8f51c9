use Rattle.ts_sections.proofs.TakeLemmas.{sections_of_open-end}
use Rattle.ts_sections.proofs.piece.Piece.abandon.Goals as goal

pub returns-clause-ended : goal.returns-clause-ended
returns-clause-ended c = rw (← c.self.view_is) (sections_of_open-end _ _ c.self.invariant)
