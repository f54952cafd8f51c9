use Rattle.ts_sections.proofs.TakeLemmas.{TakesAll-unread}
use Rattle.ts_sections.proofs.piece.Piece.take.Goals as goal

pub returns-in-Unread : goal.returns-in-Unread
returns-in-Unread c = rw (← c.self.view_is, c.in-Unread.is) (TakesAll-unread _)
