use Rattle.ts_sections.proofs.SendingLaws.{pieces-marked}
use Rattle.ts_sections.proofs.laws.pieces_behind_their_marks.Goals as goal

pub returns : goal.returns
returns c = pieces-marked
