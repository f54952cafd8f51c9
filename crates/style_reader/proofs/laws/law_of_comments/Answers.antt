use Rattle.style_reader.proofs.CommentLaws.{spelling-of, uncommented-is}
use Rattle.style_reader.proofs.laws.law_of_comments.Goals as goal

pub returns-clause-spelled : goal.returns-clause-spelled
returns-clause-spelled c = spelling-of

pub returns-clause-one : goal.returns-clause-one
returns-clause-one c = λ text spelling spelled. uncommented-is spelling text spelled
