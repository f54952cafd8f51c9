use Rattle.multipart_entities.proofs.EndedLines.{delimiters-both, delimiters-inner, delimiters-last, delimiters-none}
use Rattle.multipart_entities.proofs.laws.law_of_delimiters.Goals as goal

pub returns-clause-both : goal.returns-clause-both
returns-clause-both c = delimiters-both

pub returns-clause-none : goal.returns-clause-none
returns-clause-none c = delimiters-none

pub returns-clause-inner : goal.returns-clause-inner
returns-clause-inner c = delimiters-inner

pub returns-clause-last : goal.returns-clause-last
returns-clause-last c = delimiters-last
