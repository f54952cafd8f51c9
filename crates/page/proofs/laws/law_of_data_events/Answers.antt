use Rattle.page.proofs.DataEventLaws.{event_comes_first, event_left, event_posted}
use Rattle.page.proofs.laws.law_of_data_events.Goals as goal

pub returns-clause-posts : goal.returns-clause-posts
returns-clause-posts c = event_posted

pub returns-clause-first : goal.returns-clause-first
returns-clause-first c = event_comes_first

pub returns-clause-waits : goal.returns-clause-waits
returns-clause-waits c = λ s t waits e. (event_left s t waits e).waits

pub returns-clause-document : goal.returns-clause-document
returns-clause-document c = λ s t waits e. (event_left s t waits e).document

pub returns-clause-wanted : goal.returns-clause-wanted
returns-clause-wanted c = λ s t waits e. (event_left s t waits e).wanted
