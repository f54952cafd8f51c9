use Rattle.module_store.proofs.DataEventLaws.{event_told, moved_none, none_before, none_beside, none_without_dii, repeat_none, same_none}
use Rattle.module_store.proofs.laws.law_of_data_events.Goals as goal

pub returns-clause-events : goal.returns-clause-events
returns-clause-events c = λ stored section messages before after is force told differ other.
    event_told stored section messages before after is force told differ other

pub returns-clause-same : goal.returns-clause-same
returns-clause-same c = λ stored section messages before after is force told same.
    same_none stored section messages before after is force told same

pub returns-clause-moved : goal.returns-clause-moved
returns-clause-moved c = λ components stored differ. moved_none components stored differ

pub returns-clause-repeats : goal.returns-clause-repeats
returns-clause-repeats c = λ stored section messages before after is force told same.
    repeat_none stored section messages before after is force told same

pub returns-clause-first : goal.returns-clause-first
returns-clause-first c = λ component section stored none. none_before stored component section none

pub returns-clause-others : goal.returns-clause-others
returns-clause-others c = λ component section stored differ. none_beside stored component section differ

pub returns-clause-blocks : goal.returns-clause-blocks
returns-clause-blocks c = λ component section stored no_dii. none_without_dii stored component section no_dii
