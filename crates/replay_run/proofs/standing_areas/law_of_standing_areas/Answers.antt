use Rattle.replay_run.proofs.standing_areas.law_of_standing_areas.Goals as goal

pub returns-clause-over : goal.returns-clause-over
returns-clause-over c = λ old new before after over. over.area

pub returns-clause-damaged : goal.returns-clause-damaged
returns-clause-damaged c = λ old new before after passed. passed.area

pub returns-clause-time : goal.returns-clause-time
returns-clause-time c = λ left old new before after passed. passed.area

pub returns-clause-silent : goal.returns-clause-silent
returns-clause-silent c = λ input old new before after silent answered. answered.area silent
