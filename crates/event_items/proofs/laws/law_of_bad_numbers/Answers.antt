use Rattle.event_items.proofs.MatchLemmas.{bad-component, bad-group, bad-id, bad-version}
use Rattle.event_items.proofs.laws.law_of_bad_numbers.Goals as goal

pub returns-clause-group : goal.returns-clause-group
returns-clause-group c = bad-group

pub returns-clause-id : goal.returns-clause-id
returns-clause-id c = bad-id

pub returns-clause-version : goal.returns-clause-version
returns-clause-version c = bad-version

pub returns-clause-component : goal.returns-clause-component
returns-clause-component c = bad-component
