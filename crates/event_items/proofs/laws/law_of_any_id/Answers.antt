use Rattle.event_items.proofs.MatchLemmas.{any-id, any-version, own-group, own-id, own-version}
use Rattle.event_items.proofs.laws.law_of_any_id.Goals as goal

pub returns-clause-id : goal.returns-clause-id
returns-clause-id c = any-id

pub returns-clause-version : goal.returns-clause-version
returns-clause-version c = any-version

pub returns-clause-group : goal.returns-clause-group
returns-clause-group c = own-group

pub returns-clause-own_id : goal.returns-clause-own_id
returns-clause-own_id c = own-id

pub returns-clause-own_version : goal.returns-clause-own_version
returns-clause-own_version c = own-version
