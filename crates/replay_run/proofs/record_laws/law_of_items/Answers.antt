use Rattle.replay_run.proofs.ItemLaws.{item_read, read_item, nothing_read, read_nothing}
use Rattle.replay_run.proofs.record_laws.law_of_items.Goals as goal

pub returns-clause-item : goal.returns-clause-item
returns-clause-item c = item_read

pub returns-clause-only_items : goal.returns-clause-only_items
returns-clause-only_items c = read_item

pub returns-clause-nothing : goal.returns-clause-nothing
returns-clause-nothing c = nothing_read

pub returns-clause-only_nothing : goal.returns-clause-only_nothing
returns-clause-only_nothing c = read_nothing
