use Rattle.dom_tree.proofs.CopyLemmas.{put-last}
use Rattle.dom_tree.proofs.map_copies.push_attribute.Goals as goal

pub returns : goal.returns
returns c = put-last c.args.copy.now c.insert.new.self c.in_ok-name.name c.args.name.now c.in_ok-value.value c.args.value.now c.in_ok-name.ensures c.in_ok-value.ensures c.requires c.in_ok-insert.ensures.entries
