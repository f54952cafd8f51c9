use Rattle.std.proofs.Common.{refl}
use Rattle.dom_tree.proofs.CopyLemmas.{put-last}
use Rattle.dom_tree.proofs.map_copies.push_id.Goals as goal

pub returns : goal.returns
returns c = put-last c.args.copy.now c.insert.new.self c.in_ok-id.id c.args.id.now c.args.node c.args.node c.in_ok-id.ensures refl c.requires c.in_ok-insert.ensures.entries
