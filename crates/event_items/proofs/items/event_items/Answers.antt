use Rattle.std.proofs.Common.{◌∙◌, arith}
use Rattle.event_items.proofs.ItemLemmas.{all_read, one_more}
use Rattle.event_items.proofs.items.event_items.Goals as goal

pub nodes-preserved : goal.nodes-preserved
nodes-preserved c = record {
  found = rw (c.in_ok-push_item.ensures {u = tt}, c.nodes.invariant.found) (one_more c.args.base.now c.args.tree.now c.nodes.number (omega arith));
  all = c.nodes.invariant.all;
}

pub returns : goal.returns
returns c = c.nodes.invariant.found ∙ all_read c.args.base.now c.args.tree.now c.nodes.number (omega arith)
