use Rattle.std.proofs.Common.{◌∙◌, arith}
use Rattle.bml_bytes.specs.Codes.{codes}
use Rattle.event_items.proofs.SubscriptionLemmas.{all_looked_at, one_more}
use Rattle.event_items.proofs.subscriptions.subscribed_nodes.Goals as goal

pub starts_subscribed-starts-requires-clause-name : goal.starts_subscribed-starts-requires-clause-name
unfolding codes
starts_subscribed-starts-requires-clause-name c = c.in_ok-name.ensures {u = tt}

pub nodes-preserved : goal.nodes-preserved
nodes-preserved c = record {
  found = rw (c.in_ok-push.ensures.items, c.nodes.invariant.found, c.starts_subscribed-starts.ensures) (one_more c.args.tree.now c.nodes.number (omega arith));
  all = c.nodes.invariant.all;
}

pub returns : goal.returns
returns c = c.nodes.invariant.found ∙ all_looked_at c.args.tree.now c.nodes.number (omega arith)
