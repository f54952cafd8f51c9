use Rattle.std.proofs.Common.{◌∙◌, sym, arith}
use Rattle.event_items.proofs.DataEventLemmas.{no-room, node-more}
use Rattle.event_items.proofs.subscriptions.Items.push_data_event_item.Goals as goal

pub returns-then-len-eq-MOST_DATA_EVENT_ITEMS : goal.returns-then-len-eq-MOST_DATA_EVENT_ITEMS
returns-then-len-eq-MOST_DATA_EVENT_ITEMS c = no-room c.args.nodes.now.items _ (omega arith)

pub returns : goal.returns
returns c =
    node-more c.args.nodes.now.items c.push.new.self.items c.node.result c.args.item.now.node _ c.requires (λ full. omega (arith, full))
    (sym c.fires_for_data_event.ensures ∙ c.if-not-fires_for_data_event.false) c.node.ensures c.in_ok-push.ensures.items
