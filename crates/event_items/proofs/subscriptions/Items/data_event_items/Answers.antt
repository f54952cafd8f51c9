use Rattle.std.proofs.Common.{◌≡◌, ◌∙◌, ◌<◌, List, length, get_or, ap, subst, arith}
use Rattle.event_items.specs.EventItems.{EventItem}
use Rattle.event_items.specs.Subscriptions.{ItemsState}
use Rattle.event_items.proofs.DataEventLemmas.{all-asked, among-few, none-yet, one-more-item}
use Rattle.event_items.proofs.subscriptions.Items.data_event_items.Goals as goal

pub items-init : goal.items-init
items-init c = none-yet c.args.self.now c.args.self.now.items c.new-nodes.result.items c.new-nodes.ensures.items

pub push_data_event_item-requires : goal.push_data_event_item-requires
push_data_event_item-requires c = among-few c.args.self.now _ c.items.nodes.items c.items.invariant

pub items-preserved : goal.items-preserved
items-preserved c =
    let same : c.deref-item-items.result.now ≡ c.args.self.now.items = c.deref-item-items.ensures.value ∙ ap (λ (s : ItemsState). s.items) c.self.view_is in
    c.in_ok-push_data_event_item.ensures {u = tt}
    ∙ one-more-item c.args.self.now c.args.self.now.items c.items.item-index c.item-item.result _
    (subst (λ (items : List EventItem). c.items.item-index < length items) same c.items-test.true)
    (c.item-item.is ∙ ap (λ (items : List EventItem). get_or items c.items.item-index c.item-item.result) same)
    c.items.invariant

pub returns : goal.returns
returns c =
    let same : c.deref-item-items.result.now ≡ c.args.self.now.items = c.deref-item-items.ensures.value ∙ ap (λ (s : ItemsState). s.items) c.self.view_is in
    let long : length c.deref-item-items.result.now ≡ length c.args.self.now.items = ap length same in
    all-asked c.args.self.now c.items.item-index _ (omega (arith, long)) c.items.invariant
