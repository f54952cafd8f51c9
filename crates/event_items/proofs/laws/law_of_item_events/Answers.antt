use Rattle.std.proofs.Common.{ap}
use Rattle.std.specs.Prelude.{◌&&◌}
use Rattle.event_items.specs.EventItems.{matches_message}
use Rattle.event_items.specs.Subscriptions.{is_subscribed}
use Rattle.event_items.proofs.laws.law_of_item_events.Goals as goal

pub returns-clause-first : goal.returns-clause-first
returns-clause-first c = λ base nodes. c.law_of_kept_firings.ensures.none

pub returns-clause-noted : goal.returns-clause-noted
returns-clause-noted c = λ node message s happenings stands. c.law_of_kept_firings.ensures.noted node message s.fired happenings stands

pub returns-clause-ended : goal.returns-clause-ended
returns-clause-ended c = λ node s happenings stands. c.law_of_kept_firings.ensures.forgotten node s.fired happenings stands

pub returns-clause-fires : goal.returns-clause-fires
returns-clause-fires c = λ component message s item happenings stands.
    ap (λ fires. is_subscribed item.node s && (matches_message component message item && fires))
    (c.law_of_kept_firings.ensures.fires item.node message s.fired happenings stands)
