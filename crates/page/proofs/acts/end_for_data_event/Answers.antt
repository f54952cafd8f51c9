use Rattle.acting_documents.specs.Beginnings.{data_event_effect}
use Rattle.page.proofs.ActLemmas.{ends_lent}
use Rattle.page.proofs.acts.end_for_data_event.Goals as goal

pub returns-clause-ends : goal.returns-clause-ends
returns-clause-ends c =
    ends_lent data_event_effect c.args.clock c.args.document.now c.exchange.new.document c.end_for_data_event-ended.new.self (record { browser = c.args.browser.now; modules = c.args.modules.now })
    (record { browser = c.exchange-2.new.browser; modules = c.exchange-2.new.modules }) c.args.out.now.items c.end_for_data_event-ended.new.out.items c.end_for_data_event-ended.result
    c.exchange.ensures.lent c.exchange-2.ensures.browser c.exchange-2.ensures.modules c.end_for_data_event-ended.ensures.does
