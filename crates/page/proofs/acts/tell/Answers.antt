use Rattle.acting_documents.specs.Notices.{notice_effect}
use Rattle.page.proofs.ActLemmas.{acts_apart, notice_launches}
use Rattle.page.proofs.acts.tell.Goals as goal

pub returns-clause-acts : goal.returns-clause-acts
returns-clause-acts c =
    acts_apart (notice_effect c.args.notice) c.args.clock c.args.document.now c.exchange.new.self c.tell-told.new.self c.exchange-2.new.self c.args.browser.now c.exchange.new.browser c.exchange-2.new.browser
    c.args.out.now.items c.tell-told.new.out.items c.tell-told.result (notice_launches c.args.notice) c.exchange.ensures.lent c.exchange-2.ensures.lent c.exchange-2.ensures.given_back c.tell-told.ensures.does
