use Rattle.acting_documents.specs.Handling.{message_effect}
use Rattle.page.proofs.PageLaws.{told_after}
use Rattle.page.proofs.pages.Page.post_message.Goals as goal

pub returns-clause-posted : goal.returns-clause-posted
returns-clause-posted c =
    told_after (message_effect c.args.component c.args.message.now) c.args.self.now c.tell-told.new.self c.spent_by.new.self c.args.out.now.items c.tell-told.new.out.items c.tell-told.result c.spent_by.result
    c.tell-told.ensures.told c.spent_by.ensures.same c.spent_by.ensures.page
