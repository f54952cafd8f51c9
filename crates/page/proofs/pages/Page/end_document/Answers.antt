use Rattle.page.specs.contracts.pages.Page.{the_view}
use Rattle.page.proofs.DataEventLaws.{ends_one}
use Rattle.page.proofs.pages.Page.end_document.Goals as goal

pub returns-clause-ended : goal.returns-clause-ended
returns-clause-ended c =
    ends_one c.args.modules.now c.end_for_data_event.new.modules c.args.self.now (the_view c.self.inside) c.drop_document.new.self c.in-Some.document c.end_for_data_event.new.browser c.args.out.now.items c.end_for_data_event.new.out.items
    c.self.view_is c.in-Some.is c.in_ok-end_for_data_event.ensures.ends c.drop_document.ensures
