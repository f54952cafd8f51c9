use Rattle.page.specs.contracts.pages.Page.{the_view}
use Rattle.page.proofs.PageLaws.{posts_after}
use Rattle.page.proofs.pages.Page.post_change.Goals as goal

pub returns-clause-posted : goal.returns-clause-posted
returns-clause-posted c =
    posts_after c.args.component c.args.change.now c.args.self.now (the_view c.self.inside) c.note_data_event.new.self c.tell_change-told.new.self c.spent_by.new.self c.follow.new.self c.args.out.now.items c.tell_change-told.new.out.items c.tell_change-told.result c.spent_by.result
    c.self.view_is c.follow.ensures c.note_data_event.ensures c.tell_change-told.ensures.told c.spent_by.ensures.same c.spent_by.ensures.page
