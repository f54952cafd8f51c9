use Rattle.page.specs.Inputs.{due_step}
use Rattle.page.proofs.PageLaws.{makes_after}
use Rattle.page.proofs.pages.Page.post_due.Goals as goal

pub returns-clause-moved : goal.returns-clause-moved
returns-clause-moved c =
    makes_after (due_step c.args.moment) c.args.self.now c.move_to-moved.new.self c.spent_by.new.self c.args.out.now.items c.move_to-moved.new.out.items c.move_to-moved.result c.spent_by.result
    c.move_to-moved.ensures.moved c.spent_by.ensures.same c.spent_by.ensures.page
