use Rattle.page.specs.Remembering.{loads_of_turn}
use Rattle.page.proofs.PageLaws.{remembers_after, turned_after}
use Rattle.page.proofs.pages.Page.turn.Goals as goal

pub returns-clause-turned : goal.returns-clause-turned
returns-clause-turned c =
    turned_after c.args.modules.now c.make_dispatches-turned.new.modules c.args.self.now c.make_dispatches-turned.new.self c.spent_by.new.self c.args.out.now.items c.make_dispatches-turned.new.out.items c.make_dispatches-turned.result c.spent_by.result
    c.make_dispatches-turned.ensures.turned c.spent_by.ensures.same c.spent_by.ensures.page

pub returns-clause-remembered : goal.returns-clause-remembered
returns-clause-remembered c =
    remembers_after loads_of_turn c.args.modules.now c.args.self.now c.make_dispatches-turned.new.self c.spent_by.new.self c.make_dispatches-turned.result c.spent_by.result
    c.make_dispatches-turned.ensures.remembers c.spent_by.ensures.same c.spent_by.ensures.page
