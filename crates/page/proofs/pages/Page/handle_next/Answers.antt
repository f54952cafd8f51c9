use Rattle.std.proofs.Common.{rules}
use Rattle.page.specs.contracts.pages.Page.{the_view}
use Rattle.page.proofs.PageLaws.{alone, event_handled}
use Rattle.page.proofs.pages.Page.handle_next.Goals as goal

pub returns-clause-made : goal.returns-clause-made
returns-clause-made c =
    event_handled c.in-Some-take_event.event c.in_ok-launched.launched c.args.modules.now c.act.new.modules c.args.self.now (the_view c.self.inside) c.go_on.new.self c.in-Some.document c.take_event.new.self c.act.new.document c.act.new.browser
    c.args.out.now.items c.act.new.out.items c.self.view_is c.in-Some.is (alone c.self.inside.document c.self.inside.loading c.in-Some.document c.in-Some.is c.self.invariant.1) (search rules) (search rules) c.in_ok-launched.ensures.acts c.go_on.ensures
