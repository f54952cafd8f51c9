use Rattle.page.proofs.PageLaws.{change_as}
use Rattle.page.proofs.pages.Page.tell_change.Goals as goal

pub returns-clause-told : goal.returns-clause-told
returns-clause-told c =
    change_as c.args.component c.args.change.now c.args.self.now c.tell.new.self c.args.out.now.items c.push_change_line.new.out.items c.tell.new.out.items c.tell.result
    c.in_ok-push_change_line.ensures.ok c.tell.ensures.told
