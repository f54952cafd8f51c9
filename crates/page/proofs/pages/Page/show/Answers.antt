use Rattle.std.proofs.Common.{◌≡◌, ◌+◌, ap, arith}
use Rattle.page.specs.Standing.{PageState, page_owed}
use Rattle.page.proofs.PageLaws.{makes_after, shown_step}
use Rattle.page.proofs.pages.Page.show.Goals as goal

pub returns-clause-shown : goal.returns-clause-shown
returns-clause-shown c =
    makes_after shown_step c.args.self.now c.push_display-shown.new.self c.spent_by.new.self c.args.out.now.items c.push_display-shown.new.out.items c.push_display-shown.result c.spent_by.result
    c.push_display-shown.ensures.shown c.spent_by.ensures.same c.spent_by.ensures.page

pub returns-clause-worked : goal.returns-clause-worked
returns-clause-worked c =
    let spent : c.spent_by.new.self.worked ≡ c.push_display-shown.new.self.worked = ap (λ (p : PageState). p.worked) c.spent_by.ensures.page in
    omega (arith, c.push_display-shown.ensures.worked)

pub returns-clause-owed : goal.returns-clause-owed
returns-clause-owed c =
    let spent : c.spent_by.new.self.worked + page_owed c.spent_by.new.self ≡ c.push_display-shown.new.self.worked + page_owed c.push_display-shown.new.self = ap (λ (p : PageState). p.worked + page_owed p) c.spent_by.ensures.page in
    omega (arith, c.push_display-shown.ensures.owed)
