use Rattle.std.proofs.Common.{ap, refl}
use Rattle.page.specs.contracts.pages.Page.{the_view}
use Rattle.page.proofs.PageLaws.{displayed_with, displayed_without, owed-shown, owed-still, worked-shown, worked-still}
use Rattle.page.proofs.pages.Page.push_display.Goals as goal
use Rattle.page.proofs.pages.Page.push_display.Goals.{in-Some, in-None}

pub returns-clause-shown : goal.returns-clause-shown
returns-clause-shown c =
    elim c.match-self.branch [
      | in-Some w ↦
          displayed_with c.args.self.now (the_view c.self.inside) (the_view c.match-self.self-inside) w.in-Some.document w.show.new.self c.args.out.now.items c.push_clock_line.new.out.items w.show.new.out.items c.match-self.out.items
          w.show.result c.match-self.result c.self.view_is w.in-Some.is (ap the_view w.self-inside-is) c.in_ok-push_clock_line.ensures.ok w.show.ensures.shown w.show.ensures.kept w.show.ensures.grows (cc) w.result-is
      | in-None w ↦
          displayed_without c.args.self.now (the_view c.self.inside) (the_view c.match-self.self-inside) c.args.out.now.items c.match-self.out.items c.match-self.result
          c.self.view_is w.in-None.is (ap the_view w.self-inside-is) (cc c.in_ok-push_clock_line.ensures.ok)
    ]

pub returns-clause-worked : goal.returns-clause-worked
returns-clause-worked c =
    elim c.match-self.branch [
      | in-Some w ↦
          worked-shown c.args.self.now (the_view c.self.inside) (the_view c.match-self.self-inside) w.in-Some.document w.show.new.self
          c.self.view_is refl w.in-Some.is (ap the_view w.self-inside-is) w.show.ensures.worked
      | in-None w ↦ worked-still c.args.self.now (the_view c.self.inside) (the_view c.match-self.self-inside) c.self.view_is (ap the_view w.self-inside-is)
    ]

pub returns-clause-owed : goal.returns-clause-owed
returns-clause-owed c =
    elim c.match-self.branch [
      | in-Some w ↦
          owed-shown c.args.self.now (the_view c.self.inside) (the_view c.match-self.self-inside) w.in-Some.document w.show.new.self
          c.self.view_is refl w.in-Some.is (ap the_view w.self-inside-is) w.show.ensures.owed
      | in-None w ↦ owed-still c.args.self.now (the_view c.self.inside) (the_view c.match-self.self-inside) c.self.view_is (ap the_view w.self-inside-is)
    ]
