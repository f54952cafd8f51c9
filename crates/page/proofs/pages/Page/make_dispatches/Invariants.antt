use Rattle.std.proofs.Common.{◌≡◌}
use Rattle.page.proofs.PageLaws.{IsTurning}
use Rattle.page.proofs.pages.Page.make_dispatches.Given as goal

abbrev pub invariant-dispatches : goal.invariant-dispatches
invariant-dispatches l = record {
  turning : IsTurning l.initial.modules l.modules l._dispatch l.initial.self l.self l.initial.out.items l.out.items;
  clock : l.self.clock ≡ l.initial.self.clock;
}
