use Rattle.std.proofs.Common.{◌≡◌, take}
use Rattle.page.specs.Standing.{Posts}
use Rattle.receiver_core.proofs.broadcast.post_gone.Given as goal

abbrev pub invariant-changes : goal.invariant-changes
invariant-changes l = record {
  posted : Posts (take l.component-index l.gone) l.initial.page l.page l.initial.out.items l.out.items;
  clock : l.page.clock ≡ l.initial.page.clock;
}
