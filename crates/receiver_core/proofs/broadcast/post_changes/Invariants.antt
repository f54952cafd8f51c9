use Rattle.std.proofs.Common.{◌≡◌, take}
use Rattle.page.specs.Standing.{Posts}
use Rattle.receiver_core.proofs.PostingLaws.{in_component}
use Rattle.receiver_core.proofs.broadcast.post_changes.Given as goal

abbrev pub invariant-changes : goal.invariant-changes
invariant-changes l = record {
  posted : Posts (in_component l.component (take l.change-index l.changes)) l.initial.page l.page l.initial.out.items l.out.items;
  clock : l.page.clock ≡ l.initial.page.clock;
}
