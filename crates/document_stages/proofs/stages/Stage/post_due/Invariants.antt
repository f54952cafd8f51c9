use Rattle.std.proofs.Common.{◌≡◌}
use Rattle.document_stages.proofs.TimerLemmas.{HaveFired}
use Rattle.document_stages.proofs.stages.Stage.post_due.Given as goal

abbrev pub invariant-firings : goal.invariant-firings
invariant-firings l = record {
  fired : HaveFired l._firing l.moment l.initial.self.acting l.self.acting;
  worked : l.self.worked ≡ l.initial.self.worked;
}
