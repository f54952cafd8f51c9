use Rattle.std.proofs.Common.{◌≡◌}
use Rattle.document_stages.specs.Acting.{lock_post}
use Rattle.document_stages.proofs.ItemLemmas.{HaveBeenTold}
use Rattle.document_stages.proofs.stages.Stage.post_locked.Given as goal

abbrev pub invariant-items : goal.invariant-items
invariant-items l = record {
  told : HaveBeenTold (lock_post l.component l.«module») l.place l.fn.self.acting l.self.acting;
  worked : l.self.worked ≡ l.fn.self.worked;
}
