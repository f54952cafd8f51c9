use Rattle.std.proofs.Common.{◌≡◌}
use Rattle.document_stages.specs.Acting.{message_post}
use Rattle.document_stages.proofs.ItemLemmas.{HaveBeenTold}
use Rattle.document_stages.proofs.stages.Stage.post_message.Given as goal

abbrev pub invariant-items : goal.invariant-items
invariant-items l = record {
  told : HaveBeenTold (message_post l.component l.message) l.place l.fn.self.acting l.self.acting;
  worked : l.self.worked ≡ l.fn.self.worked;
}
