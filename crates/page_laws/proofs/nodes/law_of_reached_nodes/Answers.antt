use Rattle.std.proofs.Common.{subst}
use Rattle.std.specs.Prelude.{IfSome, Option}
use Rattle.acting_documents.specs.Documents.{Document}
use Rattle.page_laws.specs.Soundness.{IsSoundDocument}
use Rattle.page_laws.proofs.ReachedLemmas.{reached-is}
use Rattle.page_laws.proofs.nodes.law_of_reached_nodes.Goals as goal

pub returns : goal.returns
returns c = record {
  nodes = λ read selection area inputs d node is reached.
      let sound = c.law_of_sound_receivers.ensures.behind read selection area inputs in
      reached-is d (subst (λ (o : Option Document). IfSome o IsSoundDocument) is sound.document) node reached;
}
