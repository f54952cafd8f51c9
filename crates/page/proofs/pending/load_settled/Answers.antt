use Rattle.document_load.specs.ToldDocuments.{told_document}
use Rattle.page.proofs.pending.load_settled.Goals as goal

pub returns-clause-loads : goal.returns-clause-loads
returns-clause-loads c = record {
  document = told_document c.in_ok-document.document;
  provided = c.in_ok-document.ensures.provides;
  acting_is = c.in_ok-acting.ensures.loads;
}
