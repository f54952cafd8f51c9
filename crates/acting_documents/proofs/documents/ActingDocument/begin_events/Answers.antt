use Rattle.document_stages.specs.Acting.{with_first_events, first_focus}
use Rattle.acting_documents.proofs.DoingLemmas.{gives, prepared}
use Rattle.acting_documents.proofs.EndedLemmas.{begun-stays}
use Rattle.acting_documents.proofs.documents.ActingDocument.begin_events.Goals as goal

pub returns-clause-does : goal.returns-clause-does
returns-clause-does c =
    let d = c.self.inside in
    gives c.give_text.result (λ a. with_first_events (first_focus a) a) c.args.self.now d.host.stage c.prepare.new.self c.begin.new.self c.give_text.new.self d.host.modules d.programs.items d.handlers d.globals d.heap d.body c.args.out.now.items c.give_text.new.out.items
    c.self.view_is (prepared d.host.stage c.prepare.new.self c.none.result c.none.ensures c.prepare.ensures.acting) c.in_ok-begin.ensures.begun (λ a. begun-stays (first_focus a) a)
    c.give_text.ensures.acting c.give_text.ensures.given
