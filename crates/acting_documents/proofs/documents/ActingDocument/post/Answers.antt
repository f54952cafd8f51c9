use Rattle.acting_documents.proofs.DoingLemmas.{gives_posted, prepared}
use Rattle.acting_documents.proofs.documents.ActingDocument.post.Goals as goal

pub returns-clause-does : goal.returns-clause-does
returns-clause-does c =
    let d = c.self.inside in
    gives_posted c.give_text.result c.args.notice c.args.self.now d.host.stage c.prepare.new.self c.post_on.new.stage c.give_text.new.self d.host.modules d.programs.items d.handlers d.globals d.heap d.body c.args.out.now.items c.give_text.new.out.items
    c.self.view_is (prepared d.host.stage c.prepare.new.self c.none.result c.none.ensures c.prepare.ensures.acting) c.in_ok-post_on.ensures
    c.give_text.ensures.acting c.give_text.ensures.given
