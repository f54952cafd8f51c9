use Rattle.focus_keys.specs.Defaults.{Action, action_of}
use Rattle.document_stages.specs.Acting.{Acting, with_action}
use Rattle.acting_documents.proofs.DoingLemmas.{gives, prepared}
use Rattle.acting_documents.proofs.EndedLemmas.{acted-stays}
use Rattle.acting_documents.proofs.documents.ActingDocument.act_by_default.Goals as goal

pub returns-clause-does : goal.returns-clause-does
returns-clause-does c =
    let d = c.self.inside in
    let action : Acting → Action = λ a. action_of a.tree c.args.key in
    gives c.give_text.result (λ a. with_action (action a) a) c.args.self.now d.host.stage c.prepare.new.self c.act_by_default.new.self c.give_text.new.self d.host.modules d.programs.items d.handlers d.globals d.heap d.body c.args.out.now.items c.give_text.new.out.items
    c.self.view_is (prepared d.host.stage c.prepare.new.self c.none.result c.none.ensures c.prepare.ensures.acting) c.in_ok-act_by_default.ensures.acted (λ a. acted-stays (action a) a)
    c.give_text.ensures.acting c.give_text.ensures.given
