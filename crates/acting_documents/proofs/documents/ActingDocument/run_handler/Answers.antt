use Rattle.std.proofs.Common.{◌≡◌, ap, sym, ◌∙◌, None}
use Rattle.std.specs.Prelude.{option_and_then}
use Rattle.acting_documents.specs.Documents.{handler_in}
use Rattle.acting_documents.specs.Handling.{kind_of}
use Rattle.acting_documents.specs.devices.Kept.{KeptDocument}
use Rattle.acting_documents.proofs.DoingLemmas.{does_no_handler}
use Rattle.acting_documents.proofs.documents.ActingDocument.run_handler.Goals as goal

pub returns-in_default-clause-does : goal.returns-in_default-clause-does
returns-in_default-clause-does c =
    let out = c.args.out.now.items in
    let none : option_and_then (handler_in c.args.self.now.handlers c.args.node.0) (kind_of c.args.event) ≡ None =
    ap (λ (k : KeptDocument). option_and_then (handler_in k.handlers c.args.node.0) (kind_of c.args.event)) (sym c.self.view_is)
    ∙ (sym c.program_of.ensures ∙ c.in_default.is) in
    does_no_handler c.args.event c.args.node.0 c.args.self.now c.do_nothing.new.self out none (c.do_nothing.ensures.does out)
