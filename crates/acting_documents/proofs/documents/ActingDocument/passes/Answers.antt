use Rattle.std.proofs.Common.{ap, subst, sym, ◌∙◌}
use Rattle.dom_tree.specs.NodeNumbers.{number_of}
use Rattle.acting_documents.specs.devices.Kept.{IsDocument, KeptDocument}
use Rattle.acting_documents.proofs.DoingLemmas.{kept_in, no_element, passes_by, passes_none}
use Rattle.acting_documents.proofs.documents.ActingDocument.passes.Goals as goal

pub returns-in_default-clause-passes : goal.returns-in_default-clause-passes
returns-in_default-clause-passes c = λ e k.
    let d = c.self.inside in
    let old = kept_in d.host.stage d.host.modules d.programs.items d.handlers d.globals d.heap d.body in
    passes_none old e c.args.key (subst (λ (x : KeptDocument). IsDocument x e) (sym c.self.view_is) k) (ap number_of c.in_default.is)

pub returns-then-not-is_element-clause-passes : goal.returns-then-not-is_element-clause-passes
returns-then-not-is_element-clause-passes c = λ e k.
    let d = c.self.inside in
    let old = kept_in d.host.stage d.host.modules d.programs.items d.handlers d.globals d.heap d.body in
    absurd (no_element old e c.in-Some.body c.is_element.result (subst (λ (x : KeptDocument). IsDocument x e) (sym c.self.view_is) k) (ap number_of c.in-Some.is) c.is_element.ensures c.if-not-is_element.true)

pub returns-clause-passes : goal.returns-clause-passes
returns-clause-passes c = λ e k.
    let d = c.self.inside in
    let old = kept_in d.host.stage d.host.modules d.programs.items d.handlers d.globals d.heap d.body in
    c.passes.ensures.passes ∙ passes_by old e c.in-Some.body c.args.key (subst (λ (x : KeptDocument). IsDocument x e) (sym c.self.view_is) k) (ap number_of c.in-Some.is)
