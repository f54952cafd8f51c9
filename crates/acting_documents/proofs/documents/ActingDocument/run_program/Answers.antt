use Rattle.std.proofs.Common.{◌≤◌, length, subst, arith}
use Rattle.acting_documents.specs.devices.Kept.{KeptDocument}
use Rattle.acting_documents.proofs.DoingLemmas.{does_no_program}
use Rattle.acting_documents.proofs.documents.ActingDocument.run_program.Goals as goal

pub returns-else-place-len-clause-does : goal.returns-else-place-len-clause-does
returns-else-place-len-clause-does c =
    let h : length c.self.inside.programs.items ≤ c.args.place = omega arith in
    does_no_program c.args.name.now c.args.event c.args.place c.args.self.now c.do_nothing.new.self c.args.out.now.items
    (subst (λ (k : KeptDocument). length k.programs ≤ c.args.place) c.self.view_is h) (c.do_nothing.ensures.does c.args.out.now.items)
