use Rattle.std.proofs.Common.{List, refl, sym, subst}
use Rattle.std.proofs.lemmas.Result.{on_ok_weaker}
use Rattle.std.specs.List.{AllZip}
use Rattle.es_reader.specs.Programs.{Tells, ToldProgram}
use Rattle.acting_documents.specs.devices.Doings.{Does}
use Rattle.acting_documents.specs.devices.Kept.{KeptDocument}
use Rattle.acting_documents.specs.Runs.{run_program as spec_run_program}
use Rattle.acting_documents.proofs.DoingLemmas.{does_program, kept_in, leaves_in, steps-are}
use Rattle.acting_documents.proofs.documents.ActingDocument.run_there.Goals as goal

pub returns-clause-does : goal.returns-clause-does
returns-clause-does c =
    let d = c.self.inside in
    let old = kept_in d.host.stage d.host.modules d.programs.items d.handlers d.globals d.heap d.body in
    let new = kept_in c.give_text.new.self c.run.new.host.modules d.programs.items d.handlers c.run.new.globals c.run.new.heap d.body in
    let after = c.push_stop_line.new.out.items in
    let effect = spec_run_program c.args.name.now c.args.event c.args.place in
    on_ok_weaker {Q = Does effect c.args.self.now new c.args.out.now.items after} c.push_stop_line.result (λ told.
    subst (λ (k : KeptDocument). Does effect k new c.args.out.now.items after) c.self.view_is
    (does_program c.args.name.now c.args.event c.args.place 100000 old new (record { stage = c.prepare.new.self; modules = d.host.modules }) c.run.new.host c.in_ok-outcome.outcome c.args.out.now.items c.give_text.new.out.items after
    c.prepare.ensures.acting refl (λ sources told. c.in_ok-outcome.ensures.ends sources (subst (λ (programs : List ToldProgram). AllZip Tells sources programs) (sym c.as_slice.ensures.value) told)) steps-are
    (leaves_in c.give_text.new.self c.run.new.host.modules c.run.new.host.stage.acting d.programs.items d.handlers c.run.new.globals c.run.new.heap d.body c.in_ok-give_text.ensures.acting) refl
    c.in_ok-give_text.ensures.given told))
    c.push_stop_line.ensures.ok
