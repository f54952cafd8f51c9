use Rattle.std.proofs.Common.{◌<◌, ◌^◌, List, sym, subst, arith}
use Rattle.std.specs.List.{All}
use Rattle.std.proofs.lemmas.List.Elements.{All-cons}
use Rattle.carousel_writer.specs.declared.files.FileModule.{FileModule}
use Rattle.carousel_writer.proofs.good_files.ids_have_type.Goals as goal

pub modules-preserved : goal.modules-preserved
modules-preserved c =
    let h = c.in-Some.ensures.cases in
    λ all. c.modules.invariant (subst (λ (l : List FileModule). All (λ file. file.id < 2 ^ 16) l) (sym h.0) (All-cons (λ file. file.id < 2 ^ 16) c.in-Some.first.now c.in-Some.behind.now c.id_has_type.ensures all))

pub returns : goal.returns
returns c = c.modules.invariant (λ k d below. absurd (omega (arith, below, c.in_default.ensures.cases)))
