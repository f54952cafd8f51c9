use Rattle.std.proofs.Common.{refl, sym, ◌∙◌}
use Rattle.multipart_entities.proofs.FormLemmas.{module_in-one, module_in-more}
use Rattle.multipart_entities.proofs.paths.module_path.Goals as goal

pub returns-in_err-module-in-None : goal.returns-in_err-module-in-None
returns-in_err-module-in-None c =
    rw (c.from_residual.ensures, module_in-one c.args.component c.args.codes.now c.in-None.ensures, ← c.in_err-module-in-None.ensures.value) refl

pub returns-in_ok-module-in-None : goal.returns-in_ok-module-in-None
returns-in_ok-module-in-None c =
    rw (module_in-one c.args.component c.args.codes.now c.in-None.ensures, ← c.in_ok-module-in-None.ensures.value) refl

pub returns-in-Some : goal.returns-in-Some
returns-in-Some c =
    c.resource_path.ensures ∙ sym (module_in-more c.args.component c.args.codes.now c.in-Some.field.now c.in-Some.rest.now c.in-Some.ensures)
