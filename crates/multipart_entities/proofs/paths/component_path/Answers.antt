use Rattle.std.proofs.Common.{refl, sym}
use Rattle.multipart_entities.proofs.FormLemmas.{component_path_in-one, component_path_in-more}
use Rattle.multipart_entities.proofs.paths.component_path.Goals as goal

pub returns-in_err-field : goal.returns-in_err-field
returns-in_err-field c = rw c.from_residual.ensures (sym (component_path_in-one c.args.codes.now c.in_err-field.ensures))

pub returns-in_err-component : goal.returns-in_err-component
returns-in_err-component c =
    rw (c.from_residual-in_err-component.ensures, component_path_in-more c.args.codes.now c.in_ok-field.field.now c.in_ok-field.rest.now c.in_ok-field.ensures, ← c.in_err-component.ensures) refl

pub returns : goal.returns
returns c =
    rw (component_path_in-more c.args.codes.now c.in_ok-field.field.now c.in_ok-field.rest.now c.in_ok-field.ensures, ← c.in_ok-component.ensures) c.module_path.ensures
