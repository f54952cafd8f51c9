use Rattle.std.proofs.Common.{Some, None, ap, ◌∙◌}
use Rattle.style_reader.specs.Declarations.{property_of}
use Rattle.style_reader.proofs.DeclarationLemmas.{declaration-bare, declaration-named, declaration-unnamed}
use Rattle.style_reader.proofs.declarations.declaration_of.Goals as goal

pub returns-in_err-name : goal.returns-in_err-name
returns-in_err-name c = rw c.from_residual.ensures (declaration-bare c.args.text.now (c.in_err-name.ensures {u = tt}).pieces)

pub returns-in_err-property : goal.returns-in_err-property
returns-in_err-property c =
    let none = c.in_err-property.ensures {u = tt} ∙ ap property_of c.trimmed.ensures in
    rw c.from_residual-in_err-property.ensures (declaration-unnamed c.args.text.now c.in_ok-name.name.now c.in_ok-name.value.now (c.in_ok-name.ensures {u = tt}).pieces none)

pub returns-in_err-value : goal.returns-in_err-value
returns-in_err-value c =
    let some = c.in_ok-property.ensures {u = tt} ∙ ap property_of c.trimmed.ensures in
    rw c.from_residual-in_err-value.ensures (declaration-named c.args.text.now c.in_ok-name.name.now c.in_ok-name.value.now c.in_ok-property.property None (c.in_ok-name.ensures {u = tt}).pieces some (c.in_err-value.ensures {u = tt}))

pub returns : goal.returns
returns c =
    let some = c.in_ok-property.ensures {u = tt} ∙ ap property_of c.trimmed.ensures in
    declaration-named c.args.text.now c.in_ok-name.name.now c.in_ok-name.value.now c.in_ok-property.property (Some c.in_ok-value.value) (c.in_ok-name.ensures {u = tt}).pieces some (c.in_ok-value.ensures {u = tt})
