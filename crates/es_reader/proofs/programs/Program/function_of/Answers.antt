use Rattle.std.proofs.Common.{◌≡◌, ◌∙◌, ap, sym}
use Rattle.es_reader.specs.Programs.{ToldProgram}
use Rattle.es_reader.specs.declared.programs.ProgramParts.{ProgramParts}
use Rattle.es_reader.specs.devices.Owners.{owner_at, owners_in}
use Rattle.es_reader.proofs.OwnerLemmas.{standing}
use Rattle.es_reader.proofs.programs.Program.function_of.Goals as goal

pub returns : goal.returns
returns c function =
    let told = c.args.self.now in
    let number = c.args.number in
    let is : c.owner_at.result ≡ owner_at (owners_in told.rows told.functions) number =
    c.owner_at.ensures
    ∙ ap (λ xs. owner_at xs number)
    (c.as_slice.ensures.value
    ∙ (ap (λ (parts : ProgramParts). parts.places.functions.items) c.deref.ensures ∙ c.self.invariant.0))
    ∙ ap (λ (p : ToldProgram). owner_at (owners_in p.rows p.functions) number) c.self.view_is in
    let stands = standing told number function in
    ((λ e. stands.0 (sym is ∙ e)), (λ in_function. is ∙ stands.1 in_function))
