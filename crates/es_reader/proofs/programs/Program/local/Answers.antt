use Rattle.std.proofs.Common.{◌≡◌, ◌∙◌, ap, sym}
use Rattle.es_reader.specs.Programs.{ToldProgram}
use Rattle.es_reader.specs.declared.programs.ProgramParts.{ProgramParts}
use Rattle.es_reader.specs.devices.Owners.{owner_at, places_in}
use Rattle.es_reader.proofs.LocalLemmas.{locals-are-placed}
use Rattle.es_reader.proofs.programs.Program.local.Goals as goal

pub returns : goal.returns
returns c place =
    let told = c.args.self.now in
    let number = c.args.number in
    let is : c.owner_at.result ≡ owner_at (places_in told.rows told.functions) number =
    c.owner_at.ensures
    ∙ ap (λ xs. owner_at xs number)
    (c.as_slice.ensures.value
    ∙ (ap (λ (parts : ProgramParts). parts.places.locals.items) c.deref.ensures ∙ c.self.invariant.1))
    ∙ ap (λ (p : ToldProgram). owner_at (places_in p.rows p.functions) number) c.self.view_is in
    let placed = locals-are-placed told number place in
    ((λ e. placed.0 (sym is ∙ e)), (λ local. is ∙ placed.1 local))
