use Rattle.std.proofs.Common.{◌∙◌, ap, arith, sym}
use Rattle.std.specs.Prelude.{option_map}
use Rattle.std.specs.Option.{option_copied}
use Rattle.std.specs.Map.{lookup}
use Rattle.bml_bytes.specs.Words.{is_same}
use Rattle.es_values.proofs.SlotLemmas.{found-none, place-within, read-slot}
use Rattle.es_values.proofs.property_map.Properties.get.Goals as goal

pub index-requires : goal.index-requires
index-requires c =
    let within = place-within c.args.name.now c.self.inside.slots.items c.in_ok-place.place.now (sym (c.self.invariant.0.found c.args.name.now) ∙ sym c.in_ok-place.ensures.value) in
    omega arith

pub returns-in_err-place : goal.returns-in_err-place
returns-in_err-place c =
    let name = c.args.name.now in
    ap option_copied c.from_residual.ensures
    ∙ (sym (found-none name c.self.inside.slots.items (sym (c.self.invariant.0.found name) ∙ sym c.in_err-place.ensures.value))
    ∙ ap (lookup (is_same name)) c.self.view_is)

pub returns-in-Some : goal.returns-in-Some
returns-in-Some c =
    let name = c.args.name.now in
    sym (ap (option_map (λ p. p.1)) c.in-Some.is)
    ∙ (sym (read-slot c.self.inside.places.entries c.self.inside.slots.items name c.in_ok-place.place.now c.index.result.now c.self.invariant.0 c.in_ok-place.ensures.value c.index.ensures)
    ∙ ap (lookup (is_same name)) c.self.view_is)

pub returns-in-None : goal.returns-in-None
returns-in-None c =
    let name = c.args.name.now in
    sym (ap (option_map (λ p. p.1)) c.in-None.is)
    ∙ (sym (read-slot c.self.inside.places.entries c.self.inside.slots.items name c.in_ok-place.place.now c.index.result.now c.self.invariant.0 c.in_ok-place.ensures.value c.index.ensures)
    ∙ ap (lookup (is_same name)) c.self.view_is)
