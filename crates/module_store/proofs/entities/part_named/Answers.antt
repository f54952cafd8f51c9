use Rattle.std.proofs.Common.{◌∙◌, ℕ, length, ap}
use Rattle.std.specs.Prelude.{option_map}
use Rattle.std.specs.List.{slice_range}
use Rattle.module_store.proofs.ResourceLaws.{place_inside, sliced}
use Rattle.module_store.proofs.entities.part_named.Goals as goal

pub returns-clause-named : goal.returns-clause-named
returns-clause-named c = λ inside.
    let bytes = c.args.bytes.now in
    let start = c.in_ok-start.start in
    let end = c.in_ok-start.end in
    let place : ℕ × ℕ = (start, end) in
    let within = place_inside (length bytes) place c.args.name.now c.args.parts.now inside c.in_ok-start.ensures in
    sliced bytes start end c.get.result within c.get.ensures.lookup.0 ∙ ap (λ o. option_map (λ place. slice_range bytes place.0 place.1) o) c.in_ok-start.ensures
