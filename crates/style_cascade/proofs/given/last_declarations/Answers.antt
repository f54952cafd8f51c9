use Rattle.std.proofs.Common.{List, sym, ap, ◌∙◌}
use Rattle.std.specs.Prelude.{is_some}
use Rattle.std.specs.Option.{option_or}
use Rattle.style_reader.specs.declared.declarations.Declaration.{Declaration}
use Rattle.style_cascade.specs.Candidates.{last_value}
use Rattle.style_cascade.proofs.GivenLemmas.{last-kept, last-pushed}
use Rattle.style_cascade.proofs.given.last_declarations.Goals as goal

pub declarations-preserved-in_ok-push : goal.declarations-preserved-in_ok-push
declarations-preserved-in_ok-push c = λ property.
    ap (λ (l : List Declaration). option_or (last_value property l) (last_value property c.in-Some.front.now)) (c.in_ok-push.ensures {u = tt}).items
    ∙ last-pushed property c.declarations.found.items c.in-Some.front.now c.declarations.rest.now c.in-Some.last.now (c.in-Some.ensures {u = tt}).cases.0 (ap (λ (l : List Declaration). is_some (last_value c.in-Some.last.now.property l)) (sym c.as_slice.ensures.value) ∙ sym (c.if-not-has_property.ensures {u = tt}))
    ∙ c.declarations.invariant property

pub declarations-preserved : goal.declarations-preserved
declarations-preserved c = λ property.
    last-kept property c.declarations.found.items c.in-Some.front.now c.declarations.rest.now c.in-Some.last.now (c.in-Some.ensures {u = tt}).cases.0 (ap (λ (l : List Declaration). is_some (last_value c.in-Some.last.now.property l)) (sym c.as_slice.ensures.value) ∙ sym (c.if-not-has_property.ensures {u = tt}))
    ∙ c.declarations.invariant property
