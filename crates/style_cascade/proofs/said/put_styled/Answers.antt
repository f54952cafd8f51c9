use Rattle.std.proofs.Common.{List, ap, ◌∙◌}
use Rattle.style_reader.specs.declared.rules.Rule.{Rule}
use Rattle.style_cascade.specs.Candidates.{declared_value}
use Rattle.style_cascade.specs.declared.said.Said.{Said}
use Rattle.style_cascade.specs.declared.states.State.TheVariants as states
use Rattle.style_cascade.proofs.SaidLemmas.{AreBest, best-fits, best-said, put-each, put-others}
use Rattle.style_cascade.proofs.said.put_styled.Goals as goal

pub put-requires-clause-fits : goal.put-requires-clause-fits
put-requires-clause-fits c =
    let said : Said = record { inline = c.in_ok-inline.inline; declared = c.in_ok-declared.declared } in
    let best : AreBest c.args.sheet.now c.args.styled.now said = record {
      inline = λ state property. (c.in_ok-inline.ensures {u = tt}) state property ∙ ap (λ (rules : List Rule). declared_value rules c.args.styled.now.subject state property) c.as_slice.ensures.all;
      declared = λ state property. (c.in_ok-declared.ensures {u = tt}).best state property;
    } in
    best-fits c.args.sheet.now c.args.styled.now said best c.as_slice.ensures.fitting (c.in_ok-declared.ensures {u = tt}).fits states.Normal

pub put-requires-2-clause-fits : goal.put-requires-2-clause-fits
put-requires-2-clause-fits c =
    let said : Said = record { inline = c.in_ok-inline.inline; declared = c.in_ok-declared.declared } in
    let best : AreBest c.args.sheet.now c.args.styled.now said = record {
      inline = λ state property. (c.in_ok-inline.ensures {u = tt}) state property ∙ ap (λ (rules : List Rule). declared_value rules c.args.styled.now.subject state property) c.as_slice.ensures.all;
      declared = λ state property. (c.in_ok-declared.ensures {u = tt}).best state property;
    } in
    best-fits c.args.sheet.now c.args.styled.now said best c.as_slice.ensures.fitting (c.in_ok-declared.ensures {u = tt}).fits states.Focus

pub put-requires-3-clause-fits : goal.put-requires-3-clause-fits
put-requires-3-clause-fits c =
    let said : Said = record { inline = c.in_ok-inline.inline; declared = c.in_ok-declared.declared } in
    let best : AreBest c.args.sheet.now c.args.styled.now said = record {
      inline = λ state property. (c.in_ok-inline.ensures {u = tt}) state property ∙ ap (λ (rules : List Rule). declared_value rules c.args.styled.now.subject state property) c.as_slice.ensures.all;
      declared = λ state property. (c.in_ok-declared.ensures {u = tt}).best state property;
    } in
    best-fits c.args.sheet.now c.args.styled.now said best c.as_slice.ensures.fitting (c.in_ok-declared.ensures {u = tt}).fits states.Active

pub returns-clause-here : goal.returns-clause-here
returns-clause-here c =
    let said : Said = record { inline = c.in_ok-inline.inline; declared = c.in_ok-declared.declared } in
    let best : AreBest c.args.sheet.now c.args.styled.now said = record {
      inline = λ state property. (c.in_ok-inline.ensures {u = tt}) state property ∙ ap (λ (rules : List Rule). declared_value rules c.args.styled.now.subject state property) c.as_slice.ensures.all;
      declared = λ state property. (c.in_ok-declared.ensures {u = tt}).best state property;
    } in
    λ state property.
    put-each said c.args.node.0 c.args.table.now c.put.new.table c.put-2.new.table c.put-3.new.table
    (record { here = c.put.ensures.here; others = c.put.ensures.others })
    (record { here = c.put-2.ensures.here; others = c.put-2.ensures.others })
    (record { here = c.put-3.ensures.here; others = c.put-3.ensures.others })
    state property
    ∙ best-said c.args.sheet.now c.args.styled.now said best state property

pub returns-clause-others : goal.returns-clause-others
returns-clause-others c =
    put-others (record { inline = c.in_ok-inline.inline; declared = c.in_ok-declared.declared }) c.args.node.0 c.args.table.now c.put.new.table c.put-2.new.table c.put-3.new.table
    (record { here = c.put.ensures.here; others = c.put.ensures.others })
    (record { here = c.put-2.ensures.here; others = c.put-2.ensures.others })
    (record { here = c.put-3.ensures.here; others = c.put-3.ensures.others })
