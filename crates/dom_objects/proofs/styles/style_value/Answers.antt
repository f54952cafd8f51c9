use Rattle.std.proofs.Common.{sym, ◌∙◌}
use Rattle.std.proofs.lemmas.Result.{IfOk-weaker}
use Rattle.style_cascade.specs.StyledTrees.{styled_tree}
use Rattle.dom_objects.proofs.RowLemmas.{style_read-is}
use Rattle.dom_objects.proofs.styles.style_value.Goals as goal

pub returns-in-Some-Some-clause-value : goal.returns-in-Some-Some-clause-value
returns-in-Some-Some-clause-value c =
    IfOk-weaker c.style_text.result _ _
    (λ value is. is ∙ sym (style_read-is (styled_tree c.args.tree.now c.args.styles.now c.args.focus.now) c.args.node.0 c.args.number c.args.name.now c.in-Some-Some.state c.in-Some-Some.property
    (sym c.is_element.ensures ∙ c.if-not-is_element.false)
    (sym c.state_of_number.ensures ∙ c.in-Some-Some.is-0)
    (sym c.property_named.ensures ∙ c.in-Some-Some.is-1))) c.style_text.ensures.value
