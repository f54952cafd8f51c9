use Rattle.std.proofs.Common.{ap, sym, ◌∙◌}
use Rattle.std.proofs.lemmas.Result.{IfOk-weaker}
use Rattle.es_values.specs.Values.{is_plain}
use Rattle.es_values.specs.declared.values.HostRef.{HostRef}
use Rattle.es_values.specs.declared.values.HostRef.TheVariants.{Document, Event, Node, Style}
use Rattle.style_cascade.specs.StyledTrees.{styled_tree}
use Rattle.dom_objects.specs.Parts.{Parts}
use Rattle.dom_objects.specs.Reads.{read_value}
use Rattle.dom_objects.proofs.PlainLemmas.{plain-value}
use Rattle.dom_objects.proofs.reads.get_node.Goals as goal

pub returns-in-Document-clause-value : goal.returns-in-Document-clause-value
unfolding read_value
returns-in-Document-clause-value c =
    let parts : Parts = record { tree = styled_tree c.args.tree.now c.args.styles.now c.args.focus.now; event = c.args.event.now } in
    c.document_value.ensures
    ∙ sym (ap (λ (base : HostRef). read_value parts base c.args.name.now) c.in-Document.is)

pub returns-in-Document-clause-plain : goal.returns-in-Document-clause-plain
unfolding read_value
returns-in-Document-clause-plain c =
    let parts : Parts = record { tree = styled_tree c.args.tree.now c.args.styles.now c.args.focus.now; event = c.args.event.now } in
    ap is_plain c.document_value.ensures ∙ plain-value parts Document c.args.name.now

pub returns-in-Event-clause-plain : goal.returns-in-Event-clause-plain
unfolding read_value
returns-in-Event-clause-plain c =
    let parts : Parts = record { tree = styled_tree c.args.tree.now c.args.styles.now c.args.focus.now; event = c.args.event.now } in
    IfOk-weaker c.event_value.result _ _
    (λ value is. ap is_plain is ∙ plain-value parts Event c.args.name.now) c.event_value.ensures

pub returns-in-Node-clause-plain : goal.returns-in-Node-clause-plain
unfolding read_value
returns-in-Node-clause-plain c =
    let parts : Parts = record { tree = styled_tree c.args.tree.now c.args.styles.now c.args.focus.now; event = c.args.event.now } in
    IfOk-weaker c.node_value.result _ _
    (λ value is. ap is_plain is ∙ plain-value parts (Node c.in-Node.number) c.args.name.now) c.node_value.ensures

pub returns-in-Style-clause-plain : goal.returns-in-Style-clause-plain
unfolding read_value
returns-in-Style-clause-plain c =
    let parts : Parts = record { tree = styled_tree c.args.tree.now c.args.styles.now c.args.focus.now; event = c.args.event.now } in
    IfOk-weaker c.style_value.result _ _
    (λ value is. ap is_plain is ∙ plain-value parts (Style c.in-Style.number c.in-Style.state) c.args.name.now) c.style_value.ensures.value
