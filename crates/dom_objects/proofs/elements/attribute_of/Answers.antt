use Rattle.std.proofs.Common.{ap, sym, ◌∙◌}
use Rattle.std.proofs.lemmas.Bool.{iff_false}
use Rattle.es_values.specs.declared.values.Value.TheVariants.{Str}
use Rattle.dom_objects.proofs.RowLemmas.{attribute-outside, beyond}
use Rattle.dom_objects.proofs.elements.attribute_of.Goals as goal

pub returns-then-not-contains : goal.returns-then-not-contains
returns-then-not-contains c =
    let outside = beyond c.args.node.0 c.args.tree.now (iff_false c.contains.ensures c.if-not-contains.true) in
    ap Str (c.in_ok-of_codes.ensures {u = tt}) ∙ sym (attribute-outside c.args.tree.now c.args.node.0 c.args.name.now outside)
