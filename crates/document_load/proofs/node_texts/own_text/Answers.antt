use Rattle.std.proofs.Common.{ap, length, ◌∙◌}
use Rattle.dom_tree.specs.NodeNumbers.{number_of}
use Rattle.document_load.proofs.StyleLemmas.{AreChildren-law, JoinsChildren-within, JoinsChildren-more, JoinsChildren-end, fewer-left}
use Rattle.document_load.proofs.node_texts.own_text.Goals as goal

pub push_child_text-requires : goal.push_child_text-requires
push_child_text-requires c = JoinsChildren-within c.args.tree.now c.args.node.0 _ _ _ (AreChildren-law c.args.tree.now c.args.node.0 c.law_of_children.ensures.hang c.law_of_parents.ensures.within c.law_of_children.ensures.next) c.children.invariant (ap number_of c.in-Some.is)

pub next_sibling-next-requires : goal.next_sibling-next-requires
next_sibling-next-requires c = JoinsChildren-within c.args.tree.now c.args.node.0 _ _ _ (AreChildren-law c.args.tree.now c.args.node.0 c.law_of_children.ensures.hang c.law_of_parents.ensures.within c.law_of_children.ensures.next) c.children.invariant (ap number_of c.in-Some.is)

pub children-smaller : goal.children-smaller
children-smaller c =
    let within = JoinsChildren-within c.args.tree.now c.args.node.0 _ _ _ (AreChildren-law c.args.tree.now c.args.node.0 c.law_of_children.ensures.hang c.law_of_parents.ensures.within c.law_of_children.ensures.next) c.children.invariant (ap number_of c.in-Some.is) in
    fewer-left (length c.args.tree.now) c.children.next c.next_sibling-next.result c.in-Some.child c.in-Some.is within c.next_sibling-next.ensures.behind

pub children-preserved : goal.children-preserved
children-preserved c = JoinsChildren-more c.args.tree.now c.args.node.0 _ _ _ _ _ (AreChildren-law c.args.tree.now c.args.node.0 c.law_of_children.ensures.hang c.law_of_parents.ensures.within c.law_of_children.ensures.next) c.children.invariant (ap number_of c.in-Some.is) (c.in_ok-push_child_text.ensures {u = tt}) c.next_sibling-next.ensures.next

pub returns : goal.returns
returns c = c.in_ok-text.ensures ∙ c.as_slice.ensures.value ∙ JoinsChildren-end c.args.tree.now c.args.node.0 _ _ c.children.invariant (ap number_of c.in_default.is)
