use Rattle.std.proofs.Common.{ℕ, List, Option, Some, [], ◌∷◌, ◌++◌, length, sym, subst}
use Rattle.bml_reader.specs.devices.Nodes.{AreOpen, numbers_in}
use Rattle.bml_reader.specs.devices.BuilderViews.{IsGrown}
use Rattle.dom_tree.specs.Items.{Item, element_in}
use Rattle.dom_tree.specs.Walks.{Extends}
use Rattle.bml_reader.proofs.BuilderLemmas.{stay-open, open-element}
use Rattle.bml_reader.proofs.builders.grow_inside.Goals as goal

pub returns-clause-open : goal.returns-clause-open
returns-clause-open c =
    let ns : List ℕ = numbers_in c.args.path.now in
    let old : List Item = c.in-Some.tree in
    let up : ℕ = c.args.parent.0 in
    let new : List Item = old ++ element_in (Some up) c.args.tag ∷ [] in
    let was_open : AreOpen old ns = subst (λ (o : Option (List Item)). IsGrown o ns) c.in-Some.is c.requires.grown in
    let extends : Extends old new up = subst (λ (t : List Item). Extends old t up) c.in_ok-node-in-Some.ensures.added c.in_ok-node-in-Some.ensures.extends in
    let at_new : AreOpen new (length old ∷ ns) = open-element old up c.args.tag ns was_open c.requires.parent extends in
    let at_node : AreOpen new (c.in_ok-node-in-Some.node.0 ∷ ns) = subst (λ (n : ℕ). AreOpen new (n ∷ ns)) (sym c.in_ok-node-in-Some.ensures.number) at_new in
    subst (λ (t : List Item). AreOpen t (c.in_ok-node-in-Some.node.0 ∷ ns)) (sym c.in_ok-node-in-Some.ensures.added) at_node

pub returns-clause-still : goal.returns-clause-still
returns-clause-still c =
    let ns : List ℕ = numbers_in c.args.path.now in
    let old : List Item = c.in-Some.tree in
    let was_open : AreOpen old ns = subst (λ (o : Option (List Item)). IsGrown o ns) c.in-Some.is c.requires.grown in
    stay-open old c.add_element.new.self c.args.parent.0 ns was_open c.requires.parent c.in_ok-node-in-Some.ensures.extends
