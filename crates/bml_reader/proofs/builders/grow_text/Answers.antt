use Rattle.std.proofs.Common.{◌≡◌, ℕ, List, Option, Some, sym, subst, ◌∙◌, ap}
use Rattle.std.specs.Option.{option_copied}
use Rattle.bml_reader.specs.devices.Nodes.{AreOpen, top_of, numbers_in}
use Rattle.bml_reader.specs.devices.BuilderViews.{IsGrown}
use Rattle.dom_tree.specs.Items.{Item}
use Rattle.bml_reader.proofs.BuilderLemmas.{stay-open, top-last}
use Rattle.bml_reader.proofs.builders.grow_text.Goals as goal

pub returns-clause-open : goal.returns-clause-open
returns-clause-open c =
    let numbers : List ℕ = numbers_in c.args.path.now in
    let top : top_of numbers ≡ Some c.in-Some-Some.parent.now.0 = top-last c.args.path.now c.in-Some-Some.parent.now (sym c.last.ensures.value ∙ ap option_copied c.in-Some-Some.is-1) in
    let was_open : AreOpen c.in-Some-Some.tree numbers = subst (λ (o : Option (List Item)). IsGrown o numbers) c.in-Some-Some.is-0 c.requires.grown in
    stay-open c.in-Some-Some.tree c.add_text.new.self c.in-Some-Some.parent.now.0 numbers was_open top c.in_ok-add_text-in-Some-Some.ensures.extends
