use Rattle.std.proofs.Common.{◌≡◌, ℕ, ◌+ℤ◌, to_z, of_z, FitsSigned, Option, nat_eq, false, ap, ◌∙◌, ◌<◌, length, rules, arith}
use Rattle.std.specs.Prelude.{◌||◌}
use Rattle.std.specs.Option.{option_map_or}
use Rattle.std.specs.Int.{w16, w32}
use Rattle.std.proofs.lemmas.Int.{ints}
use Rattle.display_list.specs.devices.Views.{shown_in}
use Rattle.display_list.proofs.PlaceLemmas.{added_by-read, near-sum, node_place_of-is, under-here, under-outer, HavePaths-law, StandsAround-is}
use Rattle.display_list.proofs.places.NodePlace.of.Goals as goal
use Rattle.display_list.proofs.places.NodePlace.of.Goals.{then-is_node, else-is_node}

pub returns-clause-place : goal.returns-clause-place
returns-clause-place c =
    let shown = shown_in c.args.tree.now c.args.styles.now in
    let outer = c.place_around-outer.result in
    let around = StandsAround-is shown c.args.node.0 c.args.node.0 c.args.before.now outer c.requires.before (omega arith) c.place_around-outer.ensures.before c.place_around-outer.ensures.place in
    let left : FitsSigned w16 c.offset-left.result.0 = search rules in
    let top : FitsSigned w16 c.offset-left.result.1 = search rules in
    let x : to_z w32 (of_z w32 (to_z w32 (of_z w32 c.from.result) +ℤ to_z w32 (of_z w32 outer.x))) ≡ c.offset-left.result.0 +ℤ outer.x = omega (arith, ints, left.sfits, around.x.low, around.x.high) in
    let y : to_z w32 (of_z w32 (to_z w32 (of_z w32 c.from-2.result) +ℤ to_z w32 (of_z w32 outer.y))) ≡ c.offset-left.result.1 +ℤ outer.y = omega (arith, ints, top.sfits, around.y.low, around.y.high) in
    let low : c.args.node.0 < length c.args.styles.now = omega arith in
    let left_is = added_by-read (λ s. s.left) c.args.tree.now c.args.styles.now c.args.node.0 _ c.offset-left.result.0 low c.offset-left.ensures.left in
    let top_is = added_by-read (λ s. s.top) c.args.tree.now c.args.styles.now c.args.node.0 _ c.offset-left.result.1 low c.offset-left.ensures.top in
    let here : c.if-is_node.is_under_body ≡ c.is_node.result || outer.is_under_body = elim c.if-is_node.branch [
      | then-is_node w ↦ under-here c.is_node.result outer.is_under_body c.if-is_node.is_under_body w.if-is_node.true (w.is_under_body-is ∙ w.if-is_node.true)
      | else-is_node w ↦ under-outer c.is_node.result outer.is_under_body c.if-is_node.is_under_body w.if-is_node.false w.is_under_body-is
    ] in
    let body = c.is_node.ensures ∙ ap (λ (o : Option ℕ). option_map_or (λ (b : ℕ). nat_eq c.args.node.0 b) o false) c.requires.body in
    node_place_of-is shown c.args.node.0 outer _ _ c.offset-left.result.0 c.offset-left.result.1 c.is_node.result c.if-is_node.is_under_body c.holder-holder.result (HavePaths-law c.args.tree.now c.requires.tree c.law_of_paths.ensures.step) around.place left_is top_is x y body here c.holder-holder.ensures

pub returns-clause-near : goal.returns-clause-near
returns-clause-near c =
    let shown = shown_in c.args.tree.now c.args.styles.now in
    let outer = c.place_around-outer.result in
    let around = StandsAround-is shown c.args.node.0 c.args.node.0 c.args.before.now outer c.requires.before (omega arith) c.place_around-outer.ensures.before c.place_around-outer.ensures.place in
    let left : FitsSigned w16 c.offset-left.result.0 = search rules in
    let top : FitsSigned w16 c.offset-left.result.1 = search rules in
    let x : to_z w32 (of_z w32 (to_z w32 (of_z w32 c.from.result) +ℤ to_z w32 (of_z w32 outer.x))) ≡ c.offset-left.result.0 +ℤ outer.x = omega (arith, ints, left.sfits, around.x.low, around.x.high) in
    let y : to_z w32 (of_z w32 (to_z w32 (of_z w32 c.from-2.result) +ℤ to_z w32 (of_z w32 outer.y))) ≡ c.offset-left.result.1 +ℤ outer.y = omega (arith, ints, top.sfits, around.y.low, around.y.high) in
    record {
      x = near-sum c.args.node.0 c.offset-left.result.0 outer.x _ left x around.x;
      y = near-sum c.args.node.0 c.offset-left.result.1 outer.y _ top y around.y;
    }
