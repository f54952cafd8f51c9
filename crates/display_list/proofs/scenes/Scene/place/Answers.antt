use Rattle.std.proofs.Common.{◌≡◌, ◌<◌, ℕ, Option, ◌+ℤ◌, to_z, of_z, FitsSigned, List, length, ap, ◌∙◌, rules, arith}
use Rattle.std.specs.Int.{w16, w32}
use Rattle.std.proofs.lemmas.Int.{ints, to_z-of_z}
use Rattle.dom_tree.specs.Items.{parent_of}
use Rattle.display_list.specs.devices.Views.{shown_of, place_in}
use Rattle.display_list.specs.declared.places.NodePlace.{NodePlace}
use Rattle.display_list.proofs.PlaceLemmas.{StandsAround-is, around-again, fits-sum, place-widths, place_of-is}
use Rattle.display_list.proofs.scenes.Scene.place.Goals as goal

-- where the element around stands, as it was read
outer-is : (places read : List NodePlace) (outer : NodePlace) (up : Option ℕ) → read ≡ places → outer ≡ place_in read up → outer ≡ place_in places up
outer-is places read outer up same e = e ∙ ap (λ (l : List NodePlace). place_in l up) same

pub overflow_add-result : goal.overflow_add-result
overflow_add-result c =
    let shown = shown_of c.args.self.now in
    let outer = c.place_around-outer.result in
    let around = StandsAround-is shown (length shown.items) c.args.node.0 c.args.self.now.places.items outer c.requires.scene.places (omega arith) c.place_around-outer.ensures.before (outer-is c.args.self.now.places.items c.as_slice.result.now outer (parent_of shown.items c.args.node.0) c.as_slice.ensures.value c.place_around-outer.ensures.place) in
    let left : FitsSigned w16 c.style-style.result.left = search rules in
    let few : c.args.node.0 < 16384 = omega (arith, c.requires.scene.tree.count) in
    let from : to_z w32 (of_z w32 c.from.result) ≡ c.style-style.result.left = omega (arith, ints, left.sfits) in
    fits-sum c.args.node.0 _ _ c.style-style.result.left outer.x from (around-again c.args.node.0 outer.x around.x few) left around.x few

pub overflow_add-result-2 : goal.overflow_add-result-2
overflow_add-result-2 c =
    let shown = shown_of c.args.self.now in
    let outer = c.place_around-outer.result in
    let around = StandsAround-is shown (length shown.items) c.args.node.0 c.args.self.now.places.items outer c.requires.scene.places (omega arith) c.place_around-outer.ensures.before (outer-is c.args.self.now.places.items c.as_slice.result.now outer (parent_of shown.items c.args.node.0) c.as_slice.ensures.value c.place_around-outer.ensures.place) in
    let top : FitsSigned w16 c.style-style.result.top = search rules in
    let few : c.args.node.0 < 16384 = omega (arith, c.requires.scene.tree.count) in
    let from : to_z w32 (of_z w32 c.from-2.result) ≡ c.style-style.result.top = omega (arith, ints, top.sfits) in
    fits-sum c.args.node.0 _ _ c.style-style.result.top outer.y from (around-again c.args.node.0 outer.y around.y few) top around.y few

pub returns : goal.returns
returns c =
    let shown = shown_of c.args.self.now in
    let outer = c.place_around-outer.result in
    let around = StandsAround-is shown (length shown.items) c.args.node.0 c.args.self.now.places.items outer c.requires.scene.places (omega arith) c.place_around-outer.ensures.before (outer-is c.args.self.now.places.items c.as_slice.result.now outer (parent_of shown.items c.args.node.0) c.as_slice.ensures.value c.place_around-outer.ensures.place) in
    let style = c.style-style.result in
    let left : FitsSigned w16 style.left = search rules in
    let top : FitsSigned w16 style.top = search rules in
    let few : c.args.node.0 < 16384 = omega (arith, c.requires.scene.tree.count) in
    let width : FitsSigned w16 style.width = search rules in
    let height : FitsSigned w16 style.height = search rules in
    let x : to_z w32 (of_z w32 (to_z w32 (of_z w32 c.from.result) +ℤ to_z w32 (of_z w32 outer.x))) ≡ style.left +ℤ outer.x = omega (arith, ints, left.sfits, around.x.low, around.x.high, few) in
    let y : to_z w32 (of_z w32 (to_z w32 (of_z w32 c.from-2.result) +ℤ to_z w32 (of_z w32 outer.y))) ≡ style.top +ℤ outer.y = omega (arith, ints, top.sfits, around.y.low, around.y.high, few) in
    place-widths _ _ _ _ _ _ _ (to_z-of_z w16 style.width width) (to_z-of_z w16 style.height height) (place_of-is shown c.args.node.0 outer style _ _ c.style-style.ensures around.place x y)
