use Rattle.std.proofs.Common.{◌≡◌, ◌+◌, length, cond, Some, refl, sym, ap, ◌∙◌, arith}
use Rattle.std.specs.Prelude.{slice_get, drop}
use Rattle.std.proofs.lemmas.Option.{slice_get_read}
use Rattle.dom_tree.specs.Items.{has_id}
use Rattle.dom_tree.specs.Walks.{places_from, first}
use Rattle.dom_tree.specs.Links.{items_in}
use Rattle.dom_tree.proofs.IdLemmas.{node_of_id-step}
use Rattle.dom_tree.proofs.trees.changes.first_of_id.Goals as goal

pub loop-node-preserved : goal.loop-node-preserved
loop-node-preserved c =
    let i = c.loop-node.node-index in
    let id = c.args.id.now in
    let got : slice_get c.args.nodes.now i ≡ Some c.node-item.result = slice_get_read c.args.nodes.now (length c.args.nodes.now) i c.node-item.result refl (omega arith) c.node-item.is in (
      omega (arith, c.loop-node.invariant.0),
      c.loop-node.invariant.1
          ∙ (node_of_id-step c.args.nodes.now id c.args.name.now i c.node-item.result c.has_value.result got c.requires.name c.has_value.ensures
          ∙ ap (λ b. cond b (Some i) (first (places_from (has_id id) (i + 1) (drop (i + 1) (items_in c.args.nodes.now))))) c.if-has_value.false),
    )

pub returns-then-has_value : goal.returns-then-has_value
returns-then-has_value c =
    let i = c.loop-node.node-index in
    let id = c.args.id.now in
    let got : slice_get c.args.nodes.now i ≡ Some c.node-item.result = slice_get_read c.args.nodes.now (length c.args.nodes.now) i c.node-item.result refl (omega arith) c.node-item.is in
    ap Some c.loop-node.invariant.0
    ∙ sym (c.loop-node.invariant.1
    ∙ (node_of_id-step c.args.nodes.now id c.args.name.now i c.node-item.result c.has_value.result got c.requires.name c.has_value.ensures
    ∙ ap (λ b. cond b (Some i) (first (places_from (has_id id) (i + 1) (drop (i + 1) (items_in c.args.nodes.now))))) c.if-has_value.true))
