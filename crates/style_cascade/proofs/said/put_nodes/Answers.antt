use Rattle.std.proofs.Common.{◌∙◌, sym, arith}
use Rattle.style_cascade.proofs.KeptLemmas.{said-more, said-start}
use Rattle.style_cascade.proofs.said.put_nodes.Goals as goal

pub nodes-init : goal.nodes-init
nodes-init c = record { room = c.requires.room; said = said-start c.args.tree.now c.args.sheet.now c.args.table.now c.requires.empty }

pub put_node-requires-clause-empty : goal.put_node-requires-clause-empty
put_node-requires-clause-empty c = λ state property. c.nodes.invariant.said.empty c.nodes.number state property (omega arith)

pub put_node-requires-clause-room : goal.put_node-requires-clause-room
put_node-requires-clause-room c = omega (arith, c.nodes.invariant.room, c.nodes-test.true)

pub nodes-preserved : goal.nodes-preserved
nodes-preserved c =
    let done = c.in_ok-put_node.ensures {u = tt} in
    record {
      room = done.length ∙ c.nodes.invariant.room;
      said = said-more c.args.tree.now c.args.sheet.now c.nodes.table c.put_node.new.table c.nodes.number done.here done.others c.nodes.invariant.said;
    }

pub returns-clause-length : goal.returns-clause-length
returns-clause-length c = c.nodes.invariant.room ∙ sym c.requires.room

pub returns-clause-said : goal.returns-clause-said
returns-clause-said c = λ node state property within. c.nodes.invariant.said.said node state property (omega (arith, within, c.node_count-number-end.ensures.count))
