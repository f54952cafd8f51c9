use Rattle.std.proofs.Common.{◌≡◌, length, arith}
use Rattle.document_load.proofs.ScriptLemmas.{sources_below-more, sources_below-all}
use Rattle.document_load.proofs.scripts.scripts_of.Goals as goal

pub nodes-preserved : goal.nodes-preserved
nodes-preserved c =
    let so_far = c.nodes.invariant in
    record {
      read = sources_below-more c.args.tree.now c.args.named.now c.args.given.now c.nodes.number _ c.nodes.reader c.push_node.new.self so_far.read c.gift_at-next_place.ensures.gift (c.in_ok-push_node.ensures {u = tt});
      reaches = c.gift_at-next_place.ensures.next;
      all = so_far.all;
    }

pub returns : goal.returns
returns c =
    let all : c.nodes.number ≡ length c.args.tree.now = omega arith in
    let read = sources_below-all c.args.tree.now c.args.named.now c.args.given.now c.nodes.number c.nodes.reader c.nodes.invariant.read all in
    record { scripts = read.scripts; elements = read.elements; places = read.places }
