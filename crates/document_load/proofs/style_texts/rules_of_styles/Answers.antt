use Rattle.std.proofs.Common.{◌≡◌, length, arith}
use Rattle.document_load.proofs.StyleLemmas.{rules_below-more, rules_below-all}
use Rattle.document_load.proofs.style_texts.rules_of_styles.Goals as goal

pub nodes-preserved : goal.nodes-preserved
nodes-preserved c =
    let so_far = c.nodes.invariant in
    record {
      rules = rules_below-more c.args.tree.now c.args.named.now c.args.given.now c.nodes.number _ _ _ so_far.rules c.gift_at-next_place.ensures.gift (c.in_ok-push_rules.ensures {u = tt});
      reaches = c.gift_at-next_place.ensures.next;
      all = so_far.all;
    }

pub returns : goal.returns
returns c =
    let all : c.nodes.number ≡ length c.args.tree.now = omega arith in
    rules_below-all c.args.tree.now c.args.named.now c.args.given.now c.nodes.number _ c.nodes.invariant.rules all
