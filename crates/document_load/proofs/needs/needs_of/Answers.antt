use Rattle.std.proofs.Common.{sym, ◌∙◌, arith}
use Rattle.document_load.proofs.NeedLemmas.{needs_of-none, named_by-none, more_some, more_none, named_more_some, named_more_none}
use Rattle.document_load.proofs.needs.needs_of.Goals as goal
use Rattle.document_load.proofs.needs.needs_of.Goals.{in-Some+in_ok-push+in_ok-push-2, in_default}

pub nodes-init : goal.nodes-init
nodes-init c = record {
  found = record {
    paths = c.new-paths.ensures.items ∙ sym (needs_of-none c.args.base.now);
    nodes = c.new-named.ensures.items ∙ sym (named_by-none c.args.base.now);
  };
  names = c.in_ok-names.ensures;
  all = c.node_count-number-end.ensures.count;
}

pub nodes-preserved : goal.nodes-preserved
nodes-preserved c =
    let so_far = c.nodes.invariant in
    record {
      found = elim c.match-branch-3.branch [
        | in-Some+in_ok-push+in_ok-push-2 w ↦ record {
          paths = rw (w.paths-is, w.in_ok-push.ensures.items) (more_some c.args.base.now c.args.tree.now c.nodes.number c.nodes.paths.items w.in-Some.need (omega arith) so_far.found.paths (sym w.in-Some.is ∙ c.in_ok-need.ensures));
          nodes = rw (w.named-is, w.in_ok-push-2.ensures.items) (named_more_some c.args.base.now c.args.tree.now c.nodes.number c.nodes.named.items w.in-Some.need (omega arith) so_far.found.nodes (sym w.in-Some.is ∙ c.in_ok-need.ensures));
        }
        | in_default w ↦ record {
          paths = rw w.paths-is (more_none c.args.base.now c.args.tree.now c.nodes.number c.nodes.paths.items (omega arith) so_far.found.paths (sym w.in_default.is ∙ c.in_ok-need.ensures));
          nodes = rw w.named-is (named_more_none c.args.base.now c.args.tree.now c.nodes.number c.nodes.named.items (omega arith) so_far.found.nodes (sym w.in_default.is ∙ c.in_ok-need.ensures));
        }
      ];
      names = so_far.names;
      all = so_far.all;
    }
