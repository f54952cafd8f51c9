use Rattle.std.proofs.Common.{ℕ, List, [], ◌∷◌, ◌++◌, sym, ap, ◌∙◌}
use Rattle.dom_tree.specs.declared.node_ids.NodeId.{NodeId}
use Rattle.dom_tree.proofs.CopyLemmas.{none-before, take-more}
use Rattle.dom_tree.proofs.map_copies.push_ids.Goals as goal

pub push_id-requires : goal.push_id-requires
push_id-requires c = rw c.entries.invariant (none-before c.args.ids.now.entries c.entries.place (c.in-Some.id.now, c.in-Some.node.now) c.len-place-end.ensures.unique (sym c.in-Some.ensures.entry))

pub entries-preserved : goal.entries-preserved
entries-preserved c =
    let entry : List ℕ × NodeId = (c.in-Some.id.now, c.in-Some.node.now) in
    c.in_ok-push_id-in-Some.ensures
    ∙ (ap (λ (es : List (List ℕ × NodeId)). es ++ entry ∷ []) c.entries.invariant
    ∙ take-more c.args.ids.now.entries c.entries.place entry (sym c.in-Some.ensures.entry))
