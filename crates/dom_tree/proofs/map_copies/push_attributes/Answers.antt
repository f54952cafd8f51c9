use Rattle.std.proofs.Common.{ℕ, List, [], ◌∷◌, ◌++◌, sym, ap, ◌∙◌}
use Rattle.dom_tree.proofs.CopyLemmas.{none-before, take-more}
use Rattle.dom_tree.proofs.map_copies.push_attributes.Goals as goal

pub push_attribute-requires : goal.push_attribute-requires
push_attribute-requires c = rw c.entries.invariant (none-before c.args.attributes.now.entries c.entries.place (c.in-Some.name.now, c.in-Some.value.now) c.len-place-end.ensures.unique (sym c.in-Some.ensures.entry))

pub entries-preserved : goal.entries-preserved
entries-preserved c =
    let entry : List ℕ × List ℕ = (c.in-Some.name.now, c.in-Some.value.now) in
    c.in_ok-push_attribute-in-Some.ensures
    ∙ (ap (λ (es : List (List ℕ × List ℕ)). es ++ entry ∷ []) c.entries.invariant
    ∙ take-more c.args.attributes.now.entries c.entries.place entry (sym c.in-Some.ensures.entry))
