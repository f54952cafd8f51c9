use Rattle.std.proofs.Common.{◌∙◌, sym, ap, length, List, ℕ, subst, vec_len, arith}
use Rattle.std.proofs.lemmas.List.{length-replicate}
use Rattle.document_load.specs.GiftViews.{AscendsFrom}
use Rattle.document_load.proofs.NeedLemmas.{AscendsFrom-named_by, length-named_by}
use Rattle.document_load.proofs.drafts.Draft.open.Goals as goal

pub invariant_of-result : goal.invariant_of-result
invariant_of-result c =
    let needs = c.in_ok-needs.ensures in
    record {
      gifts =
          let given = ap length (c.in_ok-given.ensures {u = tt}) ∙ length-replicate _ _ in
          let count = c.len.ensures in
          let same = ap vec_len c.in_ok-needs.needs-is in
          let all = c.in_ok-needs.field-0.paths.ok in
          omega (arith, given, count, same, all);
      nodes = ap length needs.named ∙ length-named_by c.args.path.now c.args.tree ∙ sym (ap length needs.paths);
      rises = subst (λ (l : List ℕ). AscendsFrom 0 l) (sym needs.named) (AscendsFrom-named_by c.args.path.now c.args.tree);
    }
