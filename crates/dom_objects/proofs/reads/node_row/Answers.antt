use Rattle.std.proofs.Common.{◌≡◌, ap, sym, ◌∙◌, subst}
use Rattle.std.specs.Prelude.{IfOk, option_copied}
use Rattle.dom_objects.specs.Reads.{Rows, row_of}
use Rattle.dom_objects.proofs.RowLemmas.{node_rows-element}
use Rattle.dom_objects.proofs.reads.node_row.Goals as goal

pub returns-in-Some : goal.returns-in-Some
returns-in-Some c =
    let rows = node_rows-element c.args.tree.now c.args.node.0 c.in-Some.tag.now (sym c.tag.ensures ∙ ap option_copied c.in-Some.is) in
    subst (λ (r : Rows). IfOk c.element_row.result (λ value. value ≡ row_of c.args.name.now r)) (sym rows) c.element_row.ensures
