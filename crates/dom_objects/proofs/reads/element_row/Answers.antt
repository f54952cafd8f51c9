use Rattle.std.proofs.Common.{◌++◌, sym, ◌∙◌}
use Rattle.dom_objects.specs.Reads.{element_rows, own_rows, walk_rows}
use Rattle.dom_objects.proofs.RowLemmas.{row-found, row-missed}
use Rattle.dom_objects.proofs.reads.element_row.Goals as goal

pub returns-in-Some : goal.returns-in-Some
returns-in-Some c =
    let items = c.args.tree.now in
    let node = c.args.node.0 in
    sym (row-found c.args.name.now (walk_rows items node) (element_rows items node c.args.tag.now ++ own_rows items node c.args.tag.now) c.in-Some.value (sym c.neighbour.ensures ∙ c.in-Some.is))

pub returns-in-Some-2 : goal.returns-in-Some-2
returns-in-Some-2 c =
    let items = c.args.tree.now in
    let node = c.args.node.0 in
    let own = own_rows items node c.args.tag.now in
    sym (row-missed c.args.name.now (walk_rows items node) (element_rows items node c.args.tag.now ++ own) (sym c.neighbour.ensures ∙ c.in_default.is)
    ∙ row-found c.args.name.now (element_rows items node c.args.tag.now) own c.in-Some-2.value (sym (c.in_ok-value.ensures {u = tt}) ∙ c.in-Some-2.is))
