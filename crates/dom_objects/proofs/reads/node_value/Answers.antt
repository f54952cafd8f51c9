use Rattle.std.proofs.Common.{sym, ap}
use Rattle.std.proofs.lemmas.Bool.{iff_false}
use Rattle.dom_objects.specs.Reads.{Rows, read_in}
use Rattle.dom_objects.proofs.RowLemmas.{beyond, node_rows-outside}
use Rattle.dom_objects.proofs.reads.node_value.Goals as goal

pub returns-then-not-contains : goal.returns-then-not-contains
returns-then-not-contains c =
    let outside = beyond c.args.node.0 c.args.tree.now (iff_false c.contains.ensures c.if-not-contains.true) in
    sym (ap (λ (rows : Rows). read_in rows c.args.name.now) (node_rows-outside c.args.tree.now c.args.node.0 outside))
