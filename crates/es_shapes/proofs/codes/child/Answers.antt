use Rattle.std.proofs.Common.{Some, ap, sym, ◌≡◌, ◌∙◌}
use Rattle.std.specs.Prelude.{slice_get}
use Rattle.es_shapes.specs.devices.Parts.{children_of}
use Rattle.es_shapes.proofs.CodeLemmas.{from-above}
use Rattle.es_shapes.proofs.codes.child.Goals as goal

pub returns-else-node-code-clause-child : goal.returns-else-node-code-clause-child
returns-else-node-code-clause-child c = λ programs e.
    let there : slice_get (children_of programs c.args.code) c.args.place ≡ Some c.in_ok-node.node =
    ap (λ xs. slice_get xs c.args.place) e ∙ sym c.in_ok-node.ensures.number in
    from-above programs c.args.code c.args.place c.in_ok-node.node there c.if-node-code.false
