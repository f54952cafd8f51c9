use Rattle.std.proofs.Common.{sym}
use Rattle.es_shapes.proofs.ShapeLemmas.{expression-found}
use Rattle.es_shapes.proofs.leaves.name_at.Goals as goal

pub returns : goal.returns
returns c =
    rw (expression-found _ _ c.in_ok-node.node.now (sym c.in_ok-node.ensures)) (c.name_of.ensures _)
