use Rattle.std.proofs.Common.{sym}
use Rattle.es_shapes.proofs.ShapeLemmas.{expression-found}
use Rattle.es_shapes.proofs.leaves.leaf_at.Goals as goal

pub returns-in-Some : goal.returns-in-Some
returns-in-Some c =
    rw (expression-found _ _ c.in-Some.node.now (sym c.in-Some.ensures)) (c.leaf_of.ensures _)
