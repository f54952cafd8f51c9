use Rattle.std.proofs.Common.{◌≤◌, length, subst}
use Rattle.es_shapes.proofs.CodeLemmas.{no-part}
use Rattle.es_shapes.proofs.codes.part_count.Goals as goal

pub returns-clause-end : goal.returns-clause-end
returns-clause-end c place past =
    no-part c.args.programs.now c.args.code place
    (subst (λ numbers. length numbers ≤ place) c.children.ensures past)
