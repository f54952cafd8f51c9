use Rattle.std.proofs.Common.{◌∙◌, refl}
use Rattle.es_builtins.proofs.ZeroLemmas.{zeros-copy}
use Rattle.es_builtins.proofs.numerals.behind_zero_blocks.Goals as goal

pub copies-preserved : goal.copies-preserved
copies-preserved c =
    zeros-copy 512 c.copies.rest.now _ c.in-Some.more.now refl (c.in-Some.ensures {u = tt}).cases.0 (c.in-Some.ensures {u = tt}).cases.1
    ∙ c.copies.invariant
