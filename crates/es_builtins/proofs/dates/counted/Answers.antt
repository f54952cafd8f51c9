use Rattle.std.proofs.Common.{◌∙◌, ◌≡◌, take, length, ap, arith}
use Rattle.std.specs.Prelude.{min}
use Rattle.std.proofs.lemmas.List.{take_min}
use Rattle.es_builtins.specs.declared.dates.TheConstants.{DATE_ARGUMENTS}
use Rattle.es_builtins.proofs.dates.counted.Goals as goal

pub returns : goal.returns
returns c =
    let turned : c.min.result ≡ min DATE_ARGUMENTS (length c.args.args.now) = omega (arith, c.min.ensures) in
    ap (λ k. take k c.args.args.now) turned ∙ take_min DATE_ARGUMENTS c.args.args.now
