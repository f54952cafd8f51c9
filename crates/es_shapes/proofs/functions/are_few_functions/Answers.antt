use Rattle.std.proofs.Common.{◌≡◌, ◌+◌, ◌≤◌, ap, length, take, lit<, refl, rules, arith}
use Rattle.std.proofs.lemmas.List.{length-map}
use Rattle.es_reader.specs.Told.{told_function}
use Rattle.es_shapes.specs.Codes.{declared_by}
use Rattle.es_shapes.proofs.FunctionLemmas.{count-more, count-within}
use Rattle.es_shapes.proofs.functions.are_few_functions.Goals as goal

pub loop-program-init : goal.loop-program-init
unfolding declared_by
loop-program-init c = record { count = refl; few = lit< tt }

pub returns-then-more-count : goal.returns-then-more-count
returns-then-more-count c =
    let within : length (declared_by (take c.loop-program.program-index c.args.programs.now))
    + length c.program-item.result.functions ≤ length (declared_by c.args.programs.now) =
    count-within c.args.programs.now c.loop-program.program-index c.program-item.result
    (omega arith) c.program-item.is in
    ((λ no. search rules), λ few. absurd (omega (arith, ap length c.functions.ensures, length-map c.functions.result.now told_function)))

pub loop-program-preserved : goal.loop-program-preserved
loop-program-preserved c =
    let more : length (declared_by (take (c.loop-program.program-index + 1) c.args.programs.now))
    ≡ length (declared_by (take c.loop-program.program-index c.args.programs.now))
    + length c.program-item.result.functions =
    count-more c.args.programs.now c.loop-program.program-index c.program-item.result
    (omega arith) c.program-item.is in
    record {
      count = omega (arith, ap length c.functions.ensures, length-map c.functions.result.now told_function);
      few = omega arith;
    }
