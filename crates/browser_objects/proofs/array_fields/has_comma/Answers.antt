use Rattle.std.proofs.Common.{ap, sym, ◌∙◌}
use Rattle.std.proofs.lemmas.Bool.{leb-true}
use Rattle.es_values.specs.Conversions.{number_of}
use Rattle.browser_objects.proofs.CommaLemmas.{array-none}
use Rattle.browser_objects.proofs.array_fields.has_comma.Goals as goal

pub returns-in-Some : goal.returns-in-Some
returns-in-Some c = λ long.
    ap (number_of c.args.heap.now) c.in-Object.is
    ∙ array-none c.args.heap.now c.in-Object.object c.in-Some.size (sym c.array_length.ensures ∙ c.in-Some.is) (leb-true 2 c.in-Some.size long)
