use Rattle.std.proofs.Common.{◌≡◌, ◌∙◌, ◌<◌, ◌++◌, ◌∷◌, [], Some, length, ap, map, sym, take, arith}
use Rattle.std.specs.Prelude.{slice_get}
use Rattle.std.proofs.lemmas.Option.{slice_get-get_or}
use Rattle.es_reader.specs.Told.{told_function}
use Rattle.es_reader.specs.devices.Owners.{locals_of}
use Rattle.es_reader.proofs.LocalLemmas.{locals_more}
use Rattle.es_reader.proofs.locals.all_locals.Goals as goal

pub loop-function-preserved : goal.loop-function-preserved
loop-function-preserved c =
    let functions = c.args.functions.now in
    let index = c.loop-function.function-index in
    let within : index < length functions = omega arith in
    let here : slice_get functions index ≡ Some c.function-item.result =
    slice_get-get_or functions index c.function-item.result within
    ∙ ap Some (sym c.function-item.is) in
    (c.in_ok-push.ensures {u = tt}).items
    ∙ ap (λ xs. xs ++ (c.in_ok-new.field-0 ∷ [])) c.loop-function.invariant
    ∙ ap (λ x. locals_of (map told_function (take index functions)) ++ (x ∷ []))
    ((c.in_ok-new.ensures {u = tt}) ∙ c.deref.ensures.value)
    ∙ locals_more functions index c.function-item.result here
