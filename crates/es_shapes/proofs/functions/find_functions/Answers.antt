use Rattle.std.proofs.Common.{◌≡◌, ◌<◌, ◌++◌, ◌∷◌, [], ◌∙◌, ap, sym, append_assoc, arith, length, take, true}
use Rattle.std.specs.Result.{is_ok}
use Rattle.std.proofs.lemmas.List.{length-map}
use Rattle.es_reader.specs.Told.{told_function}
use Rattle.es_shapes.specs.devices.Parts.{places_in}
use Rattle.es_shapes.proofs.FunctionLemmas.{at_place, places_in-more}
use Rattle.es_shapes.proofs.functions.find_functions.Goals as goal

pub loop-function-preserved : goal.loop-function-preserved
loop-function-preserved c =
    let functions = c.args.program.now.functions in
    let place = c.loop-function.function in
    let program = c.args.place in
    let ok : is_ok c.push.result ≡ true =
    cc c.if-is_err.ensures.negation in
    let pushed : c.push.new.self.items ≡ c.loop-function.found.items ++ at_place program place ∷ [] =
    rw ok at c.push.ensures.items in
    let within : place < length functions =
    omega (
      arith,
      ap length c.functions-function-end.ensures,
      length-map c.functions-function-end.result.now told_function,
    ) in
    pushed ∙ ap (λ xs. xs ++ at_place program place ∷ []) c.loop-function.invariant
    ∙ append_assoc c.args.found.now.items (places_in program 0 (take place functions))
    (at_place program place ∷ [])
    ∙ ap (λ xs. c.args.found.now.items ++ xs) (sym (places_in-more program functions place within))
