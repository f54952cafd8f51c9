use Rattle.std.proofs.Common.{◌≡◌, sym, ℕ, List, Option, Some, None, arith}
use Rattle.std.specs.Prelude.{IfSome, slice_get}
use Rattle.std.proofs.lemmas.Result.{IfOk-weaker}
use Rattle.es_reader.specs.Programs.{ToldProgram}
use Rattle.es_shapes.specs.declared.functions.Declared.{Declared}
use Rattle.es_shapes.specs.devices.Parts.{declared_at, places_from}
use Rattle.es_shapes.proofs.FunctionLemmas.{number-at, number-below, place-there}
use Rattle.es_shapes.proofs.functions.Programs.function.Goals as goal

pub returns-in-None-clause-found : goal.returns-in-None-clause-found
returns-in-None-clause-found c = number-below c.args.self.now c.args.number (omega arith)

pub returns-in-Some-clause-found : goal.returns-in-Some-clause-found
returns-in-Some-clause-found c =
    IfOk-weaker c.function_at.result _ _ (λ found is.
    number-at c.args.self.now c.args.number c.in-Some.place found (omega arith) is)
    c.function_at.ensures.found

there-is : (programs : List ToldProgram) (place : ℕ) (result : Option Declared)
    → result ≡ slice_get (places_from 0 programs) place
    → IfSome result (λ declared. declared_at programs declared ≡ None → ⊥)
there-is programs place None h = tt
there-is programs place (Some declared) h = place-there programs place declared (sym h)

pub returns-in-Some-clause-there : goal.returns-in-Some-clause-there
returns-in-Some-clause-there c =
    IfOk-weaker c.function_at.result _ _ (λ found is.
    there-is c.args.self.now c.in-Some.place found is) c.function_at.ensures.found
