use Rattle.std.proofs.Common.{◌∙◌, ℕ, Option, None, Some, ap, refl, sym}
use Rattle.std.proofs.lemmas.Option.{none-some, same_Some}
use Rattle.es_shapes.proofs.PlaceLemmas.{known_elsewhere, place_known}
use Rattle.es_shapes.proofs.places.place_in.Goals as goal

pub returns-clause-place : goal.returns-clause-place
returns-clause-place c =
    place_known c.args.program.now c.args.node c.args.function c.function_of.result
    c.args.name.now c.local.result c.function_of.ensures
    ((c.in_ok-found.was {u = tt}) ∙ ap Some c.if-found-function.false)
    (c.is_named.ensures.0 c.if-not-is_named.false) c.local.ensures

pub returns-in_err-found-clause-known : goal.returns-in_err-found-clause-known
returns-in_err-found-clause-known c =
    known_elsewhere c.args.program.now c.args.node c.args.function c.function_of.result
    c.args.name.now c.from_residual.result c.function_of.ensures
    (λ e. none-some c.args.function (sym (c.in_err-found.was {u = tt}) ∙ e)) c.from_residual.ensures

pub returns-then-found-function-clause-known : goal.returns-then-found-function-clause-known
returns-then-found-function-clause-known c =
    known_elsewhere {A = Option ℕ} c.args.program.now c.args.node c.args.function c.function_of.result
    c.args.name.now None c.function_of.ensures
    (λ e. c.if-found-function.true
    (same_Some c.in_ok-found.found c.args.function (sym (c.in_ok-found.was {u = tt}) ∙ e))) refl
