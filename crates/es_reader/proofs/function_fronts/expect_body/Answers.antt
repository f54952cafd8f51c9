use Rattle.std.proofs.Common.{inl, inr, refl}
use Rattle.es_reader.proofs.BadLemmas.{handed, if-bad}
use Rattle.es_reader.proofs.function_fronts.expect_body.Goals as goal

pub returns-clause-opens : goal.returns-clause-opens
returns-clause-opens c =
    let close = c.in_ok-expect_mark.ensures {u = tt} in
    let brace = c.in_ok-expect_mark-2.ensures {u = tt} in (
      refl,
      record {
        close_mark = (c.in_ok-expect_mark.field-0.now, close.there, close.mark);
        open_mark = (c.in_ok-expect_mark-2.field-0.now, brace.there, brace.mark);
      },
    )

pub returns-in_err-expect_mark-clause-bad : goal.returns-in_err-expect_mark-clause-bad
returns-in_err-expect_mark-clause-bad c = handed c.from_residual.result c.in_err-expect_mark.field-0.0 _ c.from_residual.ensures.1 (if-bad c.in_err-expect_mark.field-0.0 _ _ (λ bad lacks. inl lacks) (c.in_err-expect_mark.ensures {u = tt}).lacks)

pub returns-in_err-expect_mark-2-clause-bad : goal.returns-in_err-expect_mark-2-clause-bad
returns-in_err-expect_mark-2-clause-bad c =
    let close = c.in_ok-expect_mark.ensures {u = tt} in
    handed c.from_residual-in_err-expect_mark-2.result c.in_err-expect_mark-2.field-0.0 _ c.from_residual-in_err-expect_mark-2.ensures.1 (if-bad c.in_err-expect_mark-2.field-0.0 _ _ (λ bad lacks. inr ((c.in_ok-expect_mark.field-0.now, close.there, close.mark), lacks.0, lacks.1)) (c.in_err-expect_mark-2.ensures {u = tt}).lacks)
