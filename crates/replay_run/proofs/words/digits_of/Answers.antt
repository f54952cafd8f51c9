use Rattle.std.proofs.Common.{◌<◌, arith, slice_index_or}
use Rattle.replay_run.proofs.WordLaws.{decimal_field_long, decimal_field_wide}
use Rattle.replay_run.proofs.words.digits_of.Goals as goal

pub returns-then-codes-gt-MOST_DIGITS : goal.returns-then-codes-gt-MOST_DIGITS
returns-then-codes-gt-MOST_DIGITS c =
    decimal_field_long (c.args.codes.now) (c.if-codes-gt-MOST_DIGITS.true)

pub returns-in-Err : goal.returns-in-Err
returns-in-Err c =
    let wide : 255 < slice_index_or c.args.codes.now c.loop-code.code-index 0 =
    omega (arith, c.in-Err.ensures) in
    decimal_field_wide (c.args.codes.now) (c.loop-code.code-index) (c.loop-code-test.true) wide
