use Rattle.std.proofs.Common.{◌<◌, length, sym, ◌∙◌, ap, arith}
use Rattle.style_reader.specs.devices.Runs.{is_zero, without_front}
use Rattle.style_reader.proofs.ZeroLemmas.{many-codes, near-read, other-read_behind, past-read}
use Rattle.style_reader.proofs.numbers.number_in_reach.Goals as goal

pub returns-then-written-gt-MOST_DIGITS-clause-number : goal.returns-then-written-gt-MOST_DIGITS-clause-number
returns-then-written-gt-MOST_DIGITS-clause-number c =
    let many : 10 < length (without_front is_zero c.args.digits.now) = omega (arith, ap length c.without_zeros-written.ensures) in
    sym (many-codes c.args.digits.now many)

pub returns-in_err-number-clause-number : goal.returns-in_err-number-clause-number
returns-in_err-number-clause-number c =
    c.from_residual.ensures ∙ other-read_behind c.args.digits.now c.without_zeros-written.result.now c.without_zeros-written.ensures (c.in_err-number.ensures {u = tt}).number

pub returns-then-number-lt-TOO_MANY-clause-number : goal.returns-then-number-lt-TOO_MANY-clause-number
returns-then-number-lt-TOO_MANY-clause-number c =
    near-read c.args.digits.now c.without_zeros-written.result.now c.in_ok-number.number c.without_zeros-written.ensures c.in_ok-number.ensures.number (omega arith)

pub returns-else-number-lt-TOO_MANY-clause-number : goal.returns-else-number-lt-TOO_MANY-clause-number
returns-else-number-lt-TOO_MANY-clause-number c =
    past-read c.args.digits.now c.without_zeros-written.result.now c.in_ok-number.number c.without_zeros-written.ensures c.in_ok-number.ensures.number (omega arith)
