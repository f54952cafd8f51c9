-- What is left is below 12.
use Rattle.std.proofs.Common.{◌≡◌, pos, arith, to_z, of_z, w32, unsigned_abs}
use Rattle.std.specs.Int.{int_rem_euclid}
use Rattle.jiff_core.proofs.SignedLemmas.{signed_arith, signed_casts}
use Rattle.es_date.proofs.moments.month_of_year.Goals as goal
use Rattle.es_date.proofs.moments.month_of_year.Goals.{After-unsigned_abs}

left : (c : After-unsigned_abs) → c.unsigned_abs.result ≡ unsigned_abs (int_rem_euclid c.args.month (pos 12))
left c =
    let month : to_z w32 (of_z w32 c.args.month) ≡ c.args.month = omega (arith, signed_casts) in
    let is = rw month at c.rem_euclid.ensures.value in
    let same : to_z w32 (of_z w32 c.rem_euclid.result) ≡ int_rem_euclid c.args.month (pos 12) = omega (arith, signed_casts, is) in
    rw same at c.unsigned_abs.ensures.value

pub returns-clause-value : goal.returns-clause-value
returns-clause-value c = omega (arith, left c)

pub returns-clause-range : goal.returns-clause-range
returns-clause-range c = (omega arith, omega (arith, signed_arith, left c))
