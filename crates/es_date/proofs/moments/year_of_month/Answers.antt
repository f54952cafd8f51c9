-- The sum is far from the ends of 64 bits.
use Rattle.std.proofs.Common.{◌≡◌, pos, ◌+ℤ◌, arith, to_z, of_z, w32}
use Rattle.std.specs.Int.{int_div_euclid}
use Rattle.jiff_core.proofs.SignedLemmas.{signed_arith, signed_casts}
use Rattle.es_date.proofs.MomentLemmas.{small64, wide_result}
use Rattle.es_date.proofs.moments.year_of_month.Goals as goal

pub returns : goal.returns
returns c =
    let is = wide_result c.args.year c.from.result c.ranges.year c.from.ensures in
    let month : to_z w32 (of_z w32 c.args.month) ≡ c.args.month = omega (arith, signed_casts) in
    let quotient = rw month at c.div_euclid.ensures in
    let more = wide_result c.div_euclid.result c.from-2.result (omega (arith, signed_arith, quotient, c.ranges.month)) c.from-2.ensures in
    rw (is, more, quotient) (small64 (c.args.year +ℤ int_div_euclid c.args.month (pos 12)) (omega (arith, signed_arith, c.ranges.year, c.ranges.month)) (omega (arith, signed_arith, c.ranges.year, c.ranges.month)))
