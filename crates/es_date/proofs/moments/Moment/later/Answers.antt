-- What is handed to `at` is the sum.
use Rattle.std.proofs.Common.{◌≡◌, ◌∙◌, ap, ◌+ℤ◌, ◌*ℤ◌, arith, to_z, of_z, w64}
use Rattle.jiff_core.proofs.SignedLemmas.{signed_casts}
use Rattle.es_date.specs.Moments.{moment_at, seconds_of, unit_length}
use Rattle.es_date.proofs.MomentLemmas.{product_is_small, wide_result}
use Rattle.es_date.proofs.moments.Moment.later.Goals as goal

pub returns : goal.returns
returns c =
    let count = wide_result c.args.count c.from.result c.ranges.count c.from.ensures in
    let unit : to_z w64 (of_z w64 c.seconds-2.result) ≡ unit_length c.args.unit = omega (arith, signed_casts, c.seconds-2.ensures) in
    let seconds : to_z w64 (of_z w64 c.seconds.result) ≡ seconds_of c.args.self = omega (arith, signed_casts, c.seconds.ensures) in
    let bounds = product_is_small c.args.count c.args.unit c.ranges.count in
    let product : to_z w64 (of_z w64 (c.args.count *ℤ unit_length c.args.unit)) ≡ c.args.count *ℤ unit_length c.args.unit = omega (arith, signed_casts, bounds) in
    let sum : to_z w64 (of_z w64 (seconds_of c.args.self +ℤ c.args.count *ℤ unit_length c.args.unit)) ≡ seconds_of c.args.self +ℤ c.args.count *ℤ unit_length c.args.unit =
    omega (arith, signed_casts, bounds, c.seconds.ensures) in
    record {
      moment = c.at.ensures.moment ∙ ap moment_at (rw (count, unit, seconds, product) sum);
      range = c.at.ensures.range;
    }
