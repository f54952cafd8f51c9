-- The quotient is of the difference of both moments' seconds.
use Rattle.std.proofs.Common.{◌≡◌, ◌∙◌, ◌-ℤ◌, arith, to_z, of_z, w64}
use Rattle.std.specs.Prelude.{int_div}
use Rattle.jiff_core.proofs.SignedLemmas.{signed_arith, signed_casts}
use Rattle.es_date.specs.Moments.{seconds_of, unit_length}
use Rattle.es_date.proofs.MomentLemmas.{quotient_is_small, small64, tried_32}
use Rattle.es_date.proofs.moments.Moment.units_since.Goals as goal
use Rattle.es_date.proofs.moments.Moment.units_since.Goals.{After-seconds-3}

difference : (c : After-seconds-3) → to_z w64 (of_z w64 (to_z w64 (of_z w64 c.seconds.result) -ℤ to_z w64 (of_z w64 c.seconds-2.result))) ≡ seconds_of c.args.self -ℤ seconds_of c.args.earlier
difference c =
    let later : to_z w64 (of_z w64 c.seconds.result) ≡ seconds_of c.args.self = omega (arith, signed_casts, c.seconds.ensures) in
    let earlier : to_z w64 (of_z w64 c.seconds-2.result) ≡ seconds_of c.args.earlier = omega (arith, signed_casts, c.seconds-2.ensures) in
    rw (later, earlier) (small64 (seconds_of c.args.self -ℤ seconds_of c.args.earlier) (omega (arith, signed_arith, c.seconds.ensures, c.seconds-2.ensures)) (omega (arith, signed_arith, c.seconds.ensures, c.seconds-2.ensures)))

unit : (c : After-seconds-3) → to_z w64 (of_z w64 c.seconds-3.result) ≡ unit_length c.args.unit
unit c = omega (arith, signed_casts, c.seconds-3.ensures)

pub nonzero_div-units : goal.nonzero_div-units
nonzero_div-units c =
    let small = quotient_is_small (seconds_of c.args.self -ℤ seconds_of c.args.earlier) c.args.unit
    (omega (arith, signed_arith, c.seconds.ensures, c.seconds-2.ensures)) (omega (arith, signed_arith, c.seconds.ensures, c.seconds-2.ensures)) in
    (omega (arith, signed_casts, c.seconds-3.ensures), rw (difference c, unit c) (omega (arith, signed_arith, small)))

pub returns : goal.returns
returns c =
    let small = quotient_is_small (seconds_of c.args.self -ℤ seconds_of c.args.earlier) c.args.unit
    (omega (arith, signed_arith, c.seconds.ensures, c.seconds-2.ensures)) (omega (arith, signed_arith, c.seconds.ensures, c.seconds-2.ensures)) in
    let quotient : to_z w64 (of_z w64 (int_div (seconds_of c.args.self -ℤ seconds_of c.args.earlier) (unit_length c.args.unit))) ≡ int_div (seconds_of c.args.self -ℤ seconds_of c.args.earlier) (unit_length c.args.unit) =
    small64 (int_div (seconds_of c.args.self -ℤ seconds_of c.args.earlier) (unit_length c.args.unit)) (omega (arith, signed_arith, small)) (omega (arith, signed_arith, small)) in
    let tried = rw (difference c.before.before, unit c.before.before, quotient) at c.try_from.ensures in
    c.ok.ensures.value ∙ tried_32 (int_div (seconds_of c.args.self -ℤ seconds_of c.args.earlier) (unit_length c.args.unit)) c.try_from.result tried
