-- The quotient is the day, and what is left of it the second.
use Rattle.std.proofs.Common.{◌≡◌, sym, ◌∙◌, true, false, pos, neg_ℤ, arith, to_z, of_z, w32, w64, unsigned_abs}
use Rattle.std.specs.Int.{int_div_euclid, int_rem_euclid}
use Rattle.jiff_core.proofs.SignedLemmas.{signed_casts}
use Rattle.es_date.proofs.MomentLemmas.{between-parts, moment_at-none, moment_at-some, second_of_day}
use Rattle.es_date.specs.Moments.{is_day_number}
use Rattle.es_date.proofs.moments.Moment.at.Goals as goal

pub returns-then-is_day : goal.returns-then-is_day
returns-then-is_day c =
    let whole : to_z w64 (of_z w64 c.args.seconds) ≡ c.args.seconds = omega (arith, signed_casts) in
    let quotient = rw whole at c.div_euclid-day.ensures in
    let left = rw whole at c.rem_euclid-second.ensures.value in
    let same : to_z w64 (of_z w64 c.div_euclid-day.result) ≡ int_div_euclid c.args.seconds (pos 86400) = omega (arith, signed_casts, quotient) in
    let good : is_day_number (int_div_euclid c.args.seconds (pos 86400)) ≡ true = rw same at (sym c.is_day.ensures ∙ c.if-is_day.true) in
    let parts = between-parts (neg_ℤ (pos 25567)) (pos 157053) (int_div_euclid c.args.seconds (pos 86400)) good in
    let day : to_z w32 (of_z w32 (to_z w64 (of_z w64 c.div_euclid-day.result))) ≡ int_div_euclid c.args.seconds (pos 86400) = omega (arith, signed_casts, same, parts) in
    let second : unsigned_abs (to_z w64 (of_z w64 c.rem_euclid-second.result)) ≡ unsigned_abs (int_rem_euclid c.args.seconds (pos 86400)) = omega (arith, signed_casts, left) in
    record {
      moment = rw (day, second) (sym (moment_at-some c.args.seconds good));
      range = rw (day, second) (record { day = parts; second = second_of_day c.args.seconds });
    }

pub returns-else-is_day : goal.returns-else-is_day
returns-else-is_day c =
    let whole : to_z w64 (of_z w64 c.args.seconds) ≡ c.args.seconds = omega (arith, signed_casts) in
    let quotient = rw whole at c.div_euclid-day.ensures in
    let same : to_z w64 (of_z w64 c.div_euclid-day.result) ≡ int_div_euclid c.args.seconds (pos 86400) = omega (arith, signed_casts, quotient) in
    let bad : is_day_number (int_div_euclid c.args.seconds (pos 86400)) ≡ false = rw same at (sym c.is_day.ensures ∙ c.if-is_day.false) in
    record { moment = sym (moment_at-none c.args.seconds bad); range = tt }
