-- What is handed to `at` are the seconds of the fields.
use Rattle.std.proofs.Common.{◌≡◌, sym, ◌∙◌, true, pos, arith, rules, ap, to_z, of_z, w64}
use Rattle.jiff_core.proofs.SignedLemmas.{signed_casts}
use Rattle.es_date.proofs.MomentLemmas.{between-parts, kept32, moment_of_fields-none, moment_of_fields-some, narrow_year, year_from}
use Rattle.es_date.specs.Moments.{carried_year, is_year, moment_at}
use Rattle.es_date.proofs.moments.Moment.of_fields.Goals as goal

pub returns-then-not-is_year : goal.returns-then-not-is_year
returns-then-not-is_year c =
    let year = year_from c.args.fields.year c.args.fields.month c.year_of_month-year.result (search rules) (search rules) c.year_of_month-year.ensures in
    record {
      moment = sym (moment_of_fields-none c.args.fields (rw year at (sym c.is_year.ensures ∙ c.if-not-is_year.true)));
      range = tt;
    }

pub first_day-first-requires-clause-year : goal.first_day-first-requires-clause-year
first_day-first-requires-clause-year c =
    let year = year_from c.args.fields.year c.args.fields.month c.year_of_month-year.result (search rules) (search rules) c.year_of_month-year.ensures in
    let tested : is_year (carried_year c.args.fields) ≡ true = rw year at (sym c.is_year.ensures ∙ c.if-not-is_year.false) in
    let good = between-parts (pos 1900) (pos 2399) (carried_year c.args.fields) tested in
    rw (narrow_year (carried_year c.args.fields) (to_z w64 (of_z w64 c.year_of_month-year.result)) good year) good

pub returns : goal.returns
returns c =
    let year = year_from c.args.fields.year c.args.fields.month c.year_of_month-year.result (search rules) (search rules) c.year_of_month-year.ensures in
    let tested : is_year (carried_year c.args.fields) ≡ true = rw year at (sym c.is_year.ensures ∙ c.if-not-is_year.false) in
    let good = between-parts (pos 1900) (pos 2399) (carried_year c.args.fields) tested in
    let narrow = narrow_year (carried_year c.args.fields) (to_z w64 (of_z w64 c.year_of_month-year.result)) good year in
    let month = kept32 c.args.fields.month (search rules) in
    let counted = rw month at c.month_of_year.ensures.value in
    let first = rw (narrow, counted) at c.first_day-first.ensures.number in
    let hour = kept32 c.args.fields.hour (search rules) in
    let minute = kept32 c.args.fields.minute (search rules) in
    let second = kept32 c.args.fields.second (search rules) in
    let time = rw (hour, minute, second) at c.time_of-time.ensures.value in
    let day = kept32 c.args.fields.day (search rules) in
    let first_same : to_z w64 (of_z w64 c.first_day-first.result) ≡ c.first_day-first.result = omega (arith, signed_casts, c.first_day-first.ensures.bound) in
    let time_same : to_z w64 (of_z w64 c.time_of-time.result) ≡ c.time_of-time.result = omega (arith, signed_casts, c.time_of-time.ensures.low, c.time_of-time.ensures.high) in
    let made = rw (first_same, time_same, day, first, time) at c.seconds_from.ensures in
    let wide : to_z w64 (of_z w64 c.seconds_from.result) ≡ c.seconds_from.result = search rules in
    record {
      moment = c.at.ensures.moment ∙ ap moment_at (wide ∙ made) ∙ sym (moment_of_fields-some c.args.fields tested);
      range = c.at.ensures.range;
    }
