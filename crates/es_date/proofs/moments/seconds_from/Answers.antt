-- Each step is far from the ends of 64 bits.
use Rattle.std.proofs.Common.{pos, ◌+ℤ◌, ◌-ℤ◌, ◌*ℤ◌, arith}
use Rattle.jiff_core.proofs.SignedLemmas.{signed_arith}
use Rattle.es_date.proofs.MomentLemmas.{small64, wide_result}
use Rattle.es_date.proofs.moments.seconds_from.Goals as goal

pub returns : goal.returns
returns c =
    let day = wide_result c.args.day c.from.result c.ranges.day c.from.ensures in
    let a = small64 (c.args.day -ℤ pos 1) (omega (arith, signed_arith, c.ranges.day)) (omega (arith, signed_arith, c.ranges.day)) in
    let first = small64 c.args.first (omega (arith, signed_arith, c.requires.first)) (omega (arith, signed_arith, c.requires.first)) in
    let b = small64 (c.args.first +ℤ (c.args.day -ℤ pos 1)) (omega (arith, signed_arith, c.ranges.day, c.requires.first)) (omega (arith, signed_arith, c.ranges.day, c.requires.first)) in
    let d = small64 ((c.args.first +ℤ (c.args.day -ℤ pos 1)) *ℤ pos 86400) (omega (arith, signed_arith, c.ranges.day, c.requires.first)) (omega (arith, signed_arith, c.ranges.day, c.requires.first)) in
    let time = small64 c.args.time (omega (arith, signed_arith, c.requires.low)) (omega (arith, signed_arith, c.requires.high)) in
    let e = small64 ((c.args.first +ℤ (c.args.day -ℤ pos 1)) *ℤ pos 86400 +ℤ c.args.time)
    (omega (arith, signed_arith, c.ranges.day, c.requires.first, c.requires.low)) (omega (arith, signed_arith, c.ranges.day, c.requires.first, c.requires.high)) in
    rw (day, a, first, b, d, time) e
