-- Each step is far from the ends of 64 bits.
use Rattle.std.proofs.Common.{◌≡◌, pos, ◌+ℤ◌, ◌*ℤ◌, arith, to_z, of_z, w64}
use Rattle.jiff_core.proofs.SignedLemmas.{signed_arith}
use Rattle.es_date.proofs.MomentLemmas.{small64, wide_result}
use Rattle.es_date.proofs.moments.time_of.Goals as goal
use Rattle.es_date.proofs.moments.time_of.Goals.{After-from-2, After-from-3}

hours : (c : After-from-2) → to_z w64 (of_z w64 (to_z w64 (of_z w64 c.from.result) *ℤ pos 3600)) ≡ c.args.hour *ℤ pos 3600
hours c =
    let is = wide_result c.args.hour c.from.result c.ranges.hour c.from.ensures in
    rw is (small64 (c.args.hour *ℤ pos 3600) (omega (arith, signed_arith)) (omega (arith, signed_arith)))

minutes : (c : After-from-2) → to_z w64 (of_z w64 (to_z w64 (of_z w64 c.from-2.result) *ℤ pos 60)) ≡ c.args.minute *ℤ pos 60
minutes c =
    let is = wide_result c.args.minute c.from-2.result c.ranges.minute c.from-2.ensures in
    rw is (small64 (c.args.minute *ℤ pos 60) (omega (arith, signed_arith)) (omega (arith, signed_arith)))

pub overflow_add-result : goal.overflow_add-result
overflow_add-result c = rw (hours c, minutes c) (omega (arith, signed_arith))

sum : (c : After-from-3) → to_z w64 (of_z w64 (to_z w64 (of_z w64 (to_z w64 (of_z w64 c.from.result) *ℤ pos 3600)) +ℤ to_z w64 (of_z w64 (to_z w64 (of_z w64 c.from-2.result) *ℤ pos 60)))) ≡ c.args.hour *ℤ pos 3600 +ℤ c.args.minute *ℤ pos 60
sum c = rw (hours c.before, minutes c.before) (small64 (c.args.hour *ℤ pos 3600 +ℤ c.args.minute *ℤ pos 60) (omega (arith, signed_arith)) (omega (arith, signed_arith)))

seconds : (c : After-from-3) → to_z w64 (of_z w64 c.from-3.result) ≡ c.args.second
seconds c = wide_result c.args.second c.from-3.result c.ranges.second c.from-3.ensures

all : (c : After-from-3) → to_z w64 (of_z w64 (to_z w64 (of_z w64 (to_z w64 (of_z w64 (to_z w64 (of_z w64 c.from.result) *ℤ pos 3600)) +ℤ to_z w64 (of_z w64 (to_z w64 (of_z w64 c.from-2.result) *ℤ pos 60)))) +ℤ to_z w64 (of_z w64 c.from-3.result))) ≡ c.args.hour *ℤ pos 3600 +ℤ c.args.minute *ℤ pos 60 +ℤ c.args.second
all c = rw (sum c, seconds c) (small64 (c.args.hour *ℤ pos 3600 +ℤ c.args.minute *ℤ pos 60 +ℤ c.args.second) (omega (arith, signed_arith)) (omega (arith, signed_arith)))

pub overflow_add-result-2 : goal.overflow_add-result-2
overflow_add-result-2 c = rw (sum c, seconds c) (omega (arith, signed_arith))

pub returns-clause-value : goal.returns-clause-value
returns-clause-value c = all c

pub returns-clause-low : goal.returns-clause-low
returns-clause-low c = rw (all c) (omega (arith, signed_arith))

pub returns-clause-high : goal.returns-clause-high
returns-clause-high c = rw (all c) (omega (arith, signed_arith))
