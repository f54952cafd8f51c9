use Rattle.std.proofs.Common.{ℕ, ◌+◌, ◌*◌, ap}
use Rattle.style_cascade.specs.devices.Marks.{mark_place}
use Rattle.style_cascade.proofs.values.mark_place.Goals as goal

pub returns-clause-place : goal.returns-clause-place
unfolding mark_place
returns-clause-place c = ap (λ (k : ℕ). k * c.args.nodes + c.args.node.0) c.row_place.ensures.place
