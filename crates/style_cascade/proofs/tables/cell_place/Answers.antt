use Rattle.std.proofs.Common.{arith}
use Rattle.style_cascade.specs.devices.Tables.{cell_place}
use Rattle.style_cascade.proofs.tables.cell_place.Goals as goal

pub returns-clause-place : goal.returns-clause-place
unfolding cell_place
returns-clause-place c = omega (arith, c.row_place.ensures.place)
