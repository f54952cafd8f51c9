use Rattle.std.proofs.Common.{arith}
use Rattle.style_cascade.specs.devices.Tables.{cell_place}
use Rattle.style_cascade.proofs.PlaceLemmas.{property_place-small, state_place-is, state_place-small}
use Rattle.style_cascade.proofs.tables.row_place.Goals as goal

pub overflow_add-result : goal.overflow_add-result
overflow_add-result c = omega (arith, state_place-is c.args.state, state_place-small c.args.state, property_place-small c.args.property, c.place_of.ensures)

pub returns-clause-place : goal.returns-clause-place
unfolding cell_place
returns-clause-place c = omega (arith, state_place-is c.args.state, c.place_of.ensures)

pub returns-clause-within : goal.returns-clause-within
returns-clause-within c = omega (arith, state_place-is c.args.state, state_place-small c.args.state, property_place-small c.args.property, c.place_of.ensures)
