use Rattle.display_list.specs.devices.Views.{shown_in, ArePlaces}
use Rattle.display_list.proofs.places.node_places_of.Given as goal

abbrev pub invariant-nodes : goal.invariant-nodes
invariant-nodes l = ArePlaces (shown_in l.tree l.styles) l.number l.places.items
