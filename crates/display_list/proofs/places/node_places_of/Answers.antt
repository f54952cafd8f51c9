use Rattle.display_list.specs.devices.Views.{shown_in}
use Rattle.display_list.proofs.PlaceLemmas.{ArePlaces-more, ArePlaces-none}
use Rattle.display_list.proofs.places.node_places_of.Goals as goal

pub nodes-init : goal.nodes-init
nodes-init c = ArePlaces-none (shown_in c.args.tree.now c.args.styles.now) _ (c.in_ok-places.ensures {u = tt}).items

pub nodes-preserved : goal.nodes-preserved
nodes-preserved c = ArePlaces-more (shown_in c.args.tree.now c.args.styles.now) c.nodes.number c.nodes.places.items _ c.of-place.result c.nodes.invariant c.of-place.ensures.place c.of-place.ensures.near (c.in_ok-push.ensures {u = tt}).items
