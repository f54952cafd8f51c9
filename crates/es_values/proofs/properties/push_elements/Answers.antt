use Rattle.es_values.proofs.JoinLemmas.{joined-none, joined-next}
use Rattle.es_values.proofs.properties.push_elements.Goals as goal

pub loop-place-init : goal.loop-place-init
loop-place-init c = joined-none c.args.out.now.items c.args.properties.now c.args.separator.now

pub loop-place-preserved : goal.loop-place-preserved
loop-place-preserved c = joined-next c.args.out.now.items c.loop-place.out.items c.push_element.new.out.items c.args.properties.now c.args.separator.now c.loop-place.place c.loop-place.invariant c.in_ok-push_element.ensures
