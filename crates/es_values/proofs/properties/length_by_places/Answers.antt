use Rattle.es_values.proofs.JoinLemmas.{texts-next}
use Rattle.es_values.proofs.properties.length_by_places.Goals as goal

pub loop-place-preserved : goal.loop-place-preserved
loop-place-preserved c = texts-next c.args.properties.now c.loop-place.place c.loop-place.total c.in_ok-length_at.field-0 c.saturating_add-total.result c.in_ok-length_at.ensures c.saturating_add-total.ensures c.loop-place.invariant
