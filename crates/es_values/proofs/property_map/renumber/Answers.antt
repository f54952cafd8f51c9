use Rattle.std.proofs.Common.{arith, refl}
use Rattle.std.specs.Prelude.{length}
use Rattle.std.proofs.lemmas.Option.{slice_get_read}
use Rattle.es_values.proofs.SlotLemmas.{numbered-all, numbered-next, numbered-none}
use Rattle.es_values.proofs.property_map.renumber.Goals as goal

pub loop-place-init : goal.loop-place-init
loop-place-init c = numbered-none c.args.places.now.entries c.args.slots.now c.requires.names

pub loop-place-preserved : goal.loop-place-preserved
loop-place-preserved c =
    let slots = c.args.slots.now in
    let slot = c.index-slots-place.result in
    numbered-next c.loop-place.place c.loop-place.places.entries c.renumber_slot.new.places.entries slots slot c.requires.distinct
    (slice_get_read slots (length slots) c.loop-place.place slot refl c.loop-place-test.true c.index-slots-place.is) c.renumber_slot.ensures c.loop-place.invariant

pub returns : goal.returns
returns c = numbered-all c.loop-place.place c.loop-place.places.entries c.args.slots.now (omega arith) c.requires.distinct c.loop-place.invariant
