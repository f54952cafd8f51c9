use Rattle.es_values.proofs.HeldLemmas.{sound-pushed_object}
use Rattle.es_values.proofs.heaps.Heap.add_object.Goals as goal

pub invariant_of-self-2 : goal.invariant_of-self-2
invariant_of-self-2 c = sound-pushed_object c.args.self.now c.self.inside.objects.items c.push.new.self.items c.in_ok-added.added c.args.properties.items c.self.invariant c.self.view_is c.in_ok-added.ensures c.in_ok-push.ensures.items c.requires
