use Rattle.es_values.proofs.HeldLemmas.{sound-pushed}
use Rattle.es_values.proofs.heaps.Heap.add_array.Goals as goal

pub invariant_of-self-2 : goal.invariant_of-self-2
invariant_of-self-2 c = sound-pushed c.args.self.now c.self.inside.objects.items c.push.new.self.items c.in_ok-array.array c.args.elements.items c.self.invariant c.self.view_is c.in_ok-array.ensures.array c.in_ok-push.ensures.items c.requires
