use Rattle.std.proofs.Common.{length}
use Rattle.es_values.specs.Heaps.{object_at, with_length}
use Rattle.es_values.proofs.SoundLemmas.{live-with_length, set-read, sound-read}
use Rattle.es_values.proofs.heaps.Heap.set_length.Goals as goal

pub invariant_of-self : goal.invariant_of-self
invariant_of-self c =
    let inside = c.self.inside.objects.items in
    sound-read c.args.self.now inside c.args.object c.index_mut.result.now c.set_length.new.self (λ o. with_length o c.args.number) c.self.invariant c.self.view_is c.requires c.index_mut.ensures.value c.set_length.ensures
    (live-with_length (length inside) (object_at inside c.args.object) c.args.number)

pub returns-clause-length : goal.returns-clause-length
returns-clause-length c = set-read c.args.self.now c.self.inside.objects.items c.args.object c.index_mut.result.now c.set_length.new.self (λ o. with_length o c.args.number) c.self.view_is c.requires c.index_mut.ensures.value c.set_length.ensures
