use Rattle.std.proofs.Common.{◌∙◌, ap, length}
use Rattle.es_values.specs.Objects.{ObjectState}
use Rattle.es_values.specs.Heaps.{has_property, object_at, without_property}
use Rattle.es_values.proofs.SoundLemmas.{live-without, object-read, set-read, sound-read}
use Rattle.es_values.proofs.heaps.Heap.remove.Goals as goal

pub invariant_of-self : goal.invariant_of-self
invariant_of-self c =
    let inside = c.self.inside.objects.items in
    sound-read c.args.self.now inside c.args.object c.index_mut.result.now c.remove.new.self (λ o. without_property o c.args.name.now) c.self.invariant c.self.view_is c.requires c.index_mut.ensures.value c.remove.ensures.without
    (live-without (length inside) (object_at inside c.args.object) c.args.name.now)

pub returns-clause-there : goal.returns-clause-there
returns-clause-there c =
    c.remove.ensures.there
    ∙ ap (λ (o : ObjectState). has_property o c.args.name.now) (object-read c.args.self.now c.self.inside.objects.items c.args.object c.index_mut.result.now c.self.view_is c.requires c.index_mut.ensures.value)

pub returns-clause-without : goal.returns-clause-without
returns-clause-without c = set-read c.args.self.now c.self.inside.objects.items c.args.object c.index_mut.result.now c.remove.new.self (λ o. without_property o c.args.name.now) c.self.view_is c.requires c.index_mut.ensures.value c.remove.ensures.without
