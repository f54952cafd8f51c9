use Rattle.std.proofs.Common.{length, ap, sym, subst}
use Rattle.std.proofs.lemmas.Result.{on_ok_weaker}
use Rattle.es_values.specs.Values.{IsLiveAmong}
use Rattle.es_values.specs.Heaps.{object_at, with_property}
use Rattle.es_values.proofs.SoundLemmas.{live-with_property, set-read, sound-read_if}
use Rattle.es_values.proofs.heaps.Heap.put_property.Goals as goal

pub invariant_of-self : goal.invariant_of-self
invariant_of-self c =
    let inside = c.self.inside.objects.items in
    let live = subst (λ n. IsLiveAmong n c.args.value) (sym (ap length c.self.view_is)) c.requires.value in
    sound-read_if c.put.result c.args.self.now inside c.args.object c.index_mut.result.now c.put.new.self (λ o. with_property o c.args.name c.args.value) c.self.invariant c.self.view_is c.requires.object c.index_mut.ensures.value c.put.ensures.ok c.put.ensures.err
    (λ h. live-with_property (length inside) (object_at inside c.args.object) c.args.name c.args.value h live)

pub returns-clause-ok : goal.returns-clause-ok
returns-clause-ok c =
    on_ok_weaker c.put.result
    (set-read c.args.self.now c.self.inside.objects.items c.args.object c.index_mut.result.now c.put.new.self (λ o. with_property o c.args.name c.args.value) c.self.view_is c.requires.object c.index_mut.ensures.value)
    c.put.ensures.ok
