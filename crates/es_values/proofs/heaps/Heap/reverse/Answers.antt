use Rattle.std.proofs.Common.{length}
use Rattle.std.proofs.lemmas.Result.{on_ok_weaker}
use Rattle.es_values.specs.Arrays.{turned_object}
use Rattle.es_values.specs.Values.{IsLiveAmong}
use Rattle.es_values.specs.Heaps.{object_at}
use Rattle.es_values.proofs.HeldLemmas.{reversed-holds}
use Rattle.es_values.proofs.SoundLemmas.{set-read, sound-read_if}
use Rattle.es_values.proofs.heaps.Heap.reverse.Goals as goal

pub invariant_of-self : goal.invariant_of-self
invariant_of-self c =
    let inside = c.self.inside.objects.items in
    sound-read_if c.reverse.result c.args.self.now inside c.args.object c.index_mut.result.now c.reverse.new.self turned_object c.self.invariant c.self.view_is c.requires c.index_mut.ensures.value c.reverse.ensures.ok c.reverse.ensures.err
    (reversed-holds (IsLiveAmong (length inside)) (object_at inside c.args.object))

pub returns-clause-ok : goal.returns-clause-ok
returns-clause-ok c =
    on_ok_weaker c.reverse.result
    (set-read c.args.self.now c.self.inside.objects.items c.args.object c.index_mut.result.now c.reverse.new.self turned_object c.self.view_is c.requires c.index_mut.ensures.value)
    c.reverse.ensures.ok
