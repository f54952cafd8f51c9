use Rattle.std.proofs.Common.{length, ap, sym, subst}
use Rattle.std.specs.Prelude.{All}
use Rattle.std.proofs.lemmas.Result.{on_ok_weaker}
use Rattle.es_values.specs.Arrays.{with_first_elements}
use Rattle.es_values.specs.Values.{IsLiveAmong}
use Rattle.es_values.specs.Heaps.{object_at}
use Rattle.es_values.proofs.HeldLemmas.{first-holds}
use Rattle.es_values.proofs.SoundLemmas.{set-read, sound-read_if}
use Rattle.es_values.proofs.heaps.Heap.set_elements.Goals as goal

pub invariant_of-self : goal.invariant_of-self
invariant_of-self c =
    let inside = c.self.inside.objects.items in
    let live = subst (λ n. All (IsLiveAmong n) c.args.elements.items) (sym (ap length c.self.view_is)) c.requires.live in
    sound-read_if c.set_elements.result c.args.self.now inside c.args.object c.index_mut.result.now c.set_elements.new.self (λ o. with_first_elements o c.args.elements.items) c.self.invariant c.self.view_is c.requires.object c.index_mut.ensures.value c.set_elements.ensures.ok c.set_elements.ensures.err
    (λ h. first-holds (IsLiveAmong (length inside)) (object_at inside c.args.object) c.args.elements.items h live)

pub returns-clause-ok : goal.returns-clause-ok
returns-clause-ok c =
    on_ok_weaker c.set_elements.result
    (set-read c.args.self.now c.self.inside.objects.items c.args.object c.index_mut.result.now c.set_elements.new.self (λ o. with_first_elements o c.args.elements.items) c.self.view_is c.requires.object c.index_mut.ensures.value)
    c.set_elements.ensures.ok
