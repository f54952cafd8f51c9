use Rattle.std.proofs.Common.{◌≡◌, ◌∙◌, sym, subst, ap, List}
use Rattle.std.specs.Prelude.{All}
use Rattle.std.proofs.lemmas.Result.{IfOk-weaker}
use Rattle.es_values.specs.declared.values.Value.{Value}
use Rattle.es_values.specs.Arrays.{elements_of}
use Rattle.es_values.specs.Heaps.{IsLive}
use Rattle.es_values.specs.Objects.{ObjectState}
use Rattle.es_values.proofs.HeldLemmas.{live-elements}
use Rattle.es_values.proofs.heaps.Heap.elements.Goals as goal

pub returns-clause-live : goal.returns-clause-live
returns-clause-live c =
    let heap = c.args.self.now in
    let live = live-elements heap c.args.object c.is_sound.ensures in
    IfOk-weaker c.elements.result (λ es. es.items ≡ elements_of c.object.result.now) (λ es. All (IsLive heap) es.items)
    (λ es e. subst (λ (vs : List Value). All (IsLive heap) vs) (sym (e ∙ ap (λ (o : ObjectState). elements_of o) c.object.ensures)) live) c.elements.ensures
