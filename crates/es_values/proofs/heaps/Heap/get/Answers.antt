use Rattle.std.proofs.Common.{◌≡◌, ◌∙◌, sym, subst, ap}
use Rattle.std.proofs.lemmas.Result.{IfOk-weaker}
use Rattle.es_values.specs.Heaps.{IsLive, value_of}
use Rattle.es_values.specs.Objects.{ObjectState}
use Rattle.es_values.proofs.SoundLemmas.{live-value}
use Rattle.es_values.proofs.heaps.Heap.get.Goals as goal

pub returns-clause-live : goal.returns-clause-live
returns-clause-live c =
    let heap = c.args.self.now in
    let live = live-value heap c.args.object c.args.name.now c.is_sound.ensures in
    IfOk-weaker c.get.result (λ v. v ≡ value_of c.object.result.now c.args.name.now) (λ v. IsLive heap v)
    (λ v e. subst (λ x. IsLive heap x) (sym (e ∙ ap (λ (o : ObjectState). value_of o c.args.name.now) c.object.ensures)) live) c.get.ensures
