use Rattle.std.proofs.Common.{◌∙◌, ap, false, sym}
use Rattle.es_values.specs.Objects.{ObjectState}
use Rattle.es_values.specs.Heaps.{new_object, with_property}
use Rattle.es_values.proofs.SoundLemmas.{properties-put}
use Rattle.es_values.proofs.objects.Object.of_properties.Goals as goal

pub loop-name-preserved : goal.loop-name-preserved
loop-name-preserved c =
    c.in_ok-put.ensures.ok
    ∙ (ap (λ (o : ObjectState). with_property o c.in-Some.name c.in-Some.value) c.loop-name.invariant
    ∙ sym (properties-put (new_object false) c.loop-name.yielded (c.in-Some.name, c.in-Some.value)))
