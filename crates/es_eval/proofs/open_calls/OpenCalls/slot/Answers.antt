use Rattle.std.proofs.Common.{◌∙◌, ap}
use Rattle.std.specs.Prelude.{reverse, slice_get}
use Rattle.std.proofs.lemmas.List.{length-reverse}
use Rattle.es_eval.specs.devices.OpenCalls.{values_of}
use Rattle.es_eval.proofs.OpenLemmas.{values-joined}
use Rattle.es_eval.proofs.open_calls.OpenCalls.slot.Goals as goal

pub returns : goal.returns
returns c =
    let same = length-reverse c.self.inside.functions.items ∙ c.self.invariant in
    c.slot.ensures
    ∙ ap (λ values. slice_get values c.args.place)
    (values-joined (reverse c.self.inside.functions.items) c.self.inside.frames same
    ∙ ap values_of c.self.view_is)
