use Rattle.std.proofs.Common.{◌∙◌, length, ap}
use Rattle.std.specs.Prelude.{nat_lt, reverse}
use Rattle.std.proofs.lemmas.List.{length-reverse}
use Rattle.es_eval.specs.devices.OpenCalls.{joined, values_of, with_value}
use Rattle.es_eval.proofs.OpenLemmas.{set-joined, values-joined}
use Rattle.es_eval.proofs.open_calls.OpenCalls.set_slot.Goals as goal

pub returns-clause-there : goal.returns-clause-there
returns-clause-there c =
    let same = length-reverse c.self.inside.functions.items ∙ c.self.invariant in
    c.set_slot.ensures.there
    ∙ ap (λ values. nat_lt c.args.place (length values))
    (values-joined (reverse c.self.inside.functions.items) c.self.inside.frames same
    ∙ ap values_of c.self.view_is)

pub returns-clause-value : goal.returns-clause-value
returns-clause-value c =
    let functions = reverse c.self.inside.functions.items in
    let same = length-reverse c.self.inside.functions.items ∙ c.self.invariant in
    ap (joined functions) c.set_slot.ensures.value
    ∙ set-joined functions c.self.inside.frames c.args.place c.args.value same
    ∙ ap (λ calls. with_value calls c.args.place c.args.value) c.self.view_is
