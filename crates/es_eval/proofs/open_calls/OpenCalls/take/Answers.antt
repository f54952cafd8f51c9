use Rattle.std.proofs.Common.{◌∙◌, ap}
use Rattle.std.specs.Prelude.{reverse}
use Rattle.std.proofs.lemmas.List.{length-reverse}
use Rattle.es_eval.specs.devices.OpenCalls.{joined, next_item, without_item}
use Rattle.es_eval.proofs.OpenLemmas.{next-joined, take-joined}
use Rattle.es_eval.proofs.open_calls.OpenCalls.take.Goals as goal

pub returns-clause-item : goal.returns-clause-item
returns-clause-item c =
    let same = length-reverse c.self.inside.functions.items ∙ c.self.invariant in
    c.take.ensures.item
    ∙ next-joined (reverse c.self.inside.functions.items) c.self.inside.frames same
    ∙ ap next_item c.self.view_is

pub returns-clause-without : goal.returns-clause-without
returns-clause-without c =
    let functions = reverse c.self.inside.functions.items in
    let same = length-reverse c.self.inside.functions.items ∙ c.self.invariant in
    ap (joined functions) c.take.ensures.without
    ∙ take-joined functions c.self.inside.frames same
    ∙ ap without_item c.self.view_is
