use Rattle.std.proofs.Common.{◌∙◌, ap}
use Rattle.std.specs.Prelude.{reverse}
use Rattle.std.proofs.lemmas.List.{length-reverse}
use Rattle.std.proofs.lemmas.Result.{on_ok_weaker}
use Rattle.es_eval.specs.devices.OpenCalls.{joined, with_item}
use Rattle.es_eval.proofs.OpenLemmas.{put-joined}
use Rattle.es_eval.proofs.open_calls.OpenCalls.put.Goals as goal

pub returns-clause-ok : goal.returns-clause-ok
returns-clause-ok c =
    let functions = reverse c.self.inside.functions.items in
    let same = length-reverse c.self.inside.functions.items ∙ c.self.invariant in
    on_ok_weaker c.put.result
    (λ is. ap (joined functions) is
    ∙ put-joined functions c.self.inside.frames c.args.item same
    ∙ ap (λ calls. with_item calls c.args.item) c.self.view_is) c.put.ensures.ok
