use Rattle.std.proofs.Common.{◌∙◌, length, ap, sym}
use Rattle.std.specs.Prelude.{reverse}
use Rattle.std.proofs.lemmas.List.{length-reverse}
use Rattle.es_eval.proofs.OpenLemmas.{length-joined}
use Rattle.es_eval.proofs.open_calls.OpenCalls.depth.Goals as goal

pub returns : goal.returns
returns c =
    let same = length-reverse c.self.inside.functions.items ∙ c.self.invariant in
    c.depth.ensures
    ∙ sym (length-joined (reverse c.self.inside.functions.items) c.self.inside.frames same)
    ∙ ap length c.self.view_is
