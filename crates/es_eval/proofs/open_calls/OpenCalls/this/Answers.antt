use Rattle.std.proofs.Common.{◌∙◌, ap}
use Rattle.std.specs.Prelude.{reverse}
use Rattle.std.proofs.lemmas.List.{length-reverse}
use Rattle.es_eval.specs.devices.OpenCalls.{this_of}
use Rattle.es_eval.proofs.OpenLemmas.{this-joined}
use Rattle.es_eval.proofs.open_calls.OpenCalls.this.Goals as goal

pub returns : goal.returns
returns c =
    let same = length-reverse c.self.inside.functions.items ∙ c.self.invariant in
    c.this.ensures
    ∙ this-joined (reverse c.self.inside.functions.items) c.self.inside.frames same
    ∙ ap this_of c.self.view_is
