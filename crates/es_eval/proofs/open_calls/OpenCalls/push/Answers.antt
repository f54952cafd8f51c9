use Rattle.std.proofs.Common.{◌∙◌, length, ap, arith}
use Rattle.std.specs.Prelude.{reverse}
use Rattle.std.proofs.lemmas.List.{length-reverse}
use Rattle.es_eval.proofs.OpenLemmas.{length-joined}
use Rattle.es_eval.proofs.open_calls.OpenCalls.push.Goals as goal

pub push-requires : goal.push-requires
push-requires c =
    let same = length-reverse c.self.inside.functions.items ∙ c.self.invariant in
    record {
      depth =
          omega (
            arith,
            c.requires.depth,
            length-joined (reverse c.self.inside.functions.items) c.self.inside.frames same,
            ap length c.self.view_is,
          );
    }
