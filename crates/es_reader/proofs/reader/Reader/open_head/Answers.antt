use Rattle.std.proofs.Common.{refl}
use Rattle.es_reader.proofs.LoopLemmas.{on-ok}
use Rattle.es_reader.proofs.reader.Reader.open_head.Goals as goal

pub returns : goal.returns
returns c = on-ok c.push.result _ _ (λ p. record { form = _; pushed = p; kind = refl; is = refl; start = refl; children = refl; height = refl; in_if = c.is_in_loop_behind-in_loop.ensures.in_if; in_loop = c.is_in_loop_behind-in_loop.ensures.in_loop; nodes = refl; function = refl; names = refl; top = refl; functions = refl; tall = refl }) c.push.ensures
