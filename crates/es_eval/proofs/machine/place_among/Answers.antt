use Rattle.std.proofs.Common.{refl}
use Rattle.std.proofs.lemmas.Iterator.Adapters.{position_from-zero}
use Rattle.bml_bytes.specs.Words.{is_same}
use Rattle.es_eval.proofs.machine.place_among.Goals as goal

pub loop-local-init : goal.loop-local-init
loop-local-init c = record {
  counted = refl;
  ahead = position_from-zero (is_same c.args.name.now) c.args.locals.now;
}
