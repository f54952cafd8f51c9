use Rattle.std.proofs.Common.{◌∙◌, arith, refl, sym}
use Rattle.replay_run.proofs.RecordProgressLaws.{at_start}
use Rattle.replay_run.proofs.StoppingLaws.{told_open}
use Rattle.replay_run.proofs.record_items.RecordItems.new.Goals as goal

pub returns : goal.returns
returns c = record {
  start = λ world notes left. at_start notes _ left c.new.ensures.held c.new.ensures.ended refl refl;
  fresh = record { held = c.new.ensures.held; open_end = c.new.ensures.ended };
  within = omega arith;
  readable = λ world readable ended. readable;
  told = λ world readable. told_open world.notes readable ∙ sym c.new.ensures.ended;
}
