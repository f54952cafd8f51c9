use Rattle.std.proofs.Common.{◌∙◌, arith, refl, subst, sym, []}
use Rattle.receiver_core.specs.Receiving.{StandsFor}
use Rattle.replay_run.proofs.ProgressLaws.{between_start}
use Rattle.replay_run.proofs.StoppingLaws.{told_open}
use Rattle.replay_run.proofs.player.Player.new.Goals as goal

pub returns-clause-starts : goal.returns-clause-starts
returns-clause-starts c = record {
  start = λ told read stream notes before begun left. between_start (record {
    read = read;
    selection = c.args.selection;
    area = c.area.inside.bytes;
    stream = stream;
    notes = notes;
    before = before;
  }) _ told left refl begun refl c.new.ensures.held c.new.ensures.ended refl refl
      (λ right. subst (λ area. StandsFor read c.args.selection area c.in_ok-new.field-0 [] [])
      (sym c.area.view_is) (c.in_ok-new.ensures.stands read right));
  idle = c.in_ok-new.ensures.idle;
  keeps = c.area.view_is ∙ sym c.in_ok-new.ensures.area;
  clock = c.in_ok-new.ensures.clock;
  packets = refl;
  within = omega arith;
  readable = λ world readable ended. readable;
  told = λ world readable. told_open world.stream readable ∙ sym c.new.ensures.ended;
}
