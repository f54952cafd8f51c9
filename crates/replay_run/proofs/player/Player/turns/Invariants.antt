use Rattle.std.proofs.Common.{◌≡◌}
use Rattle.bml_ports.specs.Worlds.{WorldState}
use Rattle.receiver_core.specs.Receiving.{sections_left}
use Rattle.replay_run.specs.Midway.{moment, Goes, KeepsArea}
use Rattle.replay_run.specs.Outside.{outside}
use Rattle.replay_run.specs.Putting.{IsLater, outlets}
use Rattle.replay_run.proofs.player.Player.turns.Given as goal

-- the turns so far were made, and their pieces put out
abbrev pub invariant-turns : goal.invariant-turns
invariant-turns g l = record {
  goes : (world : WorldState)
      → Goes (moment l.initial.self
      (outside world (g.K.Keeper.told l.initial.keeper) (g.S.Sink.told l.initial.out)))
      (moment l.self (outside world (g.K.Keeper.told l.keeper) (g.S.Sink.told l.out)));
  area : KeepsArea l.self;
  bytes : l.self.bytes ≡ l.initial.self.bytes;
  packets : l.self.packets ≡ l.initial.self.packets;
  cutter : l.self.cutter ≡ l.initial.self.cutter;
  clock : l.self.receiver.clock ≡ l.initial.self.receiver.clock;
  later : IsLater (outlets (g.K.Keeper.told l.initial.keeper) (g.S.Sink.told l.initial.out))
      (outlets (g.K.Keeper.told l.keeper) (g.S.Sink.told l.out));
}

abbrev pub decreases-turns : goal.decreases-turns
decreases-turns g l = sections_left l.self.receiver
