use Rattle.std.proofs.Common.{◌≡◌, ◌+◌, ℕ}
use Rattle.bml_ports.specs.Worlds.{WorldState}
use Rattle.receiver_core.specs.Receiving.{IsIdle}
use Rattle.replay_run.specs.Midway.{moment, KeepsArea, Passes}
use Rattle.replay_run.specs.Outside.{outside}
use Rattle.replay_run.specs.Putting.{IsLater, outlets}
use Rattle.replay_run.proofs.player.Player.pass_time.Given as goal

-- the time so far passed, and the pieces of its turns were put out
abbrev pub invariant-steps : goal.invariant-steps
invariant-steps g l = record {
  passed : (time : ℕ) × (time + l.left ≡ l.fn.count)
      × ((world : WorldState) → Passes time (moment l.initial.self
      (outside world (g.K.Keeper.told l.initial.keeper) (g.S.Sink.told l.initial.out)))
      (moment l.self (outside world (g.K.Keeper.told l.keeper) (g.S.Sink.told l.out))));
  idle : IsIdle l.self.receiver;
  area : KeepsArea l.self;
  bytes : l.self.bytes ≡ l.initial.self.bytes;
  packets : l.self.packets ≡ l.initial.self.packets;
  cutter : l.self.cutter ≡ l.initial.self.cutter;
  clock : l.self.receiver.clock + l.left ≡ l.initial.self.receiver.clock + l.fn.count;
  later : IsLater (outlets (g.K.Keeper.told l.initial.keeper) (g.S.Sink.told l.initial.out))
      (outlets (g.K.Keeper.told l.keeper) (g.S.Sink.told l.out));
}

abbrev pub decreases-steps : goal.decreases-steps
decreases-steps g l = l.left
