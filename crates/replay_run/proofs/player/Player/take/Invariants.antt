use Rattle.std.proofs.Common.{◌≡◌, ◌≤◌, ◌+◌, ℕ, option_map, false, Some}
use Rattle.bml_ports.specs.declared.outside.Port.TheVariants.{Stream}
use Rattle.receiver_core.specs.Receiving.{IsIdle}
use Rattle.replay_run.specs.declared.record.RecordItem.TheVariants.{Packets}
use Rattle.replay_run.specs.Ending.{end_told}
use Rattle.replay_run.specs.Files.{stream_limit}
use Rattle.replay_run.specs.Midway.{moment, Handles, IsReadable, KeepsArea, WasReadForPacket}
use Rattle.replay_run.specs.Midway.{item_of_count, loosely, work_left}
use Rattle.replay_run.specs.Outside.{outside}
use Rattle.replay_run.specs.Putting.{IsLater, outlets}
use Rattle.replay_run.specs.Stopping.{OnlyReads}
use Rattle.replay_run.proofs.PlayLaws.{Allows}
use Rattle.replay_run.proofs.player.Player.take.Given as goal

-- the packets so far were taken, and their pieces put out
abbrev pub invariant-packets : goal.invariant-packets
invariant-packets g l = record {
  within : l.self.bytes ≤ stream_limit;
  idle : IsIdle l.self.receiver;
  area : KeepsArea l.self;
  clock : l.self.receiver.clock ≡ l.initial.self.receiver.clock;
  readable : IsReadable l.self.cutter (g.W.World.told l.world);
  told : end_told (g.W.World.told l.world).stream ≡ l.self.cutter.ended;
  was_open : l.self.cutter.ended ≡ false → l.initial.self.cutter.ended ≡ false;
  reads : OnlyReads Stream (g.W.World.told l.initial.world) (g.W.World.told l.world);
  later : IsLater (outlets (g.K.Keeper.told l.initial.keeper) (g.S.Sink.told l.initial.out))
      (outlets (g.K.Keeper.told l.keeper) (g.S.Sink.told l.out));
  last_read : WasReadForPacket (item_of_count l.fn.most)
      (moment l.initial.self (outside (g.W.World.told l.initial.world)
      (g.K.Keeper.told l.initial.keeper) (g.S.Sink.told l.initial.out)))
      (outside (g.W.World.told l.initial.world) (g.K.Keeper.told l.initial.keeper)
      (g.S.Sink.told l.initial.out))
      (outside (g.W.World.told l.world) (g.K.Keeper.told l.keeper) (g.S.Sink.told l.out));
  until : l.last ≡ option_map (λ n. l.initial.self.packets + n) l.fn.most;
  taken : (count : ℕ) × (l.self.packets ≡ l.initial.self.packets + count) × Allows l.fn.most count
      × Handles (Packets count)
      (moment l.initial.self (outside (g.W.World.told l.initial.world)
      (g.K.Keeper.told l.initial.keeper) (g.S.Sink.told l.initial.out)))
      (loosely (moment l.self (outside (g.W.World.told l.world) (g.K.Keeper.told l.keeper)
      (g.S.Sink.told l.out))))
      × (l.last ≡ Some l.self.packets → Handles (Packets count)
      (moment l.initial.self (outside (g.W.World.told l.initial.world)
      (g.K.Keeper.told l.initial.keeper) (g.S.Sink.told l.initial.out)))
      (moment l.self (outside (g.W.World.told l.world) (g.K.Keeper.told l.keeper)
      (g.S.Sink.told l.out))));
}

abbrev pub decreases-packets : goal.decreases-packets
decreases-packets g l = work_left l.self.cutter l.self.bytes
