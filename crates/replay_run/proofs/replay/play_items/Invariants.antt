use Rattle.std.proofs.Common.{◌≡◌, ◌≤◌, ℕ, ◌-◌, ◌*◌, List, Some, false}
use Rattle.es_reader.specs.Readers.{Reader}
use Rattle.receiver_core.specs.Receiving.{IsIdle}
use Rattle.replay_run.specs.declared.record.RecordItem.{RecordItem}
use Rattle.replay_run.specs.Ending.{end_told}
use Rattle.replay_run.specs.Files.{stream_limit, record_limit}
use Rattle.replay_run.specs.Midway as midway
use Rattle.replay_run.specs.Order.{OnlyReadsBoth}
use Rattle.replay_run.specs.Outside.{Outside, outside}
use Rattle.replay_run.specs.Progress.{HasBegun, IsBetween}
use Rattle.replay_run.specs.Putting.{IsLater, outlets}
use Rattle.replay_run.specs.RecordProgress as progress
use Rattle.replay_run.proofs.ClockLaws.{IsEarly}
use Rattle.replay_run.proofs.LastReadLaws.{HoldsSoFar}
use Rattle.replay_run.proofs.replay.play_items.Given as goal

-- the items so far were handled
abbrev pub invariant-items : goal.invariant-items
invariant-items g l = record {
  idle : IsIdle l.player.receiver;
  area : midway.KeepsArea l.player;
  early : IsEarly l.player.receiver.clock l.items.lines;
  stream_within : l.player.bytes ≤ stream_limit;
  stream_readable : midway.IsReadable l.player.cutter (g.W.World.told l.world);
  stream_told : end_told (g.W.World.told l.world).stream ≡ l.player.cutter.ended;
  notes_told : end_told (g.W.World.told l.world).notes ≡ l.items.reader.ended;
  notes_within : l.items.bytes ≤ record_limit;
  notes_readable : progress.IsReadable l.items.reader (g.W.World.told l.world);
  reads : OnlyReadsBoth (g.W.World.told l.initial.world) (g.W.World.told l.world);
  later : IsLater (outlets (g.K.Keeper.told l.initial.keeper) (g.S.Sink.told l.initial.out))
      (outlets (g.K.Keeper.told l.keeper) (g.S.Sink.told l.out));
  goes : (read : Reader) (before : Outside)
      → HasBegun before (outside (g.W.World.told l.initial.world)
      (g.K.Keeper.told l.initial.keeper) (g.S.Sink.told l.initial.out))
      → (stream notes : List ℕ)
      → (g.W.World.told l.initial.world).stream.left ≡ Some stream
      → (g.W.World.told l.initial.world).notes.left ≡ Some notes
      → (items : List RecordItem)
      × IsBetween (record {
        read = read;
        selection = l.fn.selection;
        area = l.fn.player.kept;
        stream = stream;
        notes = notes;
        before = before;
      })
      (midway.moment l.player (outside (g.W.World.told l.world) (g.K.Keeper.told l.keeper)
      (g.S.Sink.told l.out))) items
      × progress.IsAt notes (progress.record_state l.items (g.W.World.told l.world)) items
      × (l.player.cutter.ended ≡ false → midway.TakeJust items l.player.packets)
      × HoldsSoFar (record {
        read = read;
        selection = l.fn.selection;
        area = l.fn.player.kept;
        stream = stream;
        notes = notes;
        before = before;
      }) l.items.reader
      (outside (g.W.World.told l.world) (g.K.Keeper.told l.keeper) (g.S.Sink.told l.out));
}

abbrev pub decreases-items : goal.decreases-items
decreases-items g l = 2 * record_limit - l.items.lines
