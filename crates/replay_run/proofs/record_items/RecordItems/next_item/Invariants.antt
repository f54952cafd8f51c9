use Rattle.std.proofs.Common.{◌≡◌, ◌≤◌, ℕ, List}
use Rattle.bml_ports.specs.declared.outside.Port.TheVariants as ports
use Rattle.replay_run.specs.declared.record.RecordItem.{RecordItem}
use Rattle.replay_run.specs.Ending.{end_told}
use Rattle.replay_run.specs.Files.{record_limit}
use Rattle.replay_run.specs.RecordProgress.{record_state, IsAt, IsReadable, work_left}
use Rattle.replay_run.specs.Stopping.{OnlyReads}
use Rattle.replay_run.proofs.RecordProgressLaws.{ReadsOrRests}
use Rattle.replay_run.proofs.record_items.RecordItems.next_item.Given as goal

-- lines were passed over that ask for nothing, and bytes were read
abbrev pub invariant-lines : goal.invariant-lines
invariant-lines g l = record {
  within : l.self.bytes ≤ record_limit;
  further : l.initial.self.lines ≤ l.self.lines;
  readable : IsReadable l.self.reader (g.W.World.told l.world);
  told : end_told (g.W.World.told l.world).notes ≡ l.self.reader.ended;
  reads : OnlyReads ports.Notes (g.W.World.told l.initial.world) (g.W.World.told l.world);
  goes : (notes : List ℕ) (items : List RecordItem)
      → IsAt notes (record_state l.initial.self (g.W.World.told l.initial.world)) items
      → IsAt notes (record_state l.self (g.W.World.told l.world)) items;
  last_read : ReadsOrRests (record_state l.initial.self (g.W.World.told l.initial.world))
      (g.W.World.told l.initial.world) (g.W.World.told l.world) l.self.reader;
}

abbrev pub decreases-lines : goal.decreases-lines
decreases-lines g l = work_left l.self.reader l.self.bytes
