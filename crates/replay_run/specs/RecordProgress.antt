-- A device of the proofs: how far the record has been read. (What a run means is in `Meaning`.)
use Rattle.std.specs.Prelude.{◌≡◌, ◌≢◌, ◌⊎◌, ℕ, ◌+◌, ◌-◌, ◌*◌, ◌<◌, ◌≤◌, true, false, IsTrue, List}
use Rattle.std.specs.Prelude.{[]}
use Rattle.std.specs.Prelude.{◌∷◌, ◌++◌}
use Rattle.std.specs.Prelude.{All, length, Option, Some}
use Rattle.std.specs.List.{filter_map}
use Rattle.bml_ports.specs.Counters.{Counter, FaultedSince}
use Rattle.bml_ports.specs.Worlds.{PortState, WorldState}
use Rattle.std.specs.Io.KnownBytes.{Consumes}
use Rattle.replay_run.specs.declared.record_items.RecordItems.{RecordItems}
use Rattle.replay_run.specs.declared.record.RecordItem.{RecordItem}
use Rattle.replay_run.specs.declared.record.Line.{Line}
use Rattle.replay_run.specs.declared.record.Line.TheVariants.{Bad, Item as Read}
use Rattle.replay_run.specs.declared.status.Status.{Status}
use Rattle.replay_run.specs.declared.status.Status.TheVariants.{Done, Usage, BadRecord, OpenFault}
use Rattle.replay_run.specs.declared.status.Status.TheVariants.{ReadFault, WriteFault, KeepFault}
use Rattle.replay_run.specs.declared.status.Status.TheVariants.{BadArea, TooLong, NoMemory}
use Rattle.replay_run.specs.Ending.{end_told}
use Rattle.replay_run.specs.Files.{File, GaveMore, GaveAtMost, read_length, record_limit}
use Rattle.replay_run.specs.Midway.{ends_to_come}
use Rattle.replay_run.specs.Needs.{most_ahead}
use Rattle.replay_run.specs.Record.{lines_of, items_before_bad, first_bad, item_in}
use Rattle.replay_run.specs.RecordReader.{IsUnfinished, MayFollow, ReaderState}

-- what is kept of the record: the bytes that belong to no line given so far, and how many bytes and
-- lines came; and what is left of it
pub record RecordState : Type 0 where
  pub reader : ReaderState
  pub bytes : ℕ
  pub lines : ℕ
  pub left : Option (List ℕ)

abbrev pub record_state : RecordItems → WorldState → RecordState
record_state items world =
    record {
      reader = items.reader;
      bytes = items.bytes;
      lines = items.lines;
      left = world.notes.left;
    }

-- These items were read from the front of the record, in lines of which none is bad. Whatever
-- follows what was taken of the record, its lines are these, and then those from what the reader
-- holds on.
pub record IsAt (notes : List ℕ) (now : RecordState) (items : List RecordItem) : Type 0 where
  pub taken : List ℕ
  pub rest : List ℕ
  pub lines : List Line
  pub left_is : now.left ≡ Some rest
  pub whole : notes ≡ taken ++ rest
  pub counted : now.bytes ≡ length taken
  pub ended : now.reader.ended ≡ true → rest ≡ []
  pub before : List ℕ
  pub taken_is : taken ≡ before ++ now.reader.held
  pub ahead : (more : List ℕ) → MayFollow now.reader more
      → lines_of (taken ++ more) ≡ lines ++ lines_of (now.reader.held ++ more)
  pub few : length now.reader.held ≤ most_ahead
  pub good : All (λ line. line ≢ Bad) lines
  pub items_are : filter_map item_in lines ≡ items
  pub numbered : now.lines ≡ length lines

-- And the last of the lines is that of this item.
pub record IsAtItem (notes : List ℕ) (now : RecordState) (items : List RecordItem)
    (item : RecordItem) : Type 0 where
  pub at : IsAt notes now (items ++ item ∷ [])
  pub earlier : List Line
  pub lines_are : at.lines ≡ earlier ++ Read item ∷ []
  pub good : All (λ line. line ≢ Bad) earlier
  pub items_are : filter_map item_in earlier ≡ items

-- until the reader knows of the record's end, the record may be read
abbrev pub IsReadable : ReaderState → WorldState → Type 0
IsReadable reader world = reader.ended ≡ false → IsTrue world.notes.readable

-- nothing came to the reader
pub record IsFresh (reader : ReaderState) : Type 0 where
  pub held : reader.held ≡ []
  pub open_end : reader.ended ≡ false

-- a record of which nothing was read
pub record StartsItems (items : RecordItems) : Type 0 where
  pub start : (world : WorldState) (notes : List ℕ) → world.notes.left ≡ Some notes
      → IsAt notes (record_state items world) []
  pub fresh : IsFresh items.reader
  pub within : items.bytes ≤ record_limit
  pub readable : (world : WorldState) → IsTrue world.notes.readable
      → IsReadable items.reader world
  pub told : (world : WorldState) → IsTrue world.notes.readable
      → end_told world.notes ≡ items.reader.ended

-- the items were all: no line is left, and none was bad
pub record IsWhole (notes : File) (items : List RecordItem) : Type 0 where
  pub within : GaveAtMost record_limit notes
  pub good : All (λ line. line ≢ Bad) (lines_of notes.bytes)
  pub items_are : filter_map item_in (lines_of notes.bytes) ≡ items

-- Reading items stops for these causes: `reads` counts the reads of the record, `bytes` are those
-- that it gave.
abbrev pub StopsItems : Status → Counter → Counter → ℕ → Type 0
StopsItems ReadFault old new bytes = FaultedSince old new
StopsItems TooLong old new bytes = record_limit < bytes
StopsItems (BadRecord line) old new bytes = Unit {0}
StopsItems Done old new bytes = ⊥
StopsItems Usage old new bytes = ⊥
StopsItems OpenFault old new bytes = ⊥
StopsItems WriteFault old new bytes = ⊥
StopsItems KeepFault old new bytes = ⊥
StopsItems (BadArea size) old new bytes = ⊥
StopsItems NoMemory old new bytes = ⊥

-- The last read of the record was for a line that isn't there whole, and gave these bytes.
pub record IsReadForLine (old : RecordState) (port : PortState) (last : List ℕ) : Type 0 where
  pub now : RecordState
  pub goes : (notes : List ℕ) (items : List RecordItem) → IsAt notes old items
      → IsAt notes now items
  pub unfinished : IsUnfinished now.reader
  pub within : now.bytes ≤ record_limit
  pub consumed : Consumes now.left port.left last
  pub most : length last ≤ read_length

-- The last read between the two was of the record, for a line; or there was none, and something came
-- before.
abbrev pub WasReadForLine : RecordState → WorldState → WorldState → Type 0
WasReadForLine old before behind =
    ((last : List ℕ) × IsReadForLine old behind.notes last)
    ⊎ ((behind ≡ before) × ¬ (IsFresh old.reader))

-- Where reading items stops in a read, it failed and gave nothing, or it gave too much.
pub record StopsInRecord (status : Status) (old : RecordState) (port : PortState) : Type 0 where
  pub failed : status ≡ ReadFault
      → IsReadForLine old port [] × (port.reads.last_failed ≡ true)
  pub long : status ≡ TooLong → (last : List ℕ) × (read : IsReadForLine old port last)
      × (record_limit < read.now.bytes + length last)

-- a bad line comes behind these items
pub record IsBadBehind (line : ℕ) (notes : File) (items : List RecordItem) : Type 0 where
  pub within : GaveAtMost record_limit notes
  pub number : first_bad notes.bytes ≡ Some line
  pub items_are : items_before_bad notes.bytes ≡ items

-- What is known of the record where reading items stops behind these.
abbrev pub LeavesItems : Status → File → List RecordItem → Type 0
LeavesItems ReadFault notes items = GaveAtMost record_limit notes
LeavesItems TooLong notes items = GaveMore record_limit notes
LeavesItems (BadRecord line) notes items = IsBadBehind line notes items
LeavesItems Done notes items = ⊥
LeavesItems Usage notes items = ⊥
LeavesItems OpenFault notes items = ⊥
LeavesItems WriteFault notes items = ⊥
LeavesItems KeepFault notes items = ⊥
LeavesItems (BadArea size) notes items = ⊥
LeavesItems NoMemory notes items = ⊥

-- a number that each step of the loop over lines makes smaller: bytes that may still come, held
-- bytes, and the end
abbrev pub work_left : ReaderState → ℕ → ℕ
work_left reader bytes =
    2 * (2 * record_limit - bytes) + length reader.held + ends_to_come reader.ended
