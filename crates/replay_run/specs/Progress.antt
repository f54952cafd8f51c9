-- A device of the proofs: how far a replay has come; the stream, the inputs, the pieces, what was
-- written and what is kept hang together. (What a run means is in `Meaning`.)
use Rattle.std.specs.Prelude.{◌≡◌, ℕ, ◌≤◌, Bool, true, false, List, [], ◌++◌, length, Option, Some}
use Rattle.ts_packets.specs.Cutter.{CutterState, MayFollow}
use Rattle.ts_packets.specs.Packets.{packets_of}
use Rattle.psi_tables.specs.declared.services.Selection.{Selection}
use Rattle.es_reader.specs.Readers.{Reader, IsReader}
use Rattle.receiver_core.specs.Outputs.{Input, Piece}
use Rattle.receiver_core.specs.Receiving.{ReceiverState, StandsFor}
use Rattle.replay_run.specs.declared.record.RecordItem.{RecordItem}
use Rattle.replay_run.specs.Kept.{Keeps}
use Rattle.replay_run.specs.Needs.{EndsBehind, most_ahead}
use Rattle.replay_run.specs.Outside.{Outside}
use Rattle.replay_run.specs.Play.{inputs_of, packets_left, packet_count}
use Rattle.replay_run.specs.Putting.{HasPut, Outlets}

-- what a replay is of: which programs texts are, the service or data that is asked for, the area at
-- the start, the stream, the record, and what the outside told before the keeper was called
pub record Replay : Type 0 where
  pub read : Reader
  pub selection : Selection
  pub area : List ℕ
  pub stream : List ℕ
  pub notes : List ℕ
  pub before : Outside

-- What a replay holds between two of its steps, and what the outside tells then.
pub record Moment : Type 0 where
  -- the bytes of the stream that aren't cut yet, and whether the stream's end came
  pub cutter : CutterState
  -- whether bytes in front of a packet may have been left out
  pub loose : Bool
  pub receiver : ReceiverState
  -- the area that was loaded or stored last
  pub kept : List ℕ
  -- bytes that the stream gave, and packets that were cut
  pub bytes : ℕ
  pub packets : ℕ
  -- what is left of the stream, and what the keeper and the sink tell
  pub left : Option (List ℕ)
  pub outlets : Outlets

-- These inputs came to the receiver, all pieces that it gave for them so far are written, the area
-- behind the last of them is kept, and these packets are ahead. Whatever follows what was taken of
-- the stream, its packets are those cut, and then those from what the cutter holds on. By a reader
-- of programs that is right the receiver stands for this; the rest hangs on no reader.
pub record IsMidway (replay : Replay) (now : Moment) (inputs : List Input)
    (ahead : List (List ℕ)) : Type 0 where
  pub taken : List ℕ
  pub rest : List ℕ
  pub given : List Piece
  pub left_is : now.left ≡ Some rest
  pub whole : replay.stream ≡ taken ++ rest
  pub counted : now.bytes ≡ length taken
  pub ended : now.cutter.ended ≡ true → rest ≡ []
  pub ahead_is : packets_of (now.cutter.held ++ rest) ≡ ahead
  pub done : List (List ℕ)
  pub number : length done ≡ now.packets
  pub before : List ℕ
  pub skipped : List ℕ
  pub taken_is : taken ≡ (before ++ skipped) ++ now.cutter.held
  pub behind : EndsBehind before done
  pub close : now.loose ≡ false → now.cutter.ended ≡ false → skipped ≡ []
  pub cut : (more : List ℕ) → MayFollow now.cutter more
      → packets_of (taken ++ more) ≡ done ++ packets_of (now.cutter.held ++ more)
  pub few : length now.cutter.held ≤ most_ahead
  pub packets : now.packets ≡ packet_count inputs
  pub stands : IsReader replay.read
      → StandsFor replay.read replay.selection replay.area now.receiver inputs given
  pub put : HasPut replay.area replay.before now.kept now.outlets given

-- Between two items: the inputs and the packets ahead are those of the items so far.
abbrev pub IsBetween : Replay → Moment → List RecordItem → Type 0
IsBetween replay now items =
    IsMidway replay now (inputs_of (packets_of replay.stream) items)
    (packets_left (packets_of replay.stream) items)

-- a replay has begun: what was written and what is kept are as before it, but for a load
pub record HasBegun (before now : Outside) : Type 0 where
  pub written : now.sink.written ≡ before.sink.written
  pub keeps : Keeps before.keeper now.keeper []

-- A replay starts with an area: where the stream is told, nothing came yet, and nothing was written
-- or stored. This is so whatever programs are read.
abbrev pub StartsReplay : Selection → List ℕ → Outside → Moment → Type 0
StartsReplay selection area told now =
    (read : Reader) (stream notes : List ℕ) (before : Outside) → HasBegun before told
    → told.world.stream.left ≡ Some stream
    → IsBetween (record {
      read = read;
      selection = selection;
      area = area;
      stream = stream;
      notes = notes;
      before = before;
    }) now []
