-- A device of the proofs: why a replay stops before its end, and what it has written and kept then.
use Rattle.std.specs.Prelude.{◌≡◌, ℕ, ◌<◌, ◌≤◌, ◌⊎◌, List, [], length}
use Rattle.std.specs.Io.KnownBytes.{Consumes}
use Rattle.bml_ports.specs.declared.outside.Port.{Port}
use Rattle.bml_ports.specs.Counters.{Counter, FaultedSince}
use Rattle.bml_ports.specs.Worlds.{PortState, WorldState, port_of, other_port}
use Rattle.receiver_core.specs.Outputs.{Piece}
use Rattle.replay_run.specs.declared.status.Status.{Status}
use Rattle.replay_run.specs.declared.status.Status.TheVariants.{Done, Usage, BadRecord, OpenFault}
use Rattle.replay_run.specs.declared.status.Status.TheVariants.{ReadFault, WriteFault, KeepFault}
use Rattle.replay_run.specs.declared.status.Status.TheVariants.{BadArea, TooLong, NoMemory}
use Rattle.replay_run.specs.Ending.{BreaksOff, FailsToStore, WritesWhole}
use Rattle.replay_run.specs.Files.{read_length, stream_limit, GaveMore, GaveAtMost}
use Rattle.replay_run.specs.Meaning.{Meaning}
use Rattle.replay_run.specs.Order.{IsReadOn}
use Rattle.replay_run.specs.Outside.{Account, Outside, account}
use Rattle.replay_run.specs.Progress.{Replay}
use Rattle.replay_run.specs.Putting.{StopsTurns, outlets_of}

-- between the two, the calls of the world were reads of this port
pub record OnlyReads (port : Port) (old new : WorldState) : Type 0 where
  pub files : new.files ≡ old.files
  pub openings : new.openings ≡ old.openings
  pub other : port_of new (other_port port) ≡ port_of old (other_port port)
  pub on : IsReadOn (port_of old port) (port_of new port)

-- one read of a port gave these bytes, and none where it failed
pub record IsOneRead (old new : PortState) : Type 0 where
  pub last : List ℕ
  pub consumed : Consumes old.left new.left last
  pub most : length last ≤ read_length

-- Reading the stream stops for these causes: `reads` counts the reads, and `bytes` are those that
-- the stream gave.
abbrev pub StopsReading : Status → Counter → Counter → ℕ → Type 0
StopsReading ReadFault old new bytes = FaultedSince old new
StopsReading TooLong old new bytes = stream_limit < bytes
StopsReading Done old new bytes = ⊥
StopsReading Usage old new bytes = ⊥
StopsReading (BadRecord line) old new bytes = ⊥
StopsReading OpenFault old new bytes = ⊥
StopsReading WriteFault old new bytes = ⊥
StopsReading KeepFault old new bytes = ⊥
StopsReading (BadArea size) old new bytes = ⊥
StopsReading NoMemory old new bytes = ⊥

-- Handling an item stops for one of these, or in a turn.
abbrev pub StopsPackets : Status → Outside → Outside → ℕ → Type 0
StopsPackets status old new bytes =
    StopsReading status old.world.stream.reads new.world.stream.reads bytes
    ⊎ StopsTurns status (outlets_of old) (outlets_of new)

-- ---- what is left

-- the account of a replay
abbrev pub run_of : Replay → Outside → Account
run_of replay behind = account replay.stream replay.notes replay.before behind

-- the meaning of a replay of which nothing came but these pieces
abbrev pub meaning_of : Replay → List Piece → Meaning
meaning_of replay given = record {
  area = replay.area;
  pieces = given;
  status = Done;
  pieces_for = λ inputs. [];
}

-- neither file gave more than it may, as far as it was read
abbrev pub StreamWithin : Replay → Outside → Type 0
StreamWithin replay behind = GaveAtMost stream_limit (run_of replay behind).stream

-- What is written and kept where handling an item stops, behind which these pieces were given.
abbrev pub LeavesPackets : Status → Replay → Outside → List Piece → Type 0
LeavesPackets ReadFault replay told given = StreamWithin replay told
LeavesPackets NoMemory replay told given =
    StreamWithin replay told × WritesWhole (meaning_of replay given) (run_of replay told)
LeavesPackets TooLong replay told given = GaveMore stream_limit (run_of replay told).stream
LeavesPackets WriteFault replay told given =
    StreamWithin replay told × BreaksOff (meaning_of replay given) (run_of replay told)
LeavesPackets KeepFault replay told given =
    StreamWithin replay told × FailsToStore (meaning_of replay given) (run_of replay told)
LeavesPackets Done replay told given = ⊥
LeavesPackets Usage replay told given = ⊥
LeavesPackets (BadRecord line) replay told given = ⊥
LeavesPackets OpenFault replay told given = ⊥
LeavesPackets (BadArea size) replay told given = ⊥
