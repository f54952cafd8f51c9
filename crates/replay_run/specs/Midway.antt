-- A device of the proofs: what the steps of a replay do to where it stands.
use Rattle.std.specs.Prelude.{◌≡◌, ℕ, ◌+◌, ◌-◌, ◌*◌, ◌<◌, ◌≤◌, ◌⊎◌, Bool, true, false, IsTrue}
use Rattle.std.specs.Prelude.{length, List}
use Rattle.std.specs.Io.KnownBytes.{Consumes}
use Rattle.std.specs.Prelude.{[], ◌∷◌, ◌++◌}
use Rattle.std.specs.Prelude.{Option, Some, None}
use Rattle.ts_packets.specs.Cutter.{CutterState, IsWaiting}
use Rattle.bml_ports.specs.Worlds.{PortState, WorldState}
use Rattle.psi_tables.specs.declared.services.Selection.{Selection}
use Rattle.es_reader.specs.Readers.{IsReader}
use Rattle.receiver_core.specs.Fronts.{IsFront}
use Rattle.receiver_core.specs.Outputs.{Input, Piece}
use Rattle.receiver_core.specs.Outputs.Input.{Tick as Passing}
use Rattle.receiver_core.specs.Receiving.{IsIdle, ReceiverState, StandsFor}
use Rattle.replay_run.specs.declared.player.Player.{Player}
use Rattle.replay_run.specs.declared.record.RecordItem.{RecordItem}
use Rattle.replay_run.specs.declared.record.RecordItem.TheVariants.{All, Packets, Tick}
use Rattle.replay_run.specs.declared.record.RecordItem.TheVariants.{Input as Other}
use Rattle.replay_run.specs.declared.status.Status.{Status}
use Rattle.replay_run.specs.declared.status.Status.TheVariants.{ReadFault, TooLong}
use Rattle.replay_run.specs.Ending.{end_told}
use Rattle.replay_run.specs.Files.{packet_length, read_length, stream_limit}
use Rattle.replay_run.specs.Outside.{Outside}
use Rattle.replay_run.specs.Play.{inputs_of_item, packets_behind}
use Rattle.replay_run.specs.Progress.{Replay, Moment, IsMidway, StartsReplay}
use Rattle.replay_run.specs.Putting.{IsLater, outlets_of}
use Rattle.replay_run.specs.Stopping.{LeavesPackets}

-- what a player holds, and what the outside tells
abbrev pub moment : Player → Outside → Moment
moment player told = record {
  cutter = player.cutter;
  loose = false;
  receiver = player.receiver;
  kept = player.kept;
  bytes = player.bytes;
  packets = player.packets;
  left = told.world.stream.left;
  outlets = outlets_of told;
}

-- the same where bytes in front of a packet may have been left out
abbrev pub loosely : Moment → Moment
loosely now = record now { loose = true }

-- the area that is kept is the receiver's
abbrev pub KeepsArea : Player → Type 0
KeepsArea player = player.kept ≡ player.receiver.area

-- until the cutter knows of the stream's end, the stream may be read
abbrev pub IsReadable : CutterState → WorldState → Type 0
IsReadable cutter world = cutter.ended ≡ false → IsTrue world.stream.readable

-- a player to which nothing came
pub record StartsPlayer (selection : Selection) (player : Player) : Type 0 where
  pub start : (told : Outside) → StartsReplay selection player.kept told (moment player told)
  pub idle : IsIdle player.receiver
  pub keeps : KeepsArea player
  pub clock : player.receiver.clock ≡ 0
  pub packets : player.packets ≡ 0
  pub within : player.bytes ≤ stream_limit
  pub readable : (world : WorldState) → IsTrue world.stream.readable
      → IsReadable player.cutter world
  pub told : (world : WorldState) → IsTrue world.stream.readable
      → end_told world.stream ≡ player.cutter.ended

-- a number that each step of the loop over packets makes smaller: bytes that may still come, held
-- bytes, and the end
abbrev pub ends_to_come : Bool → ℕ
ends_to_come true = 0
ends_to_come false = 1

abbrev pub work_left : CutterState → ℕ → ℕ
work_left cutter bytes =
    2 * (2 * stream_limit - bytes) + length cutter.held + ends_to_come cutter.ended

-- the item that takes so many packets, or all
abbrev pub item_of_count : Option ℕ → RecordItem
item_of_count None = All
item_of_count (Some count) = Packets count

-- whatever replay it is, it stands where it stood
abbrev pub Goes : Moment → Moment → Type 0
Goes old new =
    (replay : Replay) (inputs : List Input) (ahead : List (List ℕ))
    → IsMidway replay old inputs ahead → IsMidway replay new inputs ahead

-- and with so many milliseconds more that passed
abbrev pub Passes : ℕ → Moment → Moment → Type 0
Passes count old new =
    (replay : Replay) (inputs : List Input) (ahead : List (List ℕ))
    → IsMidway replay old inputs ahead → IsMidway replay new (inputs ++ Passing count ∷ []) ahead

-- and with what this item hands over more
abbrev pub Handles : RecordItem → Moment → Moment → Type 0
Handles item old new =
    (replay : Replay) (inputs : List Input) (ahead : List (List ℕ))
    → IsMidway replay old inputs ahead
    → IsMidway replay new (inputs ++ inputs_of_item item ahead) (packets_behind item ahead)

-- of the time that an input lets pass, only the first part passed, behind the inputs before it
pub record IsCutTick (some all : List Input) : Type 0 where
  pub earlier : List Input
  pub passed : ℕ
  pub more : ℕ
  pub some_is : some ≡ earlier ++ Passing passed ∷ []
  pub front : IsFront (earlier ++ Passing (passed + more) ∷ []) all

-- some are the first of all these inputs
abbrev pub AreFirst : List Input → List Input → Type 0
AreFirst some all = IsFront some all ⊎ IsCutTick some all

-- The replay stopped somewhere in these inputs: a front of the pieces is written that a receiver
-- gave for the first of them.
pub record StopsIn (status : Status) (replay : Replay) (told : Outside)
    (all : List Input) : Type 0 where
  pub inputs : List Input
  pub first : AreFirst inputs all
  pub receiver : ReceiverState
  pub given : List Piece
  pub stands : IsReader replay.read
      → StandsFor replay.read replay.selection replay.area receiver inputs given
  pub leaves : LeavesPackets status replay told given

-- whatever replay it is, it stops in the inputs that came
abbrev pub Stops : Status → Moment → Outside → Type 0
Stops status old told =
    (replay : Replay) (inputs : List Input) (ahead : List (List ℕ))
    → IsMidway replay old inputs ahead → StopsIn status replay told inputs

-- or in those that this item hands over
abbrev pub StopsHandling : RecordItem → Status → Moment → Outside → Type 0
StopsHandling item status old told =
    (replay : Replay) (inputs : List Input) (ahead : List (List ℕ))
    → IsMidway replay old inputs ahead
    → StopsIn status replay told (inputs ++ inputs_of_item item ahead)

-- ---- reading the stream

-- an item takes all that it asks for, between these two counts of packets
abbrev pub TakesJust : RecordItem → ℕ → ℕ → Type 0
TakesJust All old new = ⊥
TakesJust (Packets count) old new = new ≡ old + count
TakesJust (Tick count) old new = new ≡ old
TakesJust (Other input) old new = new ≡ old

-- items take all that they ask for, which are so many packets in all
abbrev pub TakeJust : List RecordItem → ℕ → Type 0
TakeJust [] packets = packets ≡ 0
TakeJust (All ∷ items) packets = ⊥
TakeJust (Packets count ∷ items) packets =
    (rest : ℕ) × (packets ≡ count + rest) × TakeJust items rest
TakeJust (Tick count ∷ items) packets = TakeJust items packets
TakeJust (Other input ∷ items) packets = TakeJust items packets

-- an item that took so many packets takes one more
abbrev pub TakesMore : RecordItem → ℕ → Type 0
TakesMore All taken = Unit {0}
TakesMore (Packets count) taken = taken < count
TakesMore (Tick count) taken = ⊥
TakesMore (Other input) taken = ⊥

-- A read of the stream gave these bytes, or it failed and gave none, or it gave too much.
pub record StopsInRead (status : Status) (limit bytes : ℕ) (old new : PortState) : Type 0 where
  pub last : List ℕ
  pub consumed : Consumes old.left new.left last
  pub most : length last ≤ read_length
  pub failed : status ≡ ReadFault → (last ≡ []) × (new.reads.last_failed ≡ true)
  pub long : status ≡ TooLong → limit < bytes + length last

-- The last read of the stream was for a packet that an item takes, of which some were taken, and
-- gave these bytes.
pub record IsReadForPacket (item : RecordItem) (old : Moment) (told : Outside) (last : List ℕ)
    : Type 0 where
  pub now : Moment
  pub count : ℕ
  pub takes : TakesMore item count
  pub goes : Handles (Packets count) old now
  pub packets : now.packets ≡ old.packets + count
  pub was_open : old.cutter.ended ≡ false
  pub waiting : IsWaiting now.cutter
  pub short : length now.cutter.held ≤ packet_length
  pub within : now.bytes ≤ stream_limit
  pub idle : IsIdle now.receiver
  pub outlets_are : now.outlets ≡ outlets_of told
  pub consumed : Consumes now.left told.world.stream.left last
  pub most : length last ≤ read_length

-- The last read between the two was of the stream, for a packet, and behind it pieces were put out;
-- or there was none.
abbrev pub WasReadForPacket : RecordItem → Moment → Outside → Outside → Type 0
WasReadForPacket item old before behind =
    ((last : List ℕ) × (read : Outside) × IsReadForPacket item old read last
    × (behind.world ≡ read.world) × IsLater (outlets_of read) (outlets_of behind))
    ⊎ (behind.world ≡ before.world)

-- Where handling an item stops in a read, it failed and gave nothing, or it gave too much.
pub record StopsInStream (status : Status) (item : RecordItem) (old : Moment) (told : Outside)
    : Type 0 where
  pub failed : status ≡ ReadFault
      → IsReadForPacket item old told [] × (told.world.stream.reads.last_failed ≡ true)
  pub long : status ≡ TooLong → (last : List ℕ) × (read : IsReadForPacket item old told last)
      × (stream_limit < read.now.bytes + length last)
