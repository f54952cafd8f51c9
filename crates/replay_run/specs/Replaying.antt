-- A device of the proofs: how opening two files, and a replay of them, may end.
use Rattle.std.specs.Prelude.{◌≡◌, ℕ, ◌≤◌, List, Option, Some, None, ◌⊎◌, false, length}
use Rattle.bml_ports.specs.declared.outside.Port.{Port}
use Rattle.bml_ports.specs.Counters.{Counter, FaultedSince}
use Rattle.bml_ports.specs.Keepers.{KeeperState}
use Rattle.bml_ports.specs.Worlds.{WorldState, port_of, other_port}
use Rattle.psi_tables.specs.declared.services.Selection.{Selection}
use Rattle.es_reader.specs.Readers.{Reader, IsReader}
use Rattle.replay_run.specs.declared.status.Status.{Status}
use Rattle.replay_run.specs.declared.status.Status.TheVariants.{Done, Usage, BadRecord, OpenFault}
use Rattle.replay_run.specs.declared.status.Status.TheVariants.{ReadFault, WriteFault, KeepFault}
use Rattle.replay_run.specs.declared.status.Status.TheVariants.{BadArea, TooLong, NoMemory}
use Rattle.replay_run.specs.Causes.{IsNoArea, KeepFaulted, ReadFaulted, WriteFaulted}
use Rattle.replay_run.specs.Ending.{EndsAs}
use Rattle.replay_run.specs.Files.{File, GaveMore, file, record_limit, stream_limit}
use Rattle.replay_run.specs.Kept.{is_area_length}
use Rattle.replay_run.specs.Meaning.{area_meaning, replay_meaning}
use Rattle.replay_run.specs.Outside.{Outside, account}
use Rattle.replay_run.specs.Progress.{HasBegun}
use Rattle.replay_run.specs.Reasons.{HasReason}
use Rattle.replay_run.specs.Record.{first_bad}
use Rattle.replay_run.specs.Writing.{WritesShort}

-- between the two a name was asked for at this port, and nothing else happened
pub record OnlyOpens (port : Port) (name : List ℕ) (old new : WorldState) : Type 0 where
  pub files : new.files ≡ old.files
  pub other : port_of new (other_port port) ≡ port_of old (other_port port)
  pub reads : (port_of new port).reads ≡ (port_of old port).reads
  pub asked : ((port_of new port).asked ≡ (port_of old port).asked)
      ⊎ ((port_of new port).asked ≡ Some name)
  pub later : old.openings.faults ≤ new.openings.faults

-- the opening failed, and was counted
pub record OpeningFails (port : Port) (old new : WorldState) : Type 0 where
  pub cause : FaultedSince old.openings new.openings
  pub left : (port_of new port).left ≡ (port_of old port).left

-- Opening a file stops for these causes, and the port has what it had.
abbrev pub StopsOpening : Status → Port → WorldState → WorldState → Type 0
StopsOpening OpenFault port old new = OpeningFails port old new
StopsOpening NoMemory port old new = new ≡ old
StopsOpening Done port old new = ⊥
StopsOpening Usage port old new = ⊥
StopsOpening (BadRecord line) port old new = ⊥
StopsOpening ReadFault port old new = ⊥
StopsOpening WriteFault port old new = ⊥
StopsOpening KeepFault port old new = ⊥
StopsOpening (BadArea size) port old new = ⊥
StopsOpening TooLong port old new = ⊥

-- the world tells its files, and has none under this name
pub record LacksName (world : WorldState) (name : List ℕ) : Type 0 where
  pub bytes_of : List ℕ → Option (List ℕ)
  pub files : world.files ≡ Some bytes_of
  pub lacking : bytes_of name ≡ None

-- that many bytes are kept, and an area has another number
pub record IsBadSize (size : ℕ) (old : KeeperState) : Type 0 where
  pub bad : is_area_length size ≡ false
  pub same : (kept : List ℕ) → old.kept ≡ Some kept → size ≡ length kept

-- Loading the area stops for these causes.
abbrev pub StopsLoading : Status → KeeperState → KeeperState → Type 0
StopsLoading KeepFault old new = FaultedSince old.faults new.faults
StopsLoading (BadArea size) old new = IsBadSize size old
StopsLoading Done old new = ⊥
StopsLoading Usage old new = ⊥
StopsLoading (BadRecord line) old new = ⊥
StopsLoading OpenFault old new = ⊥
StopsLoading ReadFault old new = ⊥
StopsLoading WriteFault old new = ⊥
StopsLoading TooLong old new = ⊥
StopsLoading NoMemory old new = ⊥

-- A replay that has begun stops for these causes.
abbrev pub StopsPlay : Status → Outside → Outside → Type 0
StopsPlay ReadFault old new = ReadFaulted old new
StopsPlay WriteFault old new = WriteFaulted old new
StopsPlay KeepFault old new = KeepFaulted old new
StopsPlay (BadRecord line) old new = Unit {0}
StopsPlay TooLong old new = Unit {0}
StopsPlay NoMemory old new = Unit {0}
StopsPlay Done old new = ⊥
StopsPlay Usage old new = ⊥
StopsPlay OpenFault old new = ⊥
StopsPlay (BadArea size) old new = ⊥

-- And these are those of a replay.
abbrev pub StopsReplay : Status → Outside → Outside → Type 0
StopsReplay ReadFault old new = ReadFaulted old new
StopsReplay WriteFault old new = WriteFaulted old new
StopsReplay KeepFault old new = KeepFaulted old new
StopsReplay (BadArea size) old new = IsNoArea size old new
StopsReplay (BadRecord line) old new = Unit {0}
StopsReplay TooLong old new = Unit {0}
StopsReplay NoMemory old new = Unit {0}
StopsReplay Done old new = ⊥
StopsReplay Usage old new = ⊥
StopsReplay OpenFault old new = ⊥

-- Writing the last line stops for these causes: the counter is that of writes.
abbrev pub StopsWriting : Status → Counter → Counter → Type 0
StopsWriting WriteFault old new = FaultedSince old new
StopsWriting NoMemory old new = Unit {0}
StopsWriting Done old new = ⊥
StopsWriting Usage old new = ⊥
StopsWriting (BadRecord line) old new = ⊥
StopsWriting OpenFault old new = ⊥
StopsWriting ReadFault old new = ⊥
StopsWriting KeepFault old new = ⊥
StopsWriting (BadArea size) old new = ⊥
StopsWriting TooLong old new = ⊥

-- What is left of the last line where writing it stops.
abbrev pub StopsLine : Status → Option (List ℕ) → Option (List ℕ) → List ℕ → Type 0
StopsLine WriteFault old new line = WritesShort old new line
StopsLine NoMemory old new line = new ≡ old
StopsLine Done old new line = ⊥
StopsLine Usage old new line = ⊥
StopsLine (BadRecord number) old new line = ⊥
StopsLine OpenFault old new line = ⊥
StopsLine ReadFault old new line = ⊥
StopsLine KeepFault old new line = ⊥
StopsLine (BadArea size) old new line = ⊥
StopsLine TooLong old new line = ⊥

-- Where the files are told, a replay that has begun with this area ends as its meaning says.
abbrev pub PlayEnds : Selection → List ℕ → Outside → Outside → Status → Type 0
PlayEnds selection area old behind status =
    (read : Reader) → IsReader read → (before : Outside) → HasBegun before old
    → (stream notes : List ℕ)
    → old.world.stream.left ≡ Some stream → old.world.notes.left ≡ Some notes
    → EndsAs (area_meaning read selection area stream notes)
    (account stream notes before behind) status

-- The same where the kept bytes are told, and nothing was written or kept before.
abbrev pub ReplayEnds : Selection → Outside → Outside → Status → Type 0
ReplayEnds selection old behind status =
    (read : Reader) → IsReader read → (before : Outside)
    → old.sink ≡ before.sink → old.keeper ≡ before.keeper
    → (stream notes kept : List ℕ)
    → old.world.stream.left ≡ Some stream → old.world.notes.left ≡ Some notes
    → old.keeper.kept ≡ Some kept
    → EndsAs (replay_meaning read selection kept stream notes)
    (account stream notes before behind) status

-- What a status says of the two files.
abbrev pub TellsOfFiles : Status → File → File → Type 0
TellsOfFiles (BadRecord line) stream notes = first_bad notes.bytes ≡ Some line
TellsOfFiles TooLong stream notes = GaveMore stream_limit stream ⊎ GaveMore record_limit notes
TellsOfFiles (BadArea size) stream notes = ⊥
TellsOfFiles Done stream notes = Unit {0}
TellsOfFiles Usage stream notes = Unit {0}
TellsOfFiles OpenFault stream notes = Unit {0}
TellsOfFiles ReadFault stream notes = Unit {0}
TellsOfFiles WriteFault stream notes = Unit {0}
TellsOfFiles KeepFault stream notes = Unit {0}
TellsOfFiles NoMemory stream notes = Unit {0}

-- Where the files are told, this holds of a replay that has begun.
abbrev pub PlayTells : Outside → Outside → Status → Type 0
PlayTells old behind status =
    (before : Outside) → HasBegun before old → (stream notes : List ℕ)
    → old.world.stream.left ≡ Some stream → old.world.notes.left ≡ Some notes
    → TellsOfFiles status (file stream behind.world.stream.left)
    (file notes behind.world.notes.left)

-- And where the kept bytes are told, this of a replay.
abbrev pub ReplayHasReason : Outside → Outside → Status → Type 0
ReplayHasReason old behind status =
    (before : Outside) (stream notes kept : List ℕ)
    → old.world.stream.left ≡ Some stream → old.world.notes.left ≡ Some notes
    → old.keeper.kept ≡ Some kept
    → HasReason (account stream notes before behind) kept status
