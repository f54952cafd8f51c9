-- What a run asks of the world, and what it finds there. This project's own.
use Rattle.std.specs.Prelude.{◌≡◌, ℕ, List, Option, Some, None, ◌⊎◌}
use Rattle.bml_ports.specs.Worlds.{WorldState, PortState}
use Rattle.replay_run.specs.declared.status.Status.{Status}
use Rattle.replay_run.specs.declared.status.Status.TheVariants.{OpenFault, NoMemory}
use Rattle.replay_run.specs.Files.{Gave, file}
use Rattle.replay_run.specs.Outside.{Outside}
use Rattle.replay_run.specs.Words.{Command, ReplayWords}
use Rattle.replay_run.specs.Words.Command.{Generate, Replay}

-- no name was asked for at either port
pub record IsUnasked (world : WorldState) : Type 0 where
  pub stream : world.stream.asked ≡ None
  pub notes : world.notes.asked ≡ None

-- if a name was asked for at the port, it is this one
abbrev pub AsksAtMost : PortState → List ℕ → Type 0
AsksAtMost port name = (port.asked ≡ None) ⊎ (port.asked ≡ Some name)

-- no name but the two of a replay was asked for, each at its own port; any other words ask for none
abbrev pub AsksOnly : Option Command → WorldState → Type 0
AsksOnly None world = IsUnasked world
AsksOnly (Some (Replay request)) world =
    AsksAtMost world.stream request.stream × AsksAtMost world.notes request.notes
AsksOnly (Some (Generate seed count)) world = IsUnasked world

-- the bytes that the world has under a name, where it tells them
abbrev pub bytes_under : WorldState → List ℕ → Option (List ℕ)
bytes_under world name = under world.files
  where
    under : Option (List ℕ → Option (List ℕ)) → Option (List ℕ)
    under None = None
    under (Some bytes_of) = bytes_of name

-- the world tells these bytes under the two names of a replay
abbrev pub HasFiles : ReplayWords → WorldState → List ℕ → List ℕ → Type 0
HasFiles request world stream notes =
    (bytes_under world request.stream ≡ Some stream)
    × (bytes_under world request.notes ≡ Some notes)

-- the world tells its files, and has none under one of two names
pub record LacksFile (world : WorldState) (stream_name notes_name : List ℕ) : Type 0 where
  pub bytes_of : List ℕ → Option (List ℕ)
  pub files : world.files ≡ Some bytes_of
  pub lacking : (bytes_of stream_name ≡ None) ⊎ (bytes_of notes_name ≡ None)

-- one of the two names of a replay
abbrev pub LacksItsFile : Option Command → WorldState → Type 0
LacksItsFile None world = ⊥
LacksItsFile (Some (Replay request)) world = LacksFile world request.stream request.notes
LacksItsFile (Some (Generate seed count)) world = ⊥

-- the run ended at an opening, with nothing written, and the keeper wasn't called
pub record StopsAtOpening (status : Status) (before behind : Outside) : Type 0 where
  pub status_is : (status ≡ OpenFault) ⊎ (status ≡ NoMemory)
  pub unwritten : behind.sink ≡ before.sink
  pub uncalled : behind.keeper ≡ before.keeper

-- A port that wasn't opened has what it had; from one that was, what was given and what is left are
-- the file. The record wasn't opened before the stream.
abbrev pub LeavesRest : List ℕ → List ℕ → WorldState → WorldState → Type 0
LeavesRest stream notes before behind =
    (stays before.stream behind.stream × stays before.notes behind.notes)
    ⊎ (Gave (file stream behind.stream.left)
    × (stays before.notes behind.notes ⊎ Gave (file notes behind.notes.left)))
  where
    stays : PortState → PortState → Type 0
    stays old new = new.left ≡ old.left

-- the same of the two files of a replay
abbrev pub LeavesFiles : Option Command → WorldState → WorldState → Type 0
LeavesFiles None before behind = behind ≡ before
LeavesFiles (Some (Replay request)) before behind =
    (stream notes : List ℕ) → HasFiles request before stream notes
    → LeavesRest stream notes before behind
LeavesFiles (Some (Generate seed count)) before behind = behind ≡ before
