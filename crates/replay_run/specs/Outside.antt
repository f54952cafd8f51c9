-- What the outside tells at a moment of a run, and what is told once a run is over. This project's
-- own.
use Rattle.std.specs.Prelude.{ℕ, List}
use Rattle.bml_ports.specs.Keepers.{KeeperState}
use Rattle.bml_ports.specs.Sinks.{SinkState}
use Rattle.bml_ports.specs.Worlds.{WorldState}
use Rattle.replay_run.specs.Files.{File, file}

-- what the world, the keeper and the sink tell
pub record Outside : Type 0 where
  pub world : WorldState
  pub keeper : KeeperState
  pub sink : SinkState

abbrev pub outside : WorldState → KeeperState → SinkState → Outside
outside world keeper sink = record { world = world; keeper = keeper; sink = sink }

-- a run that is over: its two files, and what the outside told before it and tells behind it
pub record Account : Type 0 where
  pub stream : File
  pub notes : File
  pub before : Outside
  pub behind : Outside

-- the account of a run over a stream and a record, from what the outside told before it and tells
-- behind it
abbrev pub account : List ℕ → List ℕ → Outside → Outside → Account
account stream notes before behind = record {
  stream = file stream behind.world.stream.left;
  notes = file notes behind.world.notes.left;
  before = before;
  behind = behind;
}
