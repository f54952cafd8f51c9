-- When a run must come to its end. This project's own.
use Rattle.std.specs.Prelude.{◌≡◌, ◌⊎◌, ℕ, ◌≤◌, List, length, Option, Some, None}
use Rattle.bml_ports.specs.Counters.{Counter, Rose}
use Rattle.replay_run.specs.declared.status.Status.{Status}
use Rattle.replay_run.specs.declared.status.Status.TheVariants.{Done, NoMemory}
use Rattle.replay_run.specs.Files.{stream_limit, record_limit}
use Rattle.replay_run.specs.Opening.{HasFiles}
use Rattle.replay_run.specs.Outside.{Outside}
use Rattle.replay_run.specs.Reasons.{AreAnArea}
use Rattle.replay_run.specs.Record.{first_bad}
use Rattle.replay_run.specs.Words.{Command}
use Rattle.replay_run.specs.Words.Command.{Generate, Replay}

-- the count of faults didn't rise
abbrev pub IsFaultless : Counter → Counter → Type 0
IsFaultless before behind = ¬ (Rose before.faults behind.faults)

-- nothing stands in the way of a replay: the files are no longer than they may be, the record has
-- no bad line, the kept bytes are an area's, and no count of faults rises
pub record IsUnhindered (stream notes kept : List ℕ) (before behind : Outside) : Type 0 where
  pub stream_short : length stream ≤ stream_limit
  pub notes_short : length notes ≤ record_limit
  pub good : first_bad notes ≡ None
  pub area : AreAnArea kept
  pub opened : IsFaultless before.world.openings behind.world.openings
  pub stream_read : IsFaultless before.world.stream.reads behind.world.stream.reads
  pub notes_read : IsFaultless before.world.notes.reads behind.world.notes.reads
  pub stored : IsFaultless before.keeper.faults behind.keeper.faults
  pub written : IsFaultless before.sink.writes behind.sink.writes

-- it comes to its end, unless memory is wanting
abbrev pub Completes : Status → Type 0
Completes status = (status ≡ Done) ⊎ (status ≡ NoMemory)

-- A replay that nothing hinders, and generated files that the sink takes, come to their end.
abbrev pub RunCompletes : Option Command → Outside → Outside → Status → Type 0
RunCompletes None before behind status = Unit {0}
RunCompletes (Some (Replay request)) before behind status =
    (stream notes kept : List ℕ) → HasFiles request before.world stream notes
    → before.keeper.kept ≡ Some kept → IsUnhindered stream notes kept before behind
    → Completes status
RunCompletes (Some (Generate seed count)) before behind status =
    IsFaultless before.sink.writes behind.sink.writes → Completes status
