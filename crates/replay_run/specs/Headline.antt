-- The headline: what a run writes and keeps is what its words, the stream, the record and the kept
-- bytes mean. This project's own.
use Rattle.std.specs.Prelude.{◌≡◌, ℕ, List, Option, Some, None}
use Rattle.es_reader.specs.Readers.{Reader, IsReader}
use Rattle.replay_run.specs.declared.status.Status.{Status}
use Rattle.replay_run.specs.declared.status.Status.TheVariants.{Usage}
use Rattle.replay_run.specs.Ending.{EndsAs}
use Rattle.replay_run.specs.Generating.{GeneratesAs}
use Rattle.replay_run.specs.Meaning.{replay_meaning}
use Rattle.replay_run.specs.Opening.{HasFiles}
use Rattle.replay_run.specs.Outside.{Outside, account}
use Rattle.replay_run.specs.Words.{Command, ReplayWords}
use Rattle.replay_run.specs.Words.Command.{Generate, Replay}

-- Where the world tells the files of a replay and the keeper the bytes that it keeps, the replay
-- ends as the meaning of its words, the stream, the record and these bytes says, with programs told
-- by this reader. What it says of the bytes written holds where the sink tells them.
abbrev pub ReplayMeansBy : Reader → ReplayWords → Outside → Outside → Status → Type 0
ReplayMeansBy read request before behind status =
    (stream notes kept : List ℕ) → HasFiles request before.world stream notes
    → before.keeper.kept ≡ Some kept
    → EndsAs (replay_meaning read request.selection kept stream notes)
    (account stream notes before behind) status

-- Words that are no command come to nothing, a replay to its meaning, and generated files to their
-- lines.
abbrev pub RunMeansBy : Reader → Option Command → Outside → Outside → Status → Type 0
RunMeansBy read None before behind status = status ≡ Usage
RunMeansBy read (Some (Replay request)) before behind status =
    ReplayMeansBy read request before behind status
RunMeansBy read (Some (Generate seed count)) before behind status =
    GeneratesAs read seed count before behind status

-- The same by every reader.
abbrev pub RunMeans : Option Command → Outside → Outside → Status → Type 0
RunMeans asked before behind status =
    (read : Reader) → IsReader read → RunMeansBy read asked before behind status
