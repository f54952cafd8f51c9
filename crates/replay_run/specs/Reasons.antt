-- What a status says of the two files and of the kept bytes. It hangs on no reader of programs.
-- This project's own.
use Rattle.std.specs.Prelude.{◌≡◌, ℕ, true, List, Option, Some, None, length}
use Rattle.replay_run.specs.declared.status.Status.{Status}
use Rattle.replay_run.specs.declared.status.Status.TheVariants.{Done, Usage, BadRecord, OpenFault}
use Rattle.replay_run.specs.declared.status.Status.TheVariants.{ReadFault, WriteFault, KeepFault}
use Rattle.replay_run.specs.declared.status.Status.TheVariants.{BadArea, TooLong, NoMemory}
use Rattle.replay_run.specs.Ending.{IsBeyond}
use Rattle.replay_run.specs.Kept.{is_area_length}
use Rattle.replay_run.specs.Opening.{HasFiles}
use Rattle.replay_run.specs.Outside.{Account, Outside, account}
use Rattle.replay_run.specs.Record.{first_bad}
use Rattle.replay_run.specs.Words.{Command, ReplayWords}
use Rattle.replay_run.specs.Words.Command.{Generate, Replay}

-- the kept bytes are an area's
abbrev pub AreAnArea : List ℕ → Type 0
AreAnArea kept = is_area_length (length kept) ≡ true

-- That line is the first bad one of the record, a file gave more bytes than a run takes, or that is
-- the number of kept bytes. Where a run came to its end or read and wrote in vain, the kept bytes
-- are an area's.
abbrev pub HasReason : Account → List ℕ → Status → Type 0
HasReason run kept (BadRecord line) = (first_bad run.notes.bytes ≡ Some line) × AreAnArea kept
HasReason run kept TooLong = IsBeyond run × AreAnArea kept
HasReason run kept (BadArea size) = size ≡ length kept
HasReason run kept Done = AreAnArea kept
HasReason run kept ReadFault = AreAnArea kept
HasReason run kept WriteFault = AreAnArea kept
HasReason run kept KeepFault = Unit {0}
HasReason run kept OpenFault = Unit {0}
HasReason run kept NoMemory = Unit {0}
HasReason run kept Usage = Unit {0}

-- the same of a replay whose files the world tells, and whose kept bytes the keeper
abbrev pub ReplayHasItsReason : ReplayWords → Outside → Outside → Status → Type 0
ReplayHasItsReason request before behind status =
    (stream notes kept : List ℕ) → HasFiles request before.world stream notes
    → before.keeper.kept ≡ Some kept
    → HasReason (account stream notes before behind) kept status

abbrev pub RunHasItsReason : Option Command → Outside → Outside → Status → Type 0
RunHasItsReason None before behind status = Unit {0}
RunHasItsReason (Some (Replay request)) before behind status =
    ReplayHasItsReason request before behind status
RunHasItsReason (Some (Generate seed count)) before behind status = Unit {0}
