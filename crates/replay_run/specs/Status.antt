-- How a run ends, as the number that the process ends with and as the line for standard error. Both
-- are this project's own.
use Rattle.std.specs.Prelude.{ℕ, List, ◌++◌, codes, decimal, Result, Ok, Err}
use Rattle.replay_run.specs.declared.status.Status.{Status}
use Rattle.replay_run.specs.declared.status.Status.TheVariants.{Done, Usage, BadRecord, OpenFault}
use Rattle.replay_run.specs.declared.status.Status.TheVariants.{ReadFault, WriteFault, KeepFault}
use Rattle.replay_run.specs.declared.status.Status.TheVariants.{BadArea, TooLong, NoMemory}

-- the number of a status
abbrev pub status_number : Status → ℕ
status_number Done = 0
status_number Usage = 1
status_number (BadRecord _) = 2
status_number OpenFault = 3
status_number ReadFault = 4
status_number WriteFault = 5
status_number KeepFault = 6
status_number (BadArea _) = 7
status_number TooLong = 8
status_number NoMemory = 9

-- the words of a status, without a line feed
abbrev pub status_line : Status → List ℕ
status_line Done = codes "done"
status_line Usage = codes "usage"
status_line (BadRecord line) = codes "bad record line " ++ decimal line
status_line OpenFault = codes "open fault"
status_line ReadFault = codes "read fault"
status_line WriteFault = codes "write fault"
status_line KeepFault = codes "keep fault"
status_line (BadArea length) = codes "bad area length " ++ decimal length
status_line TooLong = codes "too long"
status_line NoMemory = codes "no memory"

-- the status that an answer stands for
abbrev pub outcome_of : {A : Type 0} → Result A Status → Status
outcome_of (Ok answer) = Done
outcome_of (Err status) = status
