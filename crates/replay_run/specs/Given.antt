-- What two files gave so far, and how far a replay has come in it. This project's own.
use Rattle.std.specs.Prelude.{◌≡◌, ℕ, Bool, true, List, [], ◌++◌}
use Rattle.ts_packets.specs.Packets.{packets_of}
use Rattle.receiver_core.specs.Fronts.{IsFront}
use Rattle.receiver_core.specs.Outputs.{Input}
use Rattle.replay_run.specs.declared.record.Line.{Line}
use Rattle.replay_run.specs.Meaning.{replay_inputs}
use Rattle.replay_run.specs.Record.{lines_of}

-- the bytes that a file gave so far, and whether its end was told
pub record Part : Type 0 where
  pub bytes : List ℕ
  pub ended : Bool

-- bytes that the file may still give: any before its end was told, none afterwards
abbrev pub MayFollow : Part → List ℕ → Type 0
MayFollow part more = part.ended ≡ true → more ≡ []

-- what was given of the stream and of the record
pub record Given : Type 0 where
  pub stream : Part
  pub notes : Part

-- Whatever follows in both files, a replay hands these inputs over first.
abbrev pub AreDecided : Given → List Input → Type 0
AreDecided given inputs =
    (stream notes : List ℕ) → MayFollow given.stream stream → MayFollow given.notes notes
    → IsFront inputs
    (replay_inputs (given.stream.bytes ++ stream) (given.notes.bytes ++ notes))

-- Whatever follows, the packets of the stream are these, and then those from the bytes ahead on.
pub record HasCut (stream : Part) (packets : List (List ℕ)) (ahead : List ℕ) : Type 0 where
  pub before : List ℕ
  pub bytes_are : stream.bytes ≡ before ++ ahead
  pub packets_are : (more : List ℕ) → MayFollow stream more
      → packets_of (stream.bytes ++ more) ≡ packets ++ packets_of (ahead ++ more)

-- Whatever follows, the lines of the record are these, and then those from the bytes ahead on.
pub record HasRead (notes : Part) (lines : List Line) (ahead : List ℕ) : Type 0 where
  pub before : List ℕ
  pub bytes_are : notes.bytes ≡ before ++ ahead
  pub lines_are : (more : List ℕ) → MayFollow notes more
      → lines_of (notes.bytes ++ more) ≡ lines ++ lines_of (ahead ++ more)
