-- How a replay may end: for each status, what was taken of the two files, what was written, and
-- what is kept. This project's own.
use Rattle.std.specs.Prelude.{◌≡◌, ◌≢◌, ◌⊎◌, ℕ, ◌<◌, ◌≤◌, Bool, true, not, ◌&&◌, List, [], ◌∷◌}
use Rattle.std.specs.Prelude.{◌++◌, length, Some}
use Rattle.bml_ports.specs.Counters.{counted}
use Rattle.bml_ports.specs.Worlds.{PortState}
use Rattle.receiver_core.specs.Fronts.{IsFront}
use Rattle.receiver_core.specs.Outputs.{Input, Piece}
use Rattle.replay_run.specs.declared.status.Status.{Status}
use Rattle.replay_run.specs.declared.status.Status.TheVariants.{Done, Usage, BadRecord, OpenFault}
use Rattle.replay_run.specs.declared.status.Status.TheVariants.{ReadFault, WriteFault, KeepFault}
use Rattle.replay_run.specs.declared.status.Status.TheVariants.{BadArea, TooLong, NoMemory}
use Rattle.replay_run.specs.Files.{File, GaveMore, GaveAtMost, read_length, stream_limit}
use Rattle.replay_run.specs.Files.{record_limit}
use Rattle.replay_run.specs.Given.{AreDecided, Given, Part}
use Rattle.replay_run.specs.Kept.{CallsFor, HasKept, Keeps, area_after, stores}
use Rattle.replay_run.specs.Meaning.{Meaning}
use Rattle.replay_run.specs.Needs.{NeedsLine, NeedsPacket}
use Rattle.replay_run.specs.Outside.{Account}
use Rattle.replay_run.specs.Output.{Writes, bytes_of}

-- neither file gave more than it may
pub record IsWithin (run : Account) : Type 0 where
  pub stream : GaveAtMost stream_limit run.stream
  pub notes : GaveAtMost record_limit run.notes

-- one of them gave more than it may
abbrev pub IsBeyond : Account → Type 0
IsBeyond run = GaveMore stream_limit run.stream ⊎ GaveMore record_limit run.notes

-- the areas behind these pieces are kept, of which the last one is left
abbrev pub KeepsFor : Meaning → Account → List Piece → Type 0
KeepsFor meaning run pieces =
    Keeps run.before.keeper run.behind.keeper (stores meaning.area pieces)

-- these bytes were written in the run
abbrev pub WritesIn : Account → List ℕ → Type 0
WritesIn run bytes = Writes run.before run.behind bytes

-- nothing was written, and the kept bytes are untouched
pub record LeavesAll (run : Account) : Type 0 where
  pub written : run.behind.sink.written ≡ run.before.sink.written
  pub kept : run.behind.keeper.kept ≡ run.before.keeper.kept

-- and of the keeper it was only asked, once, to load, before either file was read
pub record LoadsAlone (run : Account) : Type 0 where
  pub leaves : LeavesAll run
  pub calls : run.behind.keeper.calls ≡ counted run.before.keeper.calls
  pub stream : run.stream.left ≡ Some run.stream.bytes
  pub notes : run.notes.left ≡ Some run.notes.bytes

-- all pieces were written, and it is the meaning's status
pub record Finishes (meaning : Meaning) (run : Account) (status : Status) : Type 0 where
  pub same : meaning.status ≡ status
  pub within : IsWithin run
  pub written : WritesIn run (bytes_of meaning.pieces)
  pub kept : KeepsFor meaning run meaning.pieces

-- whole pieces were written, from the first one on, and their areas are kept; or none was written,
-- and the keeper wasn't called
pub record WritesWhole (meaning : Meaning) (run : Account) : Type 0 where
  pub whole : List Piece
  pub front : IsFront whole meaning.pieces
  pub written : WritesIn run (bytes_of whole)
  pub kept : KeepsFor meaning run whole
      ⊎ ((whole ≡ []) × (run.behind.keeper ≡ run.before.keeper))

-- ---- where reading stops

-- a port's end was told: it may not be read any more, and its last read didn't fail
abbrev pub end_told : PortState → Bool
end_told port = not port.readable && not port.reads.last_failed

-- a file gave this much, then these bytes, and has others left
pub record GaveThen (from : File) (part : Part) (last : List ℕ) : Type 0 where
  pub rest : List ℕ
  pub left_is : from.left ≡ Some rest
  pub whole : from.bytes ≡ part.bytes ++ (last ++ rest)

-- The last read of the run was of the stream, which needed a packet: before it this was given, and
-- it gave these bytes.
pub record ReadsStream (run : Account) (given : Given) (last : List ℕ) : Type 0 where
  pub needs : NeedsPacket given
  pub stream : GaveThen run.stream given.stream last
  pub notes : GaveThen run.notes given.notes []
  pub notes_end : given.notes.ended ≡ end_told run.behind.world.notes
  pub most : length last ≤ read_length

-- or it was of the record, which needed a line
pub record ReadsNotes (run : Account) (given : Given) (last : List ℕ) : Type 0 where
  pub needs : NeedsLine given
  pub notes : GaveThen run.notes given.notes last
  pub stream : GaveThen run.stream given.stream []
  pub stream_end : given.stream.ended ≡ end_told run.behind.world.stream
  pub most : length last ≤ read_length

-- Whole pieces were written, from the first one on, and among them all that what was given decides.
-- Their areas are kept.
pub record WritesDecided (meaning : Meaning) (given : Given) (run : Account) : Type 0 where
  pub whole : List Piece
  pub front : IsFront whole meaning.pieces
  pub decided : (inputs : List Input) → AreDecided given inputs
      → IsFront (meaning.pieces_for inputs) whole
  pub written : WritesIn run (bytes_of whole)
  pub kept : KeepsFor meaning run whole

-- the last read failed, and gave nothing
pub record FailsToRead (meaning : Meaning) (run : Account) : Type 0 where
  pub given : Given
  pub read : (ReadsStream run given [] × (run.behind.world.stream.reads.last_failed ≡ true))
      ⊎ (ReadsNotes run given [] × (run.behind.world.notes.reads.last_failed ≡ true))
  pub writes : WritesDecided meaning given run

-- with these bytes a file passes what it may give
pub record Passes (limit : ℕ) (part : Part) (last : List ℕ) : Type 0 where
  pub before : length part.bytes ≤ limit
  pub behind : limit < length (part.bytes ++ last)

-- with the last read a file gave more than it may
pub record ReadsTooMuch (meaning : Meaning) (run : Account) : Type 0 where
  pub given : Given
  pub last : List ℕ
  pub read : (ReadsStream run given last × Passes stream_limit given.stream last)
      ⊎ (ReadsNotes run given last × Passes record_limit given.notes last)
  pub writes : WritesDecided meaning given run

-- ---- where no read stops the run

-- these bytes, and perhaps others behind them, were written in the run
pub record WritesFirst (run : Account) (bytes : List ℕ) : Type 0 where
  pub more : List ℕ
  pub written : WritesIn run (bytes ++ more)

-- The last read of the run needed a packet or a line: before it this was given, and it gave these
-- bytes. When the run ends, the text of all pieces is written that what was given before that read
-- decides.
pub record HoldsNothingBack (meaning : Meaning) (run : Account) : Type 0 where
  pub given : Given
  pub last : List ℕ
  pub read : ReadsStream run given last ⊎ ReadsNotes run given last
  pub decided : (inputs : List Input) → AreDecided given inputs
      → WritesFirst run (bytes_of (meaning.pieces_for inputs))

-- ---- where putting a piece out stops

-- Writing a piece failed: behind whole pieces a proper front of its text was written. Its area is
-- kept.
pub record BreaksOff (meaning : Meaning) (run : Account) : Type 0 where
  pub whole : List Piece
  pub piece : Piece
  pub front : IsFront (whole ++ piece ∷ []) meaning.pieces
  pub part : List ℕ
  pub wanting : List ℕ
  pub text_is : piece.text ≡ part ++ wanting
  pub wants : wanting ≢ []
  pub written : WritesIn run (bytes_of whole ++ part)
  pub kept : KeepsFor meaning run (whole ++ piece ∷ [])

-- Storing the area behind a piece failed, which differs from the one before it: the pieces before
-- this one were written. What is kept is the area before it, or its own.
pub record FailsToStore (meaning : Meaning) (run : Account) : Type 0 where
  pub whole : List Piece
  pub piece : Piece
  pub front : IsFront (whole ++ piece ∷ []) meaning.pieces
  pub differs : piece.area ≢ area_after meaning.area whole
  pub written : WritesIn run (bytes_of whole)
  pub kept : HasKept run.before.keeper run.behind.keeper (stores meaning.area whole)
      ⊎ HasKept run.before.keeper run.behind.keeper (stores meaning.area (whole ++ piece ∷ []))
  pub calls : CallsFor run.before.keeper run.behind.keeper
      (stores meaning.area (whole ++ piece ∷ []))

-- a replay begins: the kept bytes are an area's
abbrev pub Begins : Meaning → Type 0
Begins meaning = (size : ℕ) → meaning.status ≢ BadArea size

-- Done and BadRecord are statuses of a meaning, of which all is written. At each other status that
-- comes once a replay began a front of the pieces was written, of whole pieces but for WriteFault;
-- unless memory was wanting, at least what is decided by what was given before the last read. No
-- other writes anything.
abbrev pub EndsAs : Meaning → Account → Status → Type 0
EndsAs meaning run Done = Finishes meaning run Done × HoldsNothingBack meaning run
EndsAs meaning run (BadRecord line) =
    Finishes meaning run (BadRecord line) × HoldsNothingBack meaning run
EndsAs meaning run ReadFault = Begins meaning × IsWithin run × FailsToRead meaning run
EndsAs meaning run NoMemory = WritesWhole meaning run
EndsAs meaning run TooLong = Begins meaning × IsBeyond run × ReadsTooMuch meaning run
EndsAs meaning run WriteFault =
    IsWithin run × BreaksOff meaning run × HoldsNothingBack meaning run
EndsAs meaning run KeepFault =
    LoadsAlone run ⊎ (IsWithin run × FailsToStore meaning run × HoldsNothingBack meaning run)
EndsAs meaning run OpenFault = LeavesAll run
EndsAs meaning run (BadArea length) = (meaning.status ≡ BadArea length) × LoadsAlone run
EndsAs meaning run Usage = ⊥
