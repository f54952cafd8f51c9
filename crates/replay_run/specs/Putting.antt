-- A device of the proofs: what storing the area behind a piece, and writing its text, leave.
use Rattle.std.specs.Prelude.{◌≡◌, ◌≢◌, ◌⊎◌, ℕ, ◌≤◌, if◌then◌else◌, List, [], ◌∷◌}
use Rattle.std.specs.Io.KnownBytes.{Appends}
use Rattle.bml_bytes.specs.Words.{is_same}
use Rattle.bml_ports.specs.Counters.{FaultedSince, counted}
use Rattle.bml_ports.specs.Keepers.{KeeperState}
use Rattle.bml_ports.specs.Sinks.{SinkState}
use Rattle.receiver_core.specs.Outputs.{Piece}
use Rattle.replay_run.specs.declared.status.Status.{Status}
use Rattle.replay_run.specs.declared.status.Status.TheVariants.{Done, Usage, BadRecord, OpenFault}
use Rattle.replay_run.specs.declared.status.Status.TheVariants.{ReadFault, WriteFault, KeepFault}
use Rattle.replay_run.specs.declared.status.Status.TheVariants.{BadArea, TooLong, NoMemory}
use Rattle.replay_run.specs.Kept.{HasKept, Keeps, area_after, calls_after, stores}
use Rattle.replay_run.specs.Output.{bytes_of}
use Rattle.replay_run.specs.Outside.{Outside}
use Rattle.replay_run.specs.Writing.{Grows, WritesOn, WritesShort}

-- what the two tell to which a piece goes: the keeper its area, and the sink its text
pub record Outlets : Type 0 where
  pub keeper : KeeperState
  pub sink : SinkState

abbrev pub outlets : KeeperState → SinkState → Outlets
outlets keeper sink = record { keeper = keeper; sink = sink }

abbrev pub outlets_of : Outside → Outlets
outlets_of told = outlets told.keeper told.sink

-- between the two the counts of faults didn't fall, and what was written stayed
pub record IsLater (old new : Outlets) : Type 0 where
  pub keeper : old.keeper.faults.faults ≤ new.keeper.faults.faults
  pub sink : old.sink.writes.faults ≤ new.sink.writes.faults
  pub written : Grows old.sink.written new.sink.written

-- what is stored of an area: nothing where it is the one that is kept
abbrev pub change : List ℕ → List ℕ → List (List ℕ)
change kept area = if is_same area kept then [] else area ∷ []

-- these areas were stored, by a call each
pub record KeepsOn (old new : KeeperState) (areas : List (List ℕ)) : Type 0 where
  pub kept : HasKept old new areas
  pub calls : new.calls ≡ calls_after old.calls areas

-- storing an area failed, which isn't the one that was kept
pub record FailsToKeep (old new : KeeperState) (kept area : List ℕ) : Type 0 where
  pub differs : area ≢ kept
  pub left : HasKept old new [] ⊎ HasKept old new (area ∷ [])
  pub calls : new.calls ≡ counted old.calls

-- a piece was put out whole
pub record PutsPiece (kept : List ℕ) (piece : Piece) (old new : Outlets) : Type 0 where
  pub keeps : KeepsOn old.keeper new.keeper (change kept piece.area)
  pub writes : WritesOn old.sink.written new.sink.written piece.text

-- its text was cut short
pub record CutsPiece (kept : List ℕ) (piece : Piece) (old new : Outlets) : Type 0 where
  pub keeps : KeepsOn old.keeper new.keeper (change kept piece.area)
  pub short : WritesShort old.sink.written new.sink.written piece.text

-- its area wasn't kept, and nothing of its text was written
pub record LosesPiece (kept : List ℕ) (piece : Piece) (old new : Outlets) : Type 0 where
  pub fails : FailsToKeep old.keeper new.keeper kept piece.area
  pub writes : new.sink.written ≡ old.sink.written

-- Since what was told before a replay with this area, these pieces were put out, and this area is
-- the one that was loaded or stored last.
pub record HasPut (area : List ℕ) (before : Outside) (kept : List ℕ) (now : Outlets)
    (given : List Piece) : Type 0 where
  pub wrote : Appends before.sink.written now.sink.written (bytes_of given)
  pub kept_is : kept ≡ area_after area given
  pub keeps : Keeps before.keeper now.keeper (stores area given)

-- Putting out a piece stops so.
abbrev pub StopsPiece : Status → List ℕ → Piece → Outlets → Outlets → Type 0
StopsPiece WriteFault kept piece old new = CutsPiece kept piece old new
StopsPiece KeepFault kept piece old new = LosesPiece kept piece old new
StopsPiece NoMemory kept piece old new = ⊥
StopsPiece Done kept piece old new = ⊥
StopsPiece Usage kept piece old new = ⊥
StopsPiece (BadRecord line) kept piece old new = ⊥
StopsPiece OpenFault kept piece old new = ⊥
StopsPiece ReadFault kept piece old new = ⊥
StopsPiece (BadArea size) kept piece old new = ⊥
StopsPiece TooLong kept piece old new = ⊥

-- Making turns stops for these causes.
abbrev pub StopsTurns : Status → Outlets → Outlets → Type 0
StopsTurns WriteFault old new = FaultedSince old.sink.writes new.sink.writes
StopsTurns KeepFault old new = FaultedSince old.keeper.faults new.keeper.faults
StopsTurns NoMemory old new = Unit {0}
StopsTurns Done old new = ⊥
StopsTurns Usage old new = ⊥
StopsTurns (BadRecord line) old new = ⊥
StopsTurns OpenFault old new = ⊥
StopsTurns ReadFault old new = ⊥
StopsTurns (BadArea size) old new = ⊥
StopsTurns TooLong old new = ⊥
