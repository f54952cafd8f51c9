-- What a status says of the ports: each fault was counted in this run, in the last call under its
-- count. This project's own.
use Rattle.std.specs.Prelude.{◌≡◌, ◌⊎◌, ℕ, false}
use Rattle.bml_ports.specs.Counters.{FaultedSince}
use Rattle.replay_run.specs.declared.status.Status.{Status}
use Rattle.replay_run.specs.declared.status.Status.TheVariants.{Done, Usage, BadRecord, OpenFault}
use Rattle.replay_run.specs.declared.status.Status.TheVariants.{ReadFault, WriteFault, KeepFault}
use Rattle.replay_run.specs.declared.status.Status.TheVariants.{BadArea, TooLong, NoMemory}
use Rattle.replay_run.specs.Kept.{is_area_length}
use Rattle.replay_run.specs.Outside.{Outside}

-- the last read of the stream, or of the record, failed
abbrev pub ReadFaulted : Outside → Outside → Type 0
ReadFaulted before behind =
    FaultedSince before.world.stream.reads behind.world.stream.reads
    ⊎ FaultedSince before.world.notes.reads behind.world.notes.reads

-- the last write failed
abbrev pub WriteFaulted : Outside → Outside → Type 0
WriteFaulted before behind = FaultedSince before.sink.writes behind.sink.writes

-- the last call of the keeper failed
abbrev pub KeepFaulted : Outside → Outside → Type 0
KeepFaulted before behind = FaultedSince before.keeper.faults behind.keeper.faults

-- an opening failed, and nothing was written, nor the keeper called
pub record OpenFaulted (before behind : Outside) : Type 0 where
  pub faulted : FaultedSince before.world.openings behind.world.openings
  pub unwritten : behind.sink ≡ before.sink
  pub uncalled : behind.keeper ≡ before.keeper

-- no area has so many bytes, and nothing was written
pub record IsNoArea (length : ℕ) (before behind : Outside) : Type 0 where
  pub size : is_area_length length ≡ false
  pub unwritten : behind.sink ≡ before.sink

-- the causes of each status
abbrev pub IsCaused : Status → Outside → Outside → Type 0
IsCaused OpenFault before behind = OpenFaulted before behind
IsCaused ReadFault before behind = ReadFaulted before behind
IsCaused WriteFault before behind = WriteFaulted before behind
IsCaused KeepFault before behind = KeepFaulted before behind
IsCaused (BadArea length) before behind = IsNoArea length before behind
IsCaused Done before behind = Unit {0}
IsCaused (BadRecord line) before behind = Unit {0}
IsCaused TooLong before behind = Unit {0}
IsCaused NoMemory before behind = Unit {0}
IsCaused Usage before behind = behind ≡ before
