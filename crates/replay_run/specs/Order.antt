-- In which order a run asks of the world, from its first moment to its last: for the stream, then
-- for the record, and then for their bytes. This project's own.
use Rattle.std.specs.Prelude.{◌≡◌, ◌≢◌, ℕ, ◌≤◌, ◌⊎◌, List, Option, Some, None, Bool, true, false, not}
use Rattle.std.specs.Prelude.{IfSome, IsSome}
use Rattle.std.specs.Io.KnownBytes.{Consumes}
use Rattle.bml_ports.specs.declared.outside.Port.{Port}
use Rattle.bml_ports.specs.declared.outside.Port.TheVariants.{Stream, Notes}
use Rattle.bml_ports.specs.Worlds.{WorldState, PortState, port_of, other_port}
use Rattle.replay_run.specs.declared.status.Status.{Status}
use Rattle.replay_run.specs.declared.status.Status.TheVariants.{BadArea, OpenFault}
use Rattle.replay_run.specs.Words.{Command}
use Rattle.replay_run.specs.Words.Command.{Generate, Replay}

-- between the two, this name was asked for at this port, and that was all; the opening succeeded, or
-- it didn't
pub record IsOpening (port : Port) (name : List ℕ) (succeeded : Bool) (old new : WorldState)
    : Type 0 where
  pub asked : (port_of new port).asked ≡ Some name
  pub readable : (port_of new port).readable ≡ succeeded
  pub failed : new.openings.last_failed ≡ not succeeded
  pub found : succeeded ≡ true → IfSome old.files (λ bytes_of.
      IsSome (bytes_of name) × ((port_of new port).left ≡ bytes_of name))
  pub files : new.files ≡ old.files
  pub other : port_of new (other_port port) ≡ port_of old (other_port port)

-- between the two, the calls on the port were reads, which took bytes from the front of those left
pub record IsReadOn (old new : PortState) : Type 0 where
  pub asked : new.asked ≡ old.asked
  pub later : old.reads.faults ≤ new.reads.faults
  pub given : List ℕ
  pub consumed : Consumes old.left new.left given

-- and so were the calls of the world
pub record OnlyReadsBoth (old new : WorldState) : Type 0 where
  pub files : new.files ≡ old.files
  pub openings : new.openings ≡ old.openings
  pub stream : IsReadOn old.stream new.stream
  pub notes : IsReadOn old.notes new.notes

-- the opening failed, which ended the run; or it succeeded, and more may follow
abbrev pub OpensThen : Port → List ℕ → Status → WorldState → WorldState → (WorldState → Type 0)
    → Type 0
OpensThen port name status before behind Rest =
    ((status ≡ OpenFault) × IsOpening port name false before behind)
    ⊎ ((opened : WorldState) × IsOpening port name true before opened × Rest opened)

-- a run whose kept bytes are no area's didn't come to a read
abbrev pub ReadsNoneAtBadArea : Status → WorldState → WorldState → Type 0
ReadsNoneAtBadArea status ready behind = (size : ℕ) → status ≡ BadArea size → behind ≡ ready

-- the run ended before it asked for more, and not for an opening that failed
abbrev pub EndsBetween : Status → WorldState → WorldState → Type 0
EndsBetween status before behind = (behind ≡ before) × (status ≢ OpenFault)

-- The stream is opened first, and the record only once the stream was opened; and only once both
-- were, they are read, but for a run that ends at the length of the kept bytes. A run may end behind
-- each of these steps.
abbrev pub OpensInOrder : List ℕ → List ℕ → Status → WorldState → WorldState → Type 0
OpensInOrder stream notes status before behind =
    EndsBetween status before behind
    ⊎ OpensThen Stream stream status before behind (λ opened.
    EndsBetween status opened behind
    ⊎ OpensThen Notes notes status opened behind (λ ready.
    OnlyReadsBoth ready behind × (status ≢ OpenFault)
    × ReadsNoneAtBadArea status ready behind))

-- the same of the two names of a replay; for any other words nothing is asked
abbrev pub AsksInOrder : Option Command → Status → WorldState → WorldState → Type 0
AsksInOrder None status before behind = behind ≡ before
AsksInOrder (Some (Replay request)) status before behind =
    OpensInOrder request.stream request.notes status before behind
AsksInOrder (Some (Generate seed count)) status before behind = behind ≡ before
