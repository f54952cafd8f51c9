-- A run that nothing hinders comes to its end.
use Rattle.std.proofs.Common.{◌≡◌, ◌≢◌, ℕ, ◌≤◌, List, length, length-append, refl, sym, ap, true, false}
use Rattle.std.proofs.Common.{◌∙◌, arith, inl, inr, Option, Some, None, Result, Ok, Err, IfErr}
use Rattle.bml_ports.specs.Counters.{Counter, FaultedSince}
use Rattle.es_reader.specs.Readers.{Reader}
use Rattle.receiver_core.specs.Outputs.{Piece}
use Rattle.replay_run.specs.declared.record.RecordItem.{RecordItem}
use Rattle.replay_run.specs.declared.status.Status.{Status}
use Rattle.replay_run.specs.declared.status.Status.TheVariants.{Done, Usage, BadRecord, OpenFault}
use Rattle.replay_run.specs.declared.status.Status.TheVariants.{ReadFault, WriteFault, KeepFault}
use Rattle.replay_run.specs.declared.status.Status.TheVariants.{BadArea, TooLong, NoMemory}
use Rattle.replay_run.specs.Causes.{IsCaused}
use Rattle.replay_run.specs.Completeness.{Completes, IsFaultless, IsUnhindered}
use Rattle.replay_run.specs.Ending.{IsBeyond}
use Rattle.replay_run.specs.Files.{File, GaveMore, file}
use Rattle.replay_run.specs.Generating.{GeneratesAs}
use Rattle.replay_run.specs.Kept.{is_area_length}
use Rattle.replay_run.specs.Outside.{Outside, account}
use Rattle.replay_run.specs.Progress.{Replay}
use Rattle.replay_run.specs.RecordProgress.{LeavesItems}
use Rattle.replay_run.specs.Reasons.{HasReason}
use Rattle.replay_run.specs.Replaying.{StopsWriting, TellsOfFiles}
use Rattle.replay_run.specs.Status.{outcome_of}
use Rattle.replay_run.specs.Stopping.{LeavesPackets}

-- a file that is no longer than the limit didn't give more
never_more : (limit : ℕ) (bytes : List ℕ) (left : Option (List ℕ)) → length bytes ≤ limit
    → GaveMore limit (file bytes left) → ⊥
never_more limit bytes left short more =
    omega (
      arith,
      more.more,
      short,
      ap length more.gave.whole,
      length-append more.gave.given
          more.gave.rest,
    )

-- neither file is longer than it may be
never_beyond : (stream notes kept : List ℕ) (before behind : Outside)
    → IsUnhindered stream notes kept before behind
    → IsBeyond (account stream notes before behind) → ⊥
never_beyond stream notes kept before behind free (inl more) =
    never_more _ stream _ free.stream_short more
never_beyond stream notes kept before behind free (inr more) =
    never_more _ notes _ free.notes_short more

pub comes_to_end : (status : Status) (stream notes kept : List ℕ) (before behind : Outside)
    → HasReason (account stream notes before behind) kept status
    → IsCaused status before behind → status ≢ Usage
    → IsUnhindered stream notes kept before behind → Completes status
comes_to_end Done stream notes kept before behind reason cause obeyed free = inl refl
comes_to_end NoMemory stream notes kept before behind reason cause obeyed free = inr refl
comes_to_end (BadRecord line) stream notes kept before behind reason cause obeyed free =
    let clash : None ≡ Some line = sym free.good ∙ reason.0 in cc
comes_to_end Usage stream notes kept before behind reason cause obeyed free =
    absurd (obeyed refl)
comes_to_end OpenFault stream notes kept before behind reason cause obeyed free =
    absurd (free.opened cause.faulted.rose)
comes_to_end ReadFault stream notes kept before behind reason (inl cause) obeyed free =
    absurd (free.stream_read cause.rose)
comes_to_end ReadFault stream notes kept before behind reason (inr cause) obeyed free =
    absurd (free.notes_read cause.rose)
comes_to_end WriteFault stream notes kept before behind reason cause obeyed free =
    absurd (free.written cause.rose)
comes_to_end KeepFault stream notes kept before behind reason cause obeyed free =
    absurd (free.stored cause.rose)
comes_to_end (BadArea size) stream notes kept before behind reason cause obeyed free =
    let clash : false ≡ true = sym cause.size ∙ ap is_area_length reason ∙ free.area in cc
comes_to_end TooLong stream notes kept before behind reason cause obeyed free =
    absurd (never_beyond stream notes kept before behind free reason.0)

-- generated files whose lines the sink takes
pub generates_to_end : (status : Status) (read : Reader) (seed count : ℕ) (before behind : Outside)
    → GeneratesAs read seed count before behind status
    → (status ≡ WriteFault → FaultedSince before.sink.writes behind.sink.writes)
    → IsFaultless before.sink.writes behind.sink.writes → Completes status
generates_to_end Done read seed count before behind ends cause free = inl refl
generates_to_end NoMemory read seed count before behind ends cause free = inr refl
generates_to_end WriteFault read seed count before behind ends cause free =
    absurd (free (cause refl).rose)
generates_to_end Usage read seed count before behind ends cause free = absurd ends
generates_to_end (BadRecord line) read seed count before behind ends cause free = absurd ends
generates_to_end OpenFault read seed count before behind ends cause free = absurd ends
generates_to_end ReadFault read seed count before behind ends cause free = absurd ends
generates_to_end KeepFault read seed count before behind ends cause free = absurd ends
generates_to_end (BadArea size) read seed count before behind ends cause free = absurd ends
generates_to_end TooLong read seed count before behind ends cause free = absurd ends

-- and why they don't come to their end
pub generating_caused : (status : Status) (read : Reader) (seed count : ℕ)
    (before behind : Outside)
    → GeneratesAs read seed count before behind status
    → (status ≡ WriteFault → FaultedSince before.sink.writes behind.sink.writes)
    → IsCaused status before behind
generating_caused Done read seed count before behind ends cause = tt
generating_caused NoMemory read seed count before behind ends cause = tt
generating_caused WriteFault read seed count before behind ends cause = cause refl
generating_caused Usage read seed count before behind ends cause = absurd ends
generating_caused (BadRecord line) read seed count before behind ends cause = absurd ends
generating_caused OpenFault read seed count before behind ends cause = absurd ends
generating_caused ReadFault read seed count before behind ends cause = absurd ends
generating_caused KeepFault read seed count before behind ends cause = absurd ends
generating_caused (BadArea size) read seed count before behind ends cause = absurd ends
generating_caused TooLong read seed count before behind ends cause = absurd ends

-- ---- what a status says of the files

-- reading items stopped
pub tells_in_items : (status : Status) (stream notes : File) (items : List RecordItem)
    → LeavesItems status notes items → TellsOfFiles status stream notes
tells_in_items (BadRecord line) stream notes items l = l.number
tells_in_items TooLong stream notes items l = inr l
tells_in_items ReadFault stream notes items l = tt
tells_in_items Done stream notes items l = absurd l
tells_in_items Usage stream notes items l = absurd l
tells_in_items OpenFault stream notes items l = absurd l
tells_in_items WriteFault stream notes items l = absurd l
tells_in_items KeepFault stream notes items l = absurd l
tells_in_items (BadArea size) stream notes items l = absurd l
tells_in_items NoMemory stream notes items l = absurd l

-- handling an item stopped
pub tells_in_packets : (status : Status) (replay : Replay) (told : Outside) (notes : File)
    (given : List Piece)
    → LeavesPackets status replay told given
    → TellsOfFiles status (file replay.stream told.world.stream.left) notes
tells_in_packets TooLong replay told notes given l = inl l
tells_in_packets (BadRecord line) replay told notes given l = absurd l
tells_in_packets ReadFault replay told notes given l = tt
tells_in_packets Done replay told notes given l = absurd l
tells_in_packets Usage replay told notes given l = absurd l
tells_in_packets OpenFault replay told notes given l = absurd l
tells_in_packets WriteFault replay told notes given l = tt
tells_in_packets KeepFault replay told notes given l = tt
tells_in_packets (BadArea size) replay told notes given l = absurd l
tells_in_packets NoMemory replay told notes given l = tt

-- writing the last line stopped, or it didn't
tells_in_writing : (status : Status) (stream notes : File) (old new : Counter)
    → StopsWriting status old new → TellsOfFiles status stream notes
tells_in_writing (BadRecord line) stream notes old new stops = absurd stops
tells_in_writing TooLong stream notes old new stops = absurd stops
tells_in_writing Done stream notes old new stops = absurd stops
tells_in_writing Usage stream notes old new stops = absurd stops
tells_in_writing OpenFault stream notes old new stops = absurd stops
tells_in_writing ReadFault stream notes old new stops = absurd stops
tells_in_writing WriteFault stream notes old new stops = tt
tells_in_writing KeepFault stream notes old new stops = absurd stops
tells_in_writing (BadArea size) stream notes old new stops = absurd stops
tells_in_writing NoMemory stream notes old new stops = tt

pub tells_in_line : (result : Result (Unit {0}) Status) (stream notes : File) (old new : Counter)
    → IfErr result (λ status. StopsWriting status old new)
    → TellsOfFiles (outcome_of result) stream notes
tells_in_line (Ok u) stream notes old new stops = tt
tells_in_line (Err status) stream notes old new stops =
    tells_in_writing status stream notes old new stops
