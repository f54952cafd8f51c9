-- How a run ends that comes to no item, and what its keeper tells, over plain values.
use Rattle.std.proofs.Common.{◌≡◌, ◌≢◌, ℕ, ◌≤◌, Result, Ok, Err, IfErr, false, cond, List, [], ◌∷◌, length, refl, sym}
use Rattle.std.proofs.Common.{ap, ◌∙◌, subst, arith, Option, Some, None, inl, inr}
use Rattle.std.specs.Io.KnownBytes.{Appends, Keeps as KeepsKnown}
use Rattle.std.proofs.KnownBytes.{Appends-nil}
use Rattle.bml_ports.specs.declared.outside.Port.{Port}
use Rattle.bml_ports.specs.Counters.{counted}
use Rattle.bml_ports.specs.Keepers.{KeeperState, Loads, Replaces}
use Rattle.bml_ports.specs.Sinks.{SinkState}
use Rattle.bml_ports.specs.Worlds.{WorldState}
use Rattle.psi_tables.specs.declared.services.Selection.{Selection}
use Rattle.es_reader.specs.Readers.{Reader}
use Rattle.replay_run.specs.declared.status.Status.{Status}
use Rattle.replay_run.specs.declared.status.Status.TheVariants.{Done, Usage, BadRecord, OpenFault}
use Rattle.replay_run.specs.declared.status.Status.TheVariants.{ReadFault, WriteFault, KeepFault}
use Rattle.replay_run.specs.declared.status.Status.TheVariants.{BadArea, TooLong, NoMemory}
use Rattle.replay_run.specs.Causes.{IsCaused, ReadFaulted, WriteFaulted}
use Rattle.replay_run.specs.Ending.{EndsAs, LoadsAlone}
use Rattle.replay_run.specs.Generating.{GeneratesAs}
use Rattle.replay_run.specs.Kept.{HasKept, Keeps, area_of_kept, is_area_length}
use Rattle.replay_run.specs.Meaning.{Meaning, area_meaning, no_replay, replay_meaning}
use Rattle.replay_run.specs.Opening.{bytes_under}
use Rattle.replay_run.specs.Outside.{Account, Outside, outside}
use Rattle.replay_run.specs.Progress.{HasBegun}
use Rattle.replay_run.specs.Reasons.{AreAnArea, HasReason}
use Rattle.replay_run.specs.Replaying.{StopsLoading, StopsOpening, StopsPlay, StopsReplay}
use Rattle.replay_run.specs.Replaying.{TellsOfFiles}
use Rattle.replay_run.specs.Status.{outcome_of}

-- ---- calls of the keeper

-- kept bytes that stay
pub kept_on : (old new : KeeperState) → KeepsKnown old.kept new.kept → HasKept old new []
kept_on old new keeps = by old.kept new.kept keeps
  where
    by : (old new : Option (List ℕ)) → KeepsKnown old new → (bytes : List ℕ) → old ≡ Some bytes
        → new ≡ Some bytes
    by None new k bytes e = let clash : None ≡ Some bytes = e in cc
    by (Some x) None k bytes e = absurd k
    by (Some x) (Some y) k bytes e = ap Some k ∙ e

-- kept bytes that gave way to an area
pub kept_now : (old new : KeeperState) (area : List ℕ) → Replaces old.kept new.kept area
    → HasKept old new (area ∷ [])
kept_now old new area replaces = by old.kept new.kept replaces
  where
    by : (old new : Option (List ℕ)) → Replaces old new area → (bytes : List ℕ) → old ≡ Some bytes
        → new ≡ Some area
    by None new r bytes e = let clash : None ≡ Some bytes = e in cc
    by (Some x) new r bytes e = r

-- what a load that succeeded told
pub loaded_size : (kept : Option (List ℕ)) (size : ℕ) (area : List ℕ) → Loads kept size area
    → (bytes : List ℕ) → kept ≡ Some bytes → size ≡ length bytes
loaded_size None size area l bytes e = let clash : None ≡ Some bytes = e in cc
loaded_size (Some x) size area l bytes e = let same : x ≡ bytes = cc in l.0 ∙ ap length same

pub loaded_area : (kept : Option (List ℕ)) (size : ℕ) (area : List ℕ) → Loads kept size area
    → (bytes : List ℕ) → kept ≡ Some bytes → area ≡ area_of_kept bytes
loaded_area None size area l bytes e = let clash : None ≡ Some bytes = e in cc
loaded_area (Some x) size area l bytes e =
    let same : x ≡ bytes = cc in l.1 ∙ ap area_of_kept same

-- ---- nothing was opened, or nothing was loaded

pub ends_unopened : (status : Status) (meaning : Meaning) (run : Account) (port : Port)
    (old new : WorldState)
    → run.behind.sink ≡ run.before.sink → run.behind.keeper ≡ run.before.keeper
    → StopsOpening status port old new → EndsAs meaning run status
ends_unopened OpenFault meaning run port old new sink keeper s =
    record { written = ap (λ s. s.written) sink; kept = ap (λ k. k.kept) keeper }
ends_unopened NoMemory meaning run port old new sink keeper s = record {
  whole = [];
  front = record { rest = meaning.pieces; joined = refl };
  written = subst (λ o. Appends run.before.sink.written o []) (sym (ap (λ s. s.written) sink))
      (Appends-nil run.before.sink.written);
  kept = inr (refl, keeper);
}
ends_unopened Done meaning run port old new sink keeper s = absurd s
ends_unopened Usage meaning run port old new sink keeper s = absurd s
ends_unopened (BadRecord line) meaning run port old new sink keeper s = absurd s
ends_unopened ReadFault meaning run port old new sink keeper s = absurd s
ends_unopened WriteFault meaning run port old new sink keeper s = absurd s
ends_unopened KeepFault meaning run port old new sink keeper s = absurd s
ends_unopened (BadArea size) meaning run port old new sink keeper s = absurd s
ends_unopened TooLong meaning run port old new sink keeper s = absurd s

-- kept bytes of that length are an area's
pub means_area : (read : Reader) (selection : Selection) (kept stream notes : List ℕ)
    → AreAnArea kept
    → area_meaning read selection (area_of_kept kept) stream notes
    ≡ replay_meaning read selection kept stream notes
means_area read selection kept stream notes is_area =
    ap (λ b. cond b (area_meaning read selection (area_of_kept kept) stream notes) (no_replay kept))
    (sym is_area)

-- or they are none
pub means_none : (read : Reader) (selection : Selection) (kept stream notes : List ℕ) (size : ℕ)
    → is_area_length size ≡ false → size ≡ length kept
    → (replay_meaning read selection kept stream notes).status ≡ BadArea size
means_none read selection kept stream notes size bad same =
    let none : is_area_length (length kept) ≡ false = ap is_area_length (sym same) ∙ bad in
    ap (λ b. (cond b (area_meaning read selection (area_of_kept kept) stream notes)
    (no_replay kept)).status) none
    ∙ ap BadArea (sym same)

loads_alone : (kept : List ℕ) (run : Account) → run.behind.sink ≡ run.before.sink
    → run.before.keeper.kept ≡ Some kept → Keeps run.before.keeper run.behind.keeper []
    → run.behind.keeper.calls ≡ counted run.before.keeper.calls
    → run.stream.left ≡ Some run.stream.bytes → run.notes.left ≡ Some run.notes.bytes
    → LoadsAlone run
loads_alone kept run sink told keeps once stream notes = record {
  leaves = record {
    written = ap (λ s. s.written) sink;
    kept = keeps.kept kept told ∙ sym told;
  };
  calls = once;
  stream = stream;
  notes = notes;
}

pub ends_unloaded : (status : Status) (read : Reader) (selection : Selection)
    (kept stream notes : List ℕ) (run : Account)
    → run.behind.sink ≡ run.before.sink → run.before.keeper.kept ≡ Some kept
    → Keeps run.before.keeper run.behind.keeper []
    → run.behind.keeper.calls ≡ counted run.before.keeper.calls
    → run.stream.left ≡ Some run.stream.bytes → run.notes.left ≡ Some run.notes.bytes
    → StopsLoading status run.before.keeper run.behind.keeper
    → EndsAs (replay_meaning read selection kept stream notes) run status
ends_unloaded KeepFault read selection kept stream notes run sink told keeps once l n s =
    inl (loads_alone kept run sink told keeps once l n)
ends_unloaded (BadArea size) read selection kept stream notes run sink told keeps once l n s = (
  means_none read selection kept stream notes size s.bad (s.same kept told),
  loads_alone kept run sink told keeps once l n,
)
ends_unloaded Done read selection kept stream notes run sink told keeps once l n s = absurd s
ends_unloaded Usage read selection kept stream notes run sink told keeps once l n s = absurd s
ends_unloaded (BadRecord line) read selection kept stream notes run sink told keeps once l n s = absurd s
ends_unloaded OpenFault read selection kept stream notes run sink told keeps once l n s = absurd s
ends_unloaded ReadFault read selection kept stream notes run sink told keeps once l n s = absurd s
ends_unloaded WriteFault read selection kept stream notes run sink told keeps once l n s = absurd s
ends_unloaded TooLong read selection kept stream notes run sink told keeps once l n s = absurd s
ends_unloaded NoMemory read selection kept stream notes run sink told keeps once l n s = absurd s

-- a replay has begun once the area is loaded
pub begun_loaded : (before : Outside) (world : WorldState) (old new : KeeperState) (sink : SinkState)
    → sink ≡ before.sink → old ≡ before.keeper → Keeps old new []
    → HasBegun before (outside world new sink)
begun_loaded before world old new sink same_sink same keeps = record {
  written = ap (λ (s : SinkState). s.written) same_sink;
  keeps = subst (λ k. Keeps k new []) same keeps;
}

-- and it ends by the kept bytes
pub ends_loaded : (status : Status) (read : Reader) (selection : Selection)
    (area kept stream notes : List ℕ) (run : Account)
    → area ≡ area_of_kept kept → AreAnArea kept
    → EndsAs (area_meaning read selection area stream notes) run status
    → EndsAs (replay_meaning read selection kept stream notes) run status
ends_loaded status read selection area kept stream notes run same is_area ends =
    subst (λ m. EndsAs m run status)
    (ap (λ a. area_meaning read selection a stream notes) same
    ∙ means_area read selection kept stream notes is_area) ends

-- the bytes under a name stay while the files do
pub bytes_same : (old new : WorldState) (name bytes : List ℕ) → new.files ≡ old.files
    → bytes_under old name ≡ Some bytes → bytes_under new name ≡ Some bytes
bytes_same old new name bytes same under =
    subst (λ f. bytes_under (record old { files = f }) name ≡ Some bytes) (sym same) under

-- ---- causes

-- a replay that has begun stops for a cause of replays
pub stops_begun : (status : Status) (first old new : Outside)
    → old.world ≡ first.world → old.sink ≡ first.sink
    → first.keeper.faults.faults ≤ old.keeper.faults.faults
    → StopsPlay status old new → StopsReplay status first new
stops_begun ReadFault first old new world sink later s =
    subst (λ w. ReadFaulted (record first { world = w }) new) world s
stops_begun WriteFault first old new world sink later s =
    subst (λ k. WriteFaulted (record first { sink = k }) new) sink s
stops_begun KeepFault first old new world sink later s =
    record { rose = omega (arith, s.rose, later); last = s.last }
stops_begun (BadRecord line) first old new world sink later s = tt
stops_begun TooLong first old new world sink later s = tt
stops_begun NoMemory first old new world sink later s = tt
stops_begun Done first old new world sink later s = absurd s
stops_begun Usage first old new world sink later s = absurd s
stops_begun OpenFault first old new world sink later s = absurd s
stops_begun (BadArea size) first old new world sink later s = absurd s

-- ---- what a status says of the files and of the kept bytes

-- loading stopped
pub reason_unloaded : (status : Status) (run : Account) (old new : KeeperState) (kept : List ℕ)
    → old.kept ≡ Some kept → StopsLoading status old new → HasReason run kept status
reason_unloaded KeepFault run old new kept told s = tt
reason_unloaded (BadArea size) run old new kept told s = s.same kept told
reason_unloaded Done run old new kept told s = absurd s
reason_unloaded Usage run old new kept told s = absurd s
reason_unloaded (BadRecord line) run old new kept told s = absurd s
reason_unloaded OpenFault run old new kept told s = absurd s
reason_unloaded ReadFault run old new kept told s = absurd s
reason_unloaded WriteFault run old new kept told s = absurd s
reason_unloaded TooLong run old new kept told s = absurd s
reason_unloaded NoMemory run old new kept told s = absurd s

-- it didn't
pub reason_loaded : (status : Status) (run : Account) (kept : List ℕ) → AreAnArea kept
    → TellsOfFiles status run.stream run.notes → HasReason run kept status
reason_loaded (BadRecord line) run kept is_area t = (t, is_area)
reason_loaded TooLong run kept is_area t = (t, is_area)
reason_loaded (BadArea size) run kept is_area t = absurd t
reason_loaded Done run kept is_area t = is_area
reason_loaded ReadFault run kept is_area t = is_area
reason_loaded WriteFault run kept is_area t = is_area
reason_loaded KeepFault run kept is_area t = tt
reason_loaded OpenFault run kept is_area t = tt
reason_loaded NoMemory run kept is_area t = tt
reason_loaded Usage run kept is_area t = tt

-- nothing was opened
pub reason_unopened : (status : Status) (run : Account) (kept : List ℕ) (port : Port)
    (old new : WorldState) → StopsOpening status port old new → HasReason run kept status
reason_unopened OpenFault run kept port old new s = tt
reason_unopened NoMemory run kept port old new s = tt
reason_unopened Done run kept port old new s = absurd s
reason_unopened Usage run kept port old new s = absurd s
reason_unopened (BadRecord line) run kept port old new s = absurd s
reason_unopened ReadFault run kept port old new s = absurd s
reason_unopened WriteFault run kept port old new s = absurd s
reason_unopened KeepFault run kept port old new s = absurd s
reason_unopened (BadArea size) run kept port old new s = absurd s
reason_unopened TooLong run kept port old new s = absurd s

-- ---- the answer as a status

pub outcome_caused : (result : Result (Unit {0}) Status) (before behind : Outside)
    → IfErr result (λ status. IsCaused status before behind)
    → IsCaused (outcome_of result) before behind
outcome_caused (Ok u) before behind cause = tt
outcome_caused (Err status) before behind cause = cause

pub outcome_obeyed : (result : Result (Unit {0}) Status) → IfErr result (λ status. status ≢ Usage)
    → outcome_of result ≢ Usage
outcome_obeyed (Ok u) obeyed e = let clash : Done ≡ Usage = e in cc
outcome_obeyed (Err status) obeyed e = obeyed e

pub outcome_faulted : (result : Result (Unit {0}) Status) (P : Type 0)
    → IfErr result (λ status. status ≡ WriteFault → P) → outcome_of result ≡ WriteFault → P
outcome_faulted (Ok u) P cause e = let clash : Done ≡ WriteFault = e in cc
outcome_faulted (Err status) P cause e = cause e

-- generated files don't end as words do that are no command
pub generates_usage : (read : Reader) (seed count : ℕ) (before behind : Outside) (status : Status)
    → GeneratesAs read seed count before behind status → status ≡ Usage → ⊥
generates_usage read seed count before behind status ends e =
    let P : Status → Type 0 = λ s. GeneratesAs read seed count before behind s in subst P e ends
