-- How a replay ends, over plain values.
use Rattle.std.proofs.Common.{◌≡◌, ◌≢◌, ℕ, ◌≤◌, List, [], ◌∷◌, ◌++◌, refl, sym, ap, ap₂, ◌∙◌, subst}
use Rattle.std.proofs.Common.{append-nil, Option, Some, None, Result, Ok, Err, OnOk, IfErr, inl, inr}
use Rattle.std.specs.Io.KnownBytes.{Appends}
use Rattle.bml_ports.specs.declared.outside.Port.TheVariants.{Stream, Notes}
use Rattle.bml_ports.specs.Keepers.{KeeperState}
use Rattle.bml_ports.specs.Worlds.{WorldState, PortState}
use Rattle.ts_packets.specs.Packets.{packets_of}
use Rattle.es_reader.specs.Readers.{IsReader}
use Rattle.receiver_core.specs.Fronts.{IsFront, front_of_self, front_of_append, front_of_front}
use Rattle.receiver_core.specs.Outputs.{Input, Piece, outputs}
use Rattle.receiver_core.specs.Receiving.{IsIdle}
use Rattle.replay_run.specs.declared.record.RecordItem.{RecordItem}
use Rattle.replay_run.specs.declared.status.Status.{Status}
use Rattle.replay_run.specs.declared.status.Status.TheVariants.{Done, Usage, BadRecord, OpenFault}
use Rattle.replay_run.specs.declared.status.Status.TheVariants.{ReadFault, WriteFault, KeepFault}
use Rattle.replay_run.specs.declared.status.Status.TheVariants.{BadArea, TooLong, NoMemory}
use Rattle.replay_run.specs.Ending.{Begins, EndsAs, FailsToRead, HoldsNothingBack, ReadsTooMuch}
use Rattle.replay_run.specs.Files.{file, GaveAtMost, record_limit}
use Rattle.replay_run.specs.Lines.{end_line}
use Rattle.replay_run.specs.Meaning.{Meaning, area_meaning, end_piece, last_pieces, replay_inputs}
use Rattle.replay_run.specs.Meaning.{replay_pieces, status_behind}
use Rattle.replay_run.specs.Midway.{StopsIn}
use Rattle.replay_run.specs.Order.{IsReadOn, OnlyReadsBoth}
use Rattle.replay_run.specs.Outside.{Outside}
use Rattle.replay_run.specs.Play.{inputs_of}
use Rattle.replay_run.specs.Progress.{HasBegun, Replay, Moment, IsBetween}
use Rattle.replay_run.specs.Kept.{Keeps, stores}
use Rattle.replay_run.specs.Output.{bytes_of}
use Rattle.replay_run.specs.Putting.{CutsPiece, HasPut, KeepsOn, PutsPiece, change, outlets_of}
use Rattle.replay_run.specs.Record.{items_before_bad, first_bad}
use Rattle.replay_run.specs.RecordProgress.{RecordState, IsAt, IsBadBehind, IsWhole, LeavesItems}
use Rattle.replay_run.specs.Replaying.{StopsLine}
use Rattle.replay_run.specs.Status.{outcome_of}
use Rattle.replay_run.specs.Stopping.{LeavesPackets, OnlyReads, StreamWithin, meaning_of, run_of}
use Rattle.replay_run.specs.Writing.{WritesOn}
use Rattle.replay_run.proofs.KeptLaws.{keeps_none}
use Rattle.replay_run.proofs.OutputLaws.{ReceiverLaws, first_outputs, idle_area}
use Rattle.replay_run.proofs.PlayLaws.{front_of_inputs}
use Rattle.replay_run.proofs.PuttingLaws.{lost_further, put_more, put_none, put_short, put_whole}
use Rattle.replay_run.proofs.PuttingLaws.{short_further, whole_further}
use Rattle.replay_run.proofs.RecordProgressLaws.{items_of_whole}
use Rattle.replay_run.proofs.StoppingLaws.{midway_within, read_on_none, read_on_more}

abbrev pub means : Replay → Meaning
means replay =
    area_meaning replay.read replay.selection replay.area replay.stream replay.notes

-- it ends as it should
abbrev pub Ends : Replay → Outside → Status → Type 0
Ends replay behind status = EndsAs (means replay) (run_of replay behind) status

-- it kept nothing back
abbrev pub Holds : Replay → Outside → Type 0
Holds replay behind = HoldsNothingBack (means replay) (run_of replay behind)

-- the record gave no more than it may, as far as it was read
abbrev pub RecordWithin : Replay → Outside → Type 0
RecordWithin replay behind = GaveAtMost record_limit (run_of replay behind).notes

-- where a read ended it, what was given before it decides was written
pub record FaultyReads (status : Status) (replay : Replay) (behind : Outside) : Type 0 where
  pub failed : status ≡ ReadFault → FailsToRead (means replay) (run_of replay behind)
  pub long : status ≡ TooLong → ReadsTooMuch (means replay) (run_of replay behind)

-- a replay has begun
begins_by : (bad : Option ℕ) (size : ℕ) → status_behind bad ≢ BadArea size
begins_by None size e = let clash : Done ≡ BadArea size = e in cc
begins_by (Some line) size e = let clash : BadRecord line ≡ BadArea size = e in cc

begins : (replay : Replay) → Begins (means replay)
begins replay = begins_by (first_bad replay.notes)

-- what the first items hand over stands in front of all
pub front_of_items : (stream notes : List ℕ) (items : List RecordItem)
    → IsFront items (items_before_bad notes)
    → IsFront (inputs_of (packets_of stream) items) (replay_inputs stream notes)
front_of_items stream notes items front =
    subst (λ l. IsFront (inputs_of (packets_of stream) items) (inputs_of (packets_of stream) l))
    (sym front.joined) (front_of_inputs (packets_of stream) items front.rest)

-- what some inputs print stands in front of all pieces
pub front_of_prints : ReceiverLaws → (replay : Replay) (some : List Input)
    → IsFront some (replay_inputs replay.stream replay.notes)
    → IsFront (outputs replay.read replay.selection replay.area some) (means replay).pieces
unfolding replay_pieces
front_of_prints laws replay some front =
    let all = replay_inputs replay.stream replay.notes in
    let last = last_pieces (first_bad replay.notes)
    (end_piece replay.read replay.selection replay.area all) in
    front_of_front (outputs replay.read replay.selection replay.area some)
    (outputs replay.read replay.selection replay.area all)
    (replay_pieces replay.read replay.selection replay.area replay.stream replay.notes)
    (first_outputs laws replay.read replay.selection replay.area some all (inl front))
    (front_of_append (outputs replay.read replay.selection replay.area all) last)

-- ---- an item stops the replay

-- pieces that were given in the first items stand in front of all
front_of_stop : ReceiverLaws → (status : Status) (replay : Replay) (behind : Outside)
    (items : List RecordItem)
    → IsReader replay.read → IsFront items (items_before_bad replay.notes)
    → (s : StopsIn status replay behind (inputs_of (packets_of replay.stream) items))
    → IsFront s.given (means replay).pieces
front_of_stop laws status replay behind items right front s =
    let some = inputs_of (packets_of replay.stream) items in
    let prints : List Input → List Piece =
    λ l. outputs replay.read replay.selection replay.area l in
    front_of_front s.given (prints some) (means replay).pieces
    (front_of_front s.given (prints s.inputs) (prints some)
    (laws.front replay.read replay.selection replay.area s.receiver s.inputs s.given (s.stands right))
    (first_outputs laws replay.read replay.selection replay.area s.inputs some s.first))
    (front_of_prints laws replay some (front_of_items replay.stream replay.notes items front))

leaves_in_front : (status : Status) (replay : Replay) (behind : Outside) (given : List Piece)
    → IsFront given (means replay).pieces → RecordWithin replay behind
    → FaultyReads status replay behind → Holds replay behind
    → LeavesPackets status replay behind given → Ends replay behind status
leaves_in_front ReadFault replay behind given front within reads holds l = (
  begins replay,
  record { stream = l; notes = within },
  reads.failed refl,
)
leaves_in_front NoMemory replay behind given front within reads holds l =
    whole_further (meaning_of replay given) (means replay) (run_of replay behind) refl front l.1
leaves_in_front TooLong replay behind given front within reads holds l =
    (begins replay, inl l, reads.long refl)
leaves_in_front WriteFault replay behind given front within reads holds l = (
  record { stream = l.0; notes = within },
  short_further (meaning_of replay given) (means replay) (run_of replay behind) refl front l.1,
  holds,
)
leaves_in_front KeepFault replay behind given front within reads holds l = inr (
  record { stream = l.0; notes = within },
  lost_further (meaning_of replay given) (means replay) (run_of replay behind) refl front l.1,
  holds,
)
leaves_in_front Done replay behind given front within reads holds l = absurd l
leaves_in_front Usage replay behind given front within reads holds l = absurd l
leaves_in_front (BadRecord line) replay behind given front within reads holds l = absurd l
leaves_in_front OpenFault replay behind given front within reads holds l = absurd l
leaves_in_front (BadArea size) replay behind given front within reads holds l = absurd l

pub ends_in_item : ReceiverLaws → (status : Status) (replay : Replay) (behind : Outside)
    (items : List RecordItem)
    → IsReader replay.read → IsFront items (items_before_bad replay.notes)
    → RecordWithin replay behind → FaultyReads status replay behind → Holds replay behind
    → StopsIn status replay behind (inputs_of (packets_of replay.stream) items)
    → Ends replay behind status
ends_in_item laws status replay behind items right front within reads holds s =
    leaves_in_front status replay behind s.given
    (front_of_stop laws status replay behind items right front s) within reads holds s.leaves

-- ---- the record stops the replay

-- the moment tells what the outside tells behind the run
pub record IsTold (now : Moment) (behind : Outside) : Type 0 where
  pub left : now.left ≡ behind.world.stream.left
  pub outlets : now.outlets ≡ outlets_of behind

-- the stream gave no more than it may
pub between_within : (replay : Replay) (now : Moment) (items : List RecordItem) (limit : ℕ)
    → now.bytes ≤ limit → IsBetween replay now items
    → GaveAtMost limit (file replay.stream now.left)
between_within replay now items limit within b =
    midway_within replay now _ _ limit within b

-- what was put out, as it is told behind the run
put_told : (replay : Replay) (now : Moment) (behind : Outside) (given : List Piece)
    → IsTold now behind → HasPut replay.area replay.before now.kept now.outlets given
    → HasPut replay.area replay.before now.kept (outlets_of behind) given
put_told replay now behind given told put =
    subst (λ o. HasPut replay.area replay.before now.kept o given) told.outlets put

-- a bad line behind these items
ends_bad : ReceiverLaws → (line : ℕ) (replay : Replay) (now : Moment) (behind : Outside)
    (items : List RecordItem)
    → IsReader replay.read → IsBadBehind line (file replay.notes behind.world.notes.left) items
    → IsTold now behind → StreamWithin replay behind → Holds replay behind
    → IsIdle now.receiver → IsBetween replay now items
    → Ends replay behind (BadRecord line)
unfolding replay_pieces
ends_bad laws line replay now behind items right bad told within holds idle b =
    let packets = packets_of replay.stream in
    let inputs = inputs_of packets items in
    let all = replay_inputs replay.stream replay.notes in
    let prints : List Input → List Piece =
    λ l. outputs replay.read replay.selection replay.area l in
    let pieces : b.given ≡ (means replay).pieces =
    sym (ap (λ n. prints all
    ++ last_pieces n (end_piece replay.read replay.selection replay.area all)) bad.number
    ∙ append-nil (prints all)
    ∙ ap (λ l. prints (inputs_of packets l)) bad.items_are
    ∙ sym (laws.all replay.read replay.selection replay.area now.receiver inputs b.given
    (b.stands right) idle)) in
    let put : HasPut replay.area replay.before now.kept (outlets_of behind) (means replay).pieces =
    subst (λ (l : List Piece). HasPut replay.area replay.before now.kept (outlets_of behind) l)
    pieces (put_told replay now behind b.given told b.put) in (
      record {
        same = ap status_behind bad.number;
        within = record { stream = within; notes = bad.within };
        written = put.wrote;
        kept = put.keeps;
      },
      holds,
    )

pub ends_in_items : ReceiverLaws → (status : Status) (replay : Replay) (now : Moment)
    (behind : Outside) (items : List RecordItem)
    → IsReader replay.read → IsTold now behind
    → StreamWithin replay behind → FaultyReads status replay behind → Holds replay behind
    → IsIdle now.receiver → IsBetween replay now items
    → LeavesItems status (file replay.notes behind.world.notes.left) items
    → Ends replay behind status
ends_in_items laws ReadFault replay now behind items right told within reads holds idle b l = (
  begins replay,
  record { stream = within; notes = l },
  reads.failed refl,
)
ends_in_items laws TooLong replay now behind items right told within reads holds idle b l =
    (begins replay, inr l, reads.long refl)
ends_in_items laws (BadRecord line) replay now behind items right told within reads holds idle b l =
    ends_bad laws line replay now behind items right l told within holds idle b
ends_in_items laws Done replay now behind items right told within reads holds idle b l = absurd l
ends_in_items laws Usage replay now behind items right told within reads holds idle b l = absurd l
ends_in_items laws OpenFault replay now behind items right told within reads holds idle b l = absurd l
ends_in_items laws WriteFault replay now behind items right told within reads holds idle b l = absurd l
ends_in_items laws KeepFault replay now behind items right told within reads holds idle b l = absurd l
ends_in_items laws (BadArea size) replay now behind items right told within reads holds idle b l =
    absurd l
ends_in_items laws NoMemory replay now behind items right told within reads holds idle b l = absurd l

-- ---- the last line

-- the piece of the last line
abbrev end_of : Moment → Piece
end_of now = record { text = end_line now.packets; area = now.kept }

same_piece : (text area : List ℕ) (other : Piece) → other.text ≡ text → other.area ≡ area
    → other ≡ record { text = text; area = area }
same_piece text area other texts areas =
    ap₂ (λ t a. let piece : Piece = record { text = t; area = a } in piece) texts areas

-- the pieces of a record of good lines
all_pieces : ReceiverLaws → (replay : Replay) (now : Moment) (left : Option (List ℕ))
    (items : List RecordItem)
    → IsReader replay.read → IsWhole (file replay.notes left) items → IsIdle now.receiver
    → now.kept ≡ now.receiver.area
    → (b : IsBetween replay now items) → b.given ++ end_of now ∷ [] ≡ (means replay).pieces
unfolding replay_pieces
all_pieces laws replay now left items right whole idle same b =
    let good = items_of_whole replay.notes left items whole in
    let packets = packets_of replay.stream in
    let inputs = inputs_of packets items in
    let prints : List Input → List Piece =
    λ l. outputs replay.read replay.selection replay.area l in
    let last : List Input → Piece =
    λ l. end_piece replay.read replay.selection replay.area l in
    let all = replay_inputs replay.stream replay.notes in
    let stands = b.stands right in
    let end : last inputs ≡ end_of now =
    same_piece (end_line now.packets) now.kept (last inputs)
    (ap end_line (sym b.packets))
    (idle_area replay.read replay.selection replay.area now.receiver inputs b.given stands idle
    ∙ sym same) in
    sym (ap (λ n. prints all ++ last_pieces n (last all)) good.0
    ∙ ap (λ l. prints (inputs_of packets l) ++ last (inputs_of packets l) ∷ []) good.1
    ∙ ap₂ (λ (l : List Piece) (p : Piece). l ++ p ∷ [])
    (sym (laws.all replay.read replay.selection replay.area now.receiver inputs b.given stands idle))
    end)

-- nothing is stored for it
line_keeps : (now : Moment) (keeper : KeeperState) → keeper ≡ now.outlets.keeper
    → KeepsOn now.outlets.keeper keeper (change now.kept now.kept)
line_keeps now keeper same =
    let P : KeeperState → Type 0 =
    λ k. KeepsOn now.outlets.keeper k (change now.kept now.kept) in
    subst P (sym same) (keeps_none now.outlets.keeper now.kept now.kept refl)

-- it was written
ends_done : ReceiverLaws → (replay : Replay) (now : Moment) (behind : Outside)
    (items : List RecordItem)
    → IsReader replay.read → IsWhole (file replay.notes behind.world.notes.left) items
    → StreamWithin replay behind → Holds replay behind
    → WritesOn now.outlets.sink.written behind.sink.written (end_line now.packets)
    → behind.keeper ≡ now.outlets.keeper
    → IsIdle now.receiver → now.kept ≡ now.receiver.area → IsBetween replay now items
    → Ends replay behind Done
ends_done laws replay now behind items right whole within holds wrote same idle area b =
    let puts : PutsPiece now.kept (end_of now) now.outlets (outlets_of behind) =
    record { keeps = line_keeps now behind.keeper same; writes = wrote } in
    let put : HasPut replay.area replay.before now.kept (outlets_of behind) (means replay).pieces =
    subst (λ (l : List Piece). HasPut replay.area replay.before now.kept (outlets_of behind) l)
    (all_pieces laws replay now _ items right whole idle area b)
    (put_more replay.area replay.before now.kept now.outlets (outlets_of behind) b.given
    (end_of now) b.put puts) in (
      record {
        same = ap status_behind (items_of_whole replay.notes _ items whole).0;
        within = record { stream = within; notes = whole.within };
        written = put.wrote;
        kept = put.keeps;
      },
      holds,
    )

-- it wasn't
ends_in_line : ReceiverLaws → (status : Status) (replay : Replay) (now : Moment)
    (behind : Outside) (items : List RecordItem)
    → IsReader replay.read → IsWhole (file replay.notes behind.world.notes.left) items
    → StreamWithin replay behind → Holds replay behind
    → StopsLine status now.outlets.sink.written behind.sink.written (end_line now.packets)
    → behind.keeper ≡ now.outlets.keeper
    → IsIdle now.receiver → now.kept ≡ now.receiver.area → IsBetween replay now items
    → Ends replay behind status
ends_in_line laws WriteFault replay now behind items right whole within holds short same idle area b =
    let cuts : CutsPiece now.kept (end_of now) now.outlets (outlets_of behind) =
    record { keeps = line_keeps now behind.keeper same; short = short } in
    let all : IsFront (b.given ++ end_of now ∷ []) (means replay).pieces =
    subst (λ (l : List Piece). IsFront (b.given ++ end_of now ∷ []) l)
    (all_pieces laws replay now _ items right whole idle area b)
    (front_of_self (b.given ++ end_of now ∷ [])) in (
      record { stream = within; notes = whole.within },
      put_short (means replay) (run_of replay behind) now.kept now.outlets b.given (end_of now)
          b.put cuts all,
      holds,
    )
ends_in_line laws NoMemory replay now behind items right whole within holds kept same idle area b =
    let all : IsFront b.given (means replay).pieces =
    subst (λ (l : List Piece). IsFront b.given l)
    (all_pieces laws replay now _ items right whole idle area b)
    (front_of_append b.given (end_of now ∷ [])) in
    let put = b.put in
    put_whole (means replay) (run_of replay behind) now.kept b.given (record {
      wrote = subst (λ o. Appends replay.before.sink.written o (bytes_of b.given)) (sym kept)
          put.wrote;
      kept_is = put.kept_is;
      keeps = subst (λ k. Keeps replay.before.keeper k (stores replay.area b.given)) (sym same)
          put.keeps;
    }) all
ends_in_line laws Done replay now behind items right whole within holds s same idle area b = absurd s
ends_in_line laws Usage replay now behind items right whole within holds s same idle area b = absurd s
ends_in_line laws (BadRecord line) replay now behind items right whole within holds s same idle area b =
    absurd s
ends_in_line laws OpenFault replay now behind items right whole within holds s same idle area b =
    absurd s
ends_in_line laws ReadFault replay now behind items right whole within holds s same idle area b =
    absurd s
ends_in_line laws KeepFault replay now behind items right whole within holds s same idle area b =
    absurd s
ends_in_line laws (BadArea size) replay now behind items right whole within holds s same idle area b =
    absurd s
ends_in_line laws TooLong replay now behind items right whole within holds s same idle area b = absurd s

-- the answer of writing the last line
pub ends_with_line : ReceiverLaws → (result : Result (Unit {0}) Status) (packets : ℕ)
    (replay : Replay) (now : Moment) (behind : Outside) (items : List RecordItem)
    → IsReader replay.read → packets ≡ now.packets
    → OnOk result (WritesOn now.outlets.sink.written behind.sink.written (end_line packets))
    → IfErr result (λ status. StopsLine status now.outlets.sink.written behind.sink.written
    (end_line packets))
    → IsWhole (file replay.notes behind.world.notes.left) items → StreamWithin replay behind
    → Holds replay behind → behind.keeper ≡ now.outlets.keeper
    → IsIdle now.receiver → now.kept ≡ now.receiver.area → IsBetween replay now items
    → Ends replay behind (outcome_of result)
ends_with_line laws (Ok u) packets replay now behind items right number wrote stops whole within
    holds same idle area b =
    ends_done laws replay now behind items right whole within holds
    (subst (λ n. WritesOn now.outlets.sink.written behind.sink.written (end_line n)) number wrote)
    same idle area b
ends_with_line laws (Err status) packets replay now behind items right number wrote stops whole
    within holds same idle area b =
    ends_in_line laws status replay now behind items right whole within holds
    (subst (λ n. StopsLine status now.outlets.sink.written behind.sink.written (end_line n)) number
    stops) same idle area b

-- ---- steps between items

-- the stream's port stays
pub between_same : (replay : Replay) (now : Moment) (left : Option (List ℕ))
    (items : List RecordItem)
    → left ≡ now.left → IsBetween replay now items
    → IsBetween replay (record now { left = left }) items
between_same replay now left items e b =
    subst (λ l. IsBetween replay (record now { left = l }) items) (sym e) b

-- or the record's
pub at_same : (notes : List ℕ) (now : RecordState) (left : Option (List ℕ))
    (items : List RecordItem)
    → left ≡ now.left → IsAt notes now items → IsAt notes (record now { left = left }) items
at_same notes now left items e a = subst (λ l. IsAt notes (record now { left = l }) items) (sym e) a

-- what is left at a port that stays
pub left_same : (old new : PortState) → new ≡ old → new.left ≡ old.left
left_same old new e = ap (λ (port : PortState). port.left) e

pub reads_none : (a : WorldState) → OnlyReadsBoth a a
reads_none a = record {
  files = refl;
  openings = refl;
  stream = read_on_none a.stream;
  notes = read_on_none a.notes;
}

pub reads_stream : (a b c : WorldState) → OnlyReadsBoth a b → OnlyReads Stream b c
    → OnlyReadsBoth a c
reads_stream a b c x y = record {
  files = y.files ∙ x.files;
  openings = y.openings ∙ x.openings;
  stream = read_on_more a.stream b.stream c.stream x.stream y.on;
  notes = subst (λ (p : PortState). IsReadOn a.notes p) (sym y.other) x.notes;
}

pub reads_notes : (a b c : WorldState) → OnlyReadsBoth a b → OnlyReads Notes b c → OnlyReadsBoth a c
reads_notes a b c x y = record {
  files = y.files ∙ x.files;
  openings = y.openings ∙ x.openings;
  stream = subst (λ (p : PortState). IsReadOn a.stream p) (sym y.other) x.stream;
  notes = read_on_more a.notes b.notes c.notes x.notes y.on;
}

-- ---- nothing was played

pub ends_unplayed : (replay : Replay) (behind : Outside) → HasBegun replay.before behind
    → Ends replay behind NoMemory
ends_unplayed replay behind begun =
    put_whole (means replay) (run_of replay behind) replay.area []
    (put_none replay.area replay.before behind replay.area begun refl)
    (record { rest = (means replay).pieces; joined = refl })
