-- What was given before a last read decides, over plain values.
use Rattle.std.proofs.Common.{◌≡◌, ◌≢◌, ℕ, ◌+◌, ◌≤◌, true, false, List, [], ◌∷◌, ◌++◌, length}
use Rattle.std.proofs.Common.{take, drop, refl, sym, ap, ap₂, ◌∙◌, subst, append_assoc, append-nil}
use Rattle.std.proofs.Common.{take-append-drop, length-drop, length-append, length-take-le, arith}
use Rattle.std.proofs.Common.{Bool, inl, inr}
use Rattle.std.specs.List.{filter_map}
use Rattle.std.proofs.lemmas.List.{take_at}
use Rattle.std.proofs.lemmas.List.Elements.{filter_map-append}
use Rattle.ts_packets.specs.Cutter.{IsWaiting}
use Rattle.ts_packets.specs.Packets.{packets_of}
use Rattle.es_reader.specs.Readers.{IsReader}
use Rattle.receiver_core.specs.Fronts.{IsFront}
use Rattle.receiver_core.specs.Outputs.{Input, Piece, outputs}
use Rattle.receiver_core.specs.Receiving.{IsIdle}
use Rattle.replay_run.specs.declared.record.Line.TheVariants.{Bad, Item as Read}
use Rattle.replay_run.specs.declared.record.RecordItem.{RecordItem}
use Rattle.replay_run.specs.declared.status.Status.{Status}
use Rattle.replay_run.specs.Ending.{ReadsNotes, ReadsStream}
use Rattle.replay_run.specs.Ending.{WritesDecided, end_told}
use Rattle.replay_run.specs.Files.{packet_length}
use Rattle.replay_run.specs.Given.{AreDecided, Given}
use Rattle.replay_run.specs.Meaning.{replay_inputs}
use Rattle.replay_run.specs.Midway.{IsReadForPacket, StopsInStream, TakeJust, TakesMore}
use Rattle.replay_run.specs.Needs.{EndsBehind, NeedsPacket}
use Rattle.replay_run.specs.Outside.{Outside}
use Rattle.replay_run.specs.Play.{inputs_of, packets_behind, packets_left}
use Rattle.replay_run.specs.Progress.{IsBetween, IsMidway, Moment, Replay}
use Rattle.replay_run.specs.Putting.{HasPut, outlets_of}
use Rattle.replay_run.specs.Record.{item_in, items_before_bad, lines_of}
use Rattle.replay_run.specs.RecordProgress.{IsAt, IsAtItem, IsReadForLine, RecordState}
use Rattle.replay_run.specs.RecordProgress.{StopsInRecord}
use Rattle.replay_run.specs.RecordReader.{IsUnfinished}
use Rattle.replay_run.specs.Stopping.{run_of}
use Rattle.replay_run.proofs.BlankLaws.{PacketLaws, blank_line, blank_packets, packet_comes, zeros}
use Rattle.replay_run.proofs.EndingLaws.{FaultyReads, IsTold, front_of_items, front_of_prints}
use Rattle.replay_run.proofs.EndingLaws.{means}
use Rattle.replay_run.proofs.OutputLaws.{ReceiverLaws, first_outputs}
use Rattle.replay_run.proofs.PlayLaws.{packets_left-push, with_packets}
use Rattle.replay_run.proofs.RecordLaws.{bad_items}
use Rattle.replay_run.proofs.RecordProgressLaws.{at_front, first_known}
use Rattle.replay_run.proofs.StoppingLaws.{consumed_some}
use Rattle.replay_run.proofs.TakenLaws.{handed_decided, handed_first, handed_over, just_taken}
use Rattle.replay_run.proofs.TakenLaws.{takes_next, took_first}

-- ---- pieces of a moment at which no turn is still to come

-- They are those of the inputs so far. What stands in front of these inputs prints pieces that are
-- among them.
writes_decided : ReceiverLaws → (replay : Replay) (now : Moment) (behind : Outside)
    (inputs : List Input) (ahead : List (List ℕ)) (given : Given)
    → IsReader replay.read → IsIdle now.receiver → now.outlets ≡ outlets_of behind
    → IsFront inputs (replay_inputs replay.stream replay.notes)
    → ((decided : List Input) → AreDecided given decided → IsFront decided inputs)
    → IsMidway replay now inputs ahead → WritesDecided (means replay) given (run_of replay behind)
writes_decided laws replay now behind inputs ahead given right idle told front decides m =
    let prints : List Input → List Piece =
    λ l. outputs replay.read replay.selection replay.area l in
    let all : m.given ≡ prints inputs =
    laws.all replay.read replay.selection replay.area now.receiver inputs m.given (m.stands right)
    idle in
    let put : HasPut replay.area replay.before now.kept (outlets_of behind) m.given =
    subst (λ o. HasPut replay.area replay.before now.kept o m.given) told m.put in
    record {
      whole = m.given;
      front = subst (λ (l : List Piece). IsFront l (means replay).pieces) (sym all)
          (front_of_prints laws replay inputs front);
      decided = λ some are. subst (λ (l : List Piece). IsFront (prints some) l) (sym all)
          (first_outputs laws replay.read replay.selection replay.area some inputs
          (inl (decides some are)));
      written = put.wrote;
      kept = put.keeps;
    }

-- ---- a read for a packet

-- packets that were cut, those of the items before, and those of the item that takes more
record Split (done : List (List ℕ)) (first second : ℕ) : Type 0 where
  before : List (List ℕ)
  some : List (List ℕ)
  done_is : done ≡ before ++ some
  first_is : first ≡ length before
  second_is : second ≡ length some

split_done : (done : List (List ℕ)) (first second : ℕ) → length done ≡ first + second
    → Split done first second
split_done done first second all =
    let fits : first ≤ length done = omega (arith, all) in
    record {
      before = take first done;
      some = drop first done;
      done_is = sym (take-append-drop first done);
      first_is = sym (length-take-le first done fits);
      second_is = omega (arith, all, length-drop first done);
    }

-- what is known where an item needs a packet
record AtPacket (replay : Replay) (items : List RecordItem) (item : RecordItem) (now : Moment)
    (inputs : List Input) (ahead : List (List ℕ)) (notes : RecordState) : Type 0 where
  m : IsMidway replay now inputs ahead
  n : IsAtItem replay.notes notes items item
  before : List (List ℕ)
  some : List (List ℕ)
  done_is : m.done ≡ before ++ some
  inputs_are : inputs ≡ handed_over items before some
  all : TakeJust items (length before)
  takes : TakesMore item (length some)

-- the packets of the whole stream
whole_packets : (replay : Replay) (now : Moment) (inputs : List Input) (ahead : List (List ℕ))
    → (m : IsMidway replay now inputs ahead)
    → packets_of replay.stream ≡ m.done ++ packets_of (now.cutter.held ++ m.rest)
whole_packets replay now inputs ahead m = ap packets_of m.whole ∙ m.cut m.rest m.ended

handed_inputs : (items : List RecordItem) (packets before some rest : List (List ℕ)) (count : ℕ)
    → packets ≡ (before ++ some) ++ rest → count ≡ length some → TakeJust items (length before)
    → with_packets (inputs_of packets items) count (packets_left packets items)
    ≡ handed_over items before some
handed_inputs items packets before some rest count same size all =
    let split : packets ≡ before ++ (some ++ rest) = same ∙ append_assoc before some rest in
    let taken = just_taken items before (some ++ rest) all in
    ap (λ l. with_packets (inputs_of l items) count (packets_left l items)) split
    ∙ ap₂ (λ l m. with_packets l count m) taken.0 taken.1
    ∙ ap (λ l. handed_over items before l) (take_at some rest count (sym size))

at_packet : (replay : Replay) (old : Moment) (items : List RecordItem) (item : RecordItem)
    (notes : RecordState) (behind : Outside) (last : List ℕ)
    → (r : IsReadForPacket item old behind last) → IsBetween replay old items
    → (old.cutter.ended ≡ false → TakeJust items old.packets)
    → IsAtItem replay.notes notes items item
    → AtPacket replay items item r.now
    (with_packets (inputs_of (packets_of replay.stream) items) r.count
    (packets_left (packets_of replay.stream) items))
    (drop r.count (packets_left (packets_of replay.stream) items)) notes
at_packet replay old items item notes behind last r b just n =
    let m = r.goes replay _ _ b in
    let s = split_done m.done old.packets r.count (m.number ∙ r.packets) in
    let all : TakeJust items (length s.before) =
    subst (TakeJust items) s.first_is (just r.was_open) in
    let whole : packets_of replay.stream
    ≡ (s.before ++ s.some) ++ packets_of (r.now.cutter.held ++ m.rest) =
    whole_packets replay r.now _ _ m
    ∙ ap (λ l. l ++ packets_of (r.now.cutter.held ++ m.rest)) s.done_is in
    record {
      m = m;
      n = n;
      before = s.before;
      some = s.some;
      done_is = s.done_is;
      inputs_are = handed_inputs items (packets_of replay.stream) s.before s.some
          (packets_of (r.now.cutter.held ++ m.rest)) r.count whole s.second_is all;
      all = all;
      takes = subst (TakesMore item) s.second_is r.takes;
    }

-- what was given of the two files
abbrev given_of : List ℕ → Bool → List ℕ → Bool → Given
given_of stream ended notes over = record {
  stream = record { bytes = stream; ended = ended };
  notes = record { bytes = notes; ended = over };
}

-- the inputs so far stand in front of all
at_packet_front : (replay : Replay) (items : List RecordItem) (item : RecordItem) (now : Moment)
    (inputs : List Input) (ahead : List (List ℕ)) (notes : RecordState)
    → AtPacket replay items item now inputs ahead notes
    → IsFront inputs (replay_inputs replay.stream replay.notes)
at_packet_front replay items item now inputs ahead notes p =
    let front = at_front replay.notes notes (items ++ item ∷ []) p.n.at in
    let rest = packets_of (now.cutter.held ++ p.m.rest) in
    let packets : (p.before ++ p.some) ++ rest ≡ packets_of replay.stream =
    ap (λ l. l ++ rest) (sym p.done_is) ∙ sym (whole_packets replay now inputs ahead p.m) in
    subst (λ (l : List Input). IsFront l (replay_inputs replay.stream replay.notes))
    (sym p.inputs_are)
    (subst (λ (l : List Input). IsFront (handed_over items p.before p.some) l)
    (ap₂ inputs_of packets (sym front.joined))
    (handed_first items front.rest item p.before p.some rest p.all p.takes))

-- and what is decided is among them
at_packet_decides : PacketLaws → (replay : Replay) (items : List RecordItem) (item : RecordItem)
    (now : Moment) (inputs : List Input) (ahead : List (List ℕ)) (notes : RecordState)
    → IsWaiting now.cutter
    → (p : AtPacket replay items item now inputs ahead notes)
    → (decided : List Input)
    → AreDecided (given_of p.m.taken now.cutter.ended p.n.at.taken notes.reader.ended) decided
    → IsFront decided inputs
at_packet_decides laws replay items item now inputs ahead notes waiting p decided are =
    let front = at_front replay.notes notes (items ++ item ∷ []) p.n.at in
    let held = now.cutter.held in
    let follows : (more : List ℕ) → now.cutter.ended ≡ true → more ≡ [] =
    λ more e. let clash : true ≡ false = sym e ∙ waiting.open_end in cc in
    let record_is : items_before_bad (p.n.at.taken ++ p.n.at.rest)
    ≡ (items ++ item ∷ []) ++ front.rest =
    ap items_before_bad (sym p.n.at.whole) ∙ front.joined in
    let comes = packet_comes laws held in
    let without : packets_of (p.m.taken ++ zeros 188) ≡ (p.before ++ p.some) ++ [] =
    p.m.cut (zeros 188) (follows (zeros 188))
    ∙ ap₂ (λ l m. l ++ m) p.done_is (blank_packets laws now.cutter waiting) in
    let with_one : packets_of (p.m.taken ++ 71 ∷ zeros 187)
    ≡ (p.before ++ p.some) ++ comes.0 ∷ comes.1 =
    p.m.cut (71 ∷ zeros 187) (follows (71 ∷ zeros 187))
    ∙ ap₂ (λ l m. l ++ m) p.done_is comes.2 in
    subst (λ (l : List Input). IsFront decided l) (sym p.inputs_are)
    (handed_decided decided items front.rest item p.before p.some comes.0 comes.1 p.all p.takes
    (subst (λ (l : List Input). IsFront decided l) (ap₂ inputs_of without record_is)
    (are (zeros 188) p.n.at.rest (follows (zeros 188)) p.n.at.ended))
    (subst (λ (l : List Input). IsFront decided l) (ap₂ inputs_of with_one record_is)
    (are (71 ∷ zeros 187) p.n.at.rest (follows (71 ∷ zeros 187)) p.n.at.ended)))

not_nil : (packets : List (List ℕ)) (next : List ℕ) → packets ++ next ∷ [] ≢ []
not_nil packets next e =
    omega (arith, length-append packets (next ∷ []), ap length e)

-- what the read was for
needs_packet : (replay : Replay) (items : List RecordItem) (item : RecordItem) (now : Moment)
    (inputs : List Input) (ahead : List (List ℕ)) (notes : RecordState)
    → IsWaiting now.cutter → length now.cutter.held ≤ packet_length
    → (p : AtPacket replay items item now inputs ahead notes)
    → NeedsPacket (given_of p.m.taken now.cutter.ended p.n.at.taken notes.reader.ended)
needs_packet replay items item now inputs ahead notes waiting short p =
    let left : (next : List ℕ) → packets_left (p.m.done ++ next ∷ []) items ≡ p.some ++ next ∷ [] =
    λ next. ap (λ l. packets_left (l ++ next ∷ []) items) p.done_is
    ∙ ap (λ l. packets_left l items) (append_assoc p.before p.some (next ∷ []))
    ∙ (just_taken items p.before (p.some ++ next ∷ []) p.all).1 in
    let all : filter_map item_in (p.n.earlier ++ Read item ∷ []) ≡ items ++ item ∷ [] =
    filter_map-append item_in p.n.earlier (Read item ∷ [])
    ∙ ap (λ l. l ++ item ∷ []) p.n.items_are in
    record {
      earlier = p.n.earlier;
      item = item;
      ahead = notes.reader.held;
      packets = p.m.done;
      waiting = now.cutter.held;
      read = record {
        before = p.n.at.before;
        bytes_are = p.n.at.taken_is;
        lines_are = λ more may. p.n.at.ahead more may
            ∙ ap (λ l. l ++ lines_of (notes.reader.held ++ more)) p.n.lines_are;
      };
      cut = record {
        before = p.m.before ++ p.m.skipped;
        bytes_are = p.m.taken_is;
        packets_are = λ more may. p.m.cut more may;
      };
      good = p.n.good;
      few = p.n.at.few;
      none = record {
        open_end = waiting.open_end;
        none = λ place certain. waiting.none place
            (record { sync = certain.sync; behind = certain.behind });
      };
      short = short;
      wants = λ next. ap (packets_left (p.m.done ++ next ∷ [])) all
          ∙ packets_left-push (p.m.done ++ next ∷ []) items item
          ∙ ap (packets_behind item) (left next) ∙ takes_next item p.some next p.takes;
      leave = λ next e. not_nil p.some next
          (sym (left next) ∙ ap (packets_left (p.m.done ++ next ∷ [])) (sym p.n.items_are) ∙ e);
    }

-- the read of the stream ended the run
pub record EndsInStream (replay : Replay) (behind : Outside) (now : Moment) (last : List ℕ)
    : Type 0 where
  pub given : Given
  pub reads : ReadsStream (run_of replay behind) given last
  pub writes : WritesDecided (means replay) given (run_of replay behind)
  pub size : now.bytes ≡ length given.stream.bytes

pub ends_in_stream : ReceiverLaws → PacketLaws → (replay : Replay) (old : Moment) (behind : Outside)
    (items : List RecordItem) (item : RecordItem) (notes : RecordState) (last : List ℕ)
    → IsReader replay.read → (r : IsReadForPacket item old behind last)
    → IsBetween replay old items → (old.cutter.ended ≡ false → TakeJust items old.packets)
    → IsAtItem replay.notes notes items item → notes.left ≡ behind.world.notes.left
    → end_told behind.world.notes ≡ notes.reader.ended
    → EndsInStream replay behind r.now last
ends_in_stream laws packets replay old behind items item notes last right r b just n left told =
    let p = at_packet replay old items item notes behind last r b just n in
    let given = given_of p.m.taken r.now.cutter.ended p.n.at.taken notes.reader.ended in
    let split = consumed_some last r.now.left behind.world.stream.left r.consumed p.m.rest
    p.m.left_is in
    record {
      given = given;
      reads = record {
        needs = needs_packet replay items item r.now _ _ notes r.waiting r.short p;
        stream = record {
          rest = split.0;
          left_is = split.1;
          whole = p.m.whole ∙ ap (λ l. p.m.taken ++ l) split.2;
        };
        notes = record {
          rest = p.n.at.rest;
          left_is = sym left ∙ p.n.at.left_is;
          whole = p.n.at.whole;
        };
        notes_end = sym told;
        most = r.most;
      };
      writes = writes_decided laws replay r.now behind _ _ given right r.idle r.outlets_are
          (at_packet_front replay items item r.now _ _ notes p)
          (at_packet_decides packets replay items item r.now _ _ notes r.waiting p) p.m;
      size = p.m.counted;
    }

pub faulty_stream : ReceiverLaws → PacketLaws → (status : Status) (replay : Replay) (old : Moment)
    (behind : Outside) (items : List RecordItem) (item : RecordItem) (notes : RecordState)
    → IsReader replay.read → StopsInStream status item old behind
    → IsBetween replay old items → (old.cutter.ended ≡ false → TakeJust items old.packets)
    → IsAtItem replay.notes notes items item → notes.left ≡ behind.world.notes.left
    → end_told behind.world.notes ≡ notes.reader.ended
    → FaultyReads status replay behind
faulty_stream laws packets status replay old behind items item notes right s b just n left told =
    record {
      failed = λ e.
          let f = s.failed e in
          let ends = ends_in_stream laws packets replay old behind items item notes [] right f.0 b
          just n left told in
          record { given = ends.given; read = inl (ends.reads, f.1); writes = ends.writes };
      long = λ e.
          let f = s.long e in
          let ends = ends_in_stream laws packets replay old behind items item notes f.0 right f.1 b
          just n left told in
          record {
            given = ends.given;
            last = f.0;
            read = inl (
              ends.reads,
              record {
                before = omega (arith, f.1.within, ends.size);
                behind = omega (arith, f.2, ends.size, length-append ends.given.stream.bytes f.0);
              },
            );
            writes = ends.writes;
          };
    }

-- ---- a read for a line

-- the record read of the run ended it
pub record EndsInRecord (replay : Replay) (behind : Outside) (now : RecordState) (last : List ℕ)
    : Type 0 where
  pub given : Given
  pub reads : ReadsNotes (run_of replay behind) given last
  pub writes : WritesDecided (means replay) given (run_of replay behind)
  pub size : now.bytes ≡ length given.notes.bytes

-- what is decided is among what the items read so far hand over
at_line_decides : (replay : Replay) (items : List RecordItem) (now : Moment)
    (inputs : List Input) (ahead : List (List ℕ)) (notes : RecordState)
    → IsUnfinished notes.reader
    → inputs ≡ inputs_of (packets_of replay.stream) items
    → (m : IsMidway replay now inputs ahead) → (a : IsAt replay.notes notes items)
    → (decided : List Input)
    → AreDecided (given_of m.taken now.cutter.ended a.taken notes.reader.ended) decided
    → IsFront decided inputs
at_line_decides replay items now inputs ahead notes unfinished same m a decided are =
    let follows : notes.reader.ended ≡ true → zeros 130 ≡ [] =
    λ e. let clash : true ≡ false = sym e ∙ unfinished.open_end in cc in
    let bad = first_known (lines_of (notes.reader.held ++ zeros 130)) Bad
    (blank_line notes.reader unfinished) in
    let lines : lines_of (a.taken ++ zeros 130) ≡ a.lines ++ Bad ∷ bad.0 =
    a.ahead (zeros 130) follows ∙ ap (λ l. a.lines ++ l) bad.1 in
    let read : items_before_bad (a.taken ++ zeros 130) ≡ items =
    bad_items (a.taken ++ zeros 130) a.lines bad.0 lines (record { each = a.good })
    ∙ a.items_are in
    subst (λ (l : List Input). IsFront decided l) (sym same)
    (subst (λ (l : List Input). IsFront decided l)
    (ap₂ (λ l m. inputs_of (packets_of l) m) (sym m.whole) read)
    (are m.rest (zeros 130) m.ended follows))

pub ends_in_record : ReceiverLaws → (replay : Replay) (now : Moment) (behind : Outside)
    (items : List RecordItem) (old : RecordState) (last : List ℕ)
    → IsReader replay.read → (r : IsReadForLine old behind.world.notes last)
    → IsBetween replay now items → IsTold now behind → IsIdle now.receiver
    → (now.cutter.ended ≡ false → TakeJust items now.packets) → now.loose ≡ false
    → IsAt replay.notes old items → end_told behind.world.stream ≡ now.cutter.ended
    → EndsInRecord replay behind r.now last
ends_in_record laws replay now behind items old last right r b outside_is idle just tight at told =
    let a = r.goes replay.notes items at in
    let given = given_of b.taken now.cutter.ended a.taken r.now.reader.ended in
    let split = consumed_some last r.now.left behind.world.notes.left r.consumed a.rest
    a.left_is in
    let took : packets_left b.done items ≡ [] =
    took_first items b.done (packets_of (now.cutter.held ++ b.rest))
    (ap (λ l. packets_left l items) (sym (whole_packets replay now _ _ b)) ∙ sym b.ahead_is) in
    record {
      given = given;
      reads = record {
        needs = record {
          lines = a.lines;
          ahead = r.now.reader.held;
          packets = b.done;
          waiting = now.cutter.held;
          read = record {
            before = a.before;
            bytes_are = a.taken_is;
            lines_are = λ more may. a.ahead more may;
          };
          cut = record {
            before = b.before ++ b.skipped;
            bytes_are = b.taken_is;
            packets_are = λ more may. b.cut more may;
          };
          good = a.good;
          open_end = r.unfinished.open_end;
          unended = r.unfinished.no_line_feed;
          short = r.unfinished.short;
          few = b.few;
          took = ap (packets_left b.done) a.items_are ∙ took;
          close = λ open_end.
              subst (λ l. EndsBehind l b.done)
              (sym (append-nil b.before)
              ∙ ap (λ l. b.before ++ l) (sym (b.close tight open_end)))
              b.behind;
          leave = λ open_end next.
              ap (packets_left (b.done ++ next ∷ [])) a.items_are
              ∙ (just_taken items b.done (next ∷ [])
              (subst (TakeJust items) (sym b.number) (just open_end))).1;
        };
        notes = record {
          rest = split.0;
          left_is = split.1;
          whole = a.whole ∙ ap (λ l. a.taken ++ l) split.2;
        };
        stream = record {
          rest = b.rest;
          left_is = sym outside_is.left ∙ b.left_is;
          whole = b.whole;
        };
        stream_end = sym told;
        most = r.most;
      };
      writes = writes_decided laws replay now behind _ _ given right idle outside_is.outlets
          (front_of_items replay.stream replay.notes items
          (at_front replay.notes r.now items a))
          (at_line_decides replay items now _ _ r.now r.unfinished refl b a) b;
      size = a.counted;
    }

pub faulty_record : ReceiverLaws → (status : Status) (replay : Replay) (now : Moment)
    (behind : Outside) (items : List RecordItem) (old : RecordState)
    → IsReader replay.read → StopsInRecord status old behind.world.notes
    → IsBetween replay now items → IsTold now behind → IsIdle now.receiver
    → (now.cutter.ended ≡ false → TakeJust items now.packets) → now.loose ≡ false
    → IsAt replay.notes old items → end_told behind.world.stream ≡ now.cutter.ended
    → FaultyReads status replay behind
faulty_record laws status replay now behind items old right s b outside_is idle just tight at told =
    record {
      failed = λ e.
          let f = s.failed e in
          let ends = ends_in_record laws replay now behind items old [] right f.0 b outside_is idle
          just tight at told in
          record { given = ends.given; read = inr (ends.reads, f.1); writes = ends.writes };
      long = λ e.
          let f = s.long e in
          let ends = ends_in_record laws replay now behind items old f.0 right f.1 b outside_is idle
          just tight at told in
          record {
            given = ends.given;
            last = f.0;
            read = inr (
              ends.reads,
              record {
                before = omega (arith, f.1.within, ends.size);
                behind = omega (arith, f.2, ends.size, length-append ends.given.notes.bytes f.0);
              },
            );
            writes = ends.writes;
          };
    }
