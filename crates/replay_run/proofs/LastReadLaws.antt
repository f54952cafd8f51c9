-- A run holds nothing back behind its last read, over plain values.
use Rattle.std.proofs.Common.{◌≡◌, ◌⊎◌, ℕ, List, [], ◌++◌, ap, sym, ◌∙◌, subst, append_assoc, refl}
use Rattle.std.proofs.Common.{Option, Some, None, false, inl, inr}
use Rattle.std.specs.Io.KnownBytes.{Appends}
use Rattle.bml_ports.specs.Worlds.{WorldState}
use Rattle.es_reader.specs.Readers.{IsReader}
use Rattle.receiver_core.specs.Outputs.{Input}
use Rattle.receiver_core.specs.Receiving.{IsIdle}
use Rattle.replay_run.specs.declared.record.RecordItem.{RecordItem}
use Rattle.replay_run.specs.Ending.{GaveThen, ReadsNotes, ReadsStream}
use Rattle.replay_run.specs.Ending.{WritesDecided, WritesFirst, WritesIn, end_told}
use Rattle.replay_run.specs.Files.{file}
use Rattle.replay_run.specs.Given.{AreDecided, Given}
use Rattle.replay_run.specs.Meaning.{Meaning}
use Rattle.replay_run.specs.Midway.{TakeJust, WasReadForPacket}
use Rattle.replay_run.specs.Output.{bytes_of}
use Rattle.replay_run.specs.Outside.{Account, Outside}
use Rattle.replay_run.specs.Progress.{IsBetween, Moment, Replay}
use Rattle.replay_run.specs.Putting.{IsLater, outlets_of}
use Rattle.replay_run.specs.RecordProgress.{IsAt, IsAtItem, IsFresh, RecordState, WasReadForLine}
use Rattle.replay_run.specs.RecordReader.{ReaderState}
use Rattle.replay_run.specs.Stopping.{run_of}
use Rattle.replay_run.specs.Writing.{Grows}
use Rattle.replay_run.proofs.BlankLaws.{PacketLaws}
use Rattle.replay_run.proofs.DecidingLaws.{ends_in_record, ends_in_stream}
use Rattle.replay_run.proofs.EndingLaws.{Holds, IsTold, means}
use Rattle.replay_run.proofs.OutputLaws.{ReceiverLaws}
use Rattle.replay_run.proofs.WritingLaws.{bytes-append}

-- ---- what was written

-- bytes at the front of those written stay there
appended_first : (before mid new : Option (List ℕ)) (bytes more : List ℕ)
    → Appends before mid (bytes ++ more) → Grows mid new
    → (others : List ℕ) × Appends before new (bytes ++ others)
appended_first None mid new bytes more a grows = ([], tt)
appended_first (Some x) None new bytes more a grows = absurd a
appended_first (Some x) (Some y) new bytes more a grows =
    let next = grows y refl in
    let all : y ++ next.0 ≡ x ++ (bytes ++ (more ++ next.0)) =
    ap (λ l. l ++ next.0) a ∙ append_assoc x (bytes ++ more) next.0
    ∙ ap (λ l. x ++ l) (append_assoc bytes more next.0) in
    let P : Option (List ℕ) → Type 0 =
    λ o. Appends (Some x) o (bytes ++ (more ++ next.0)) in
    (more ++ next.0, subst P (sym next.1) all)

writes_further : (replay : Replay) (one other : Outside) (bytes : List ℕ)
    → IsLater (outlets_of one) (outlets_of other)
    → WritesFirst (run_of replay one) bytes → WritesFirst (run_of replay other) bytes
writes_further replay one other bytes later w =
    let first = appended_first replay.before.sink.written one.sink.written other.sink.written bytes
    w.more w.written later.written in
    record { more = first.0; written = first.1 }

-- the text of pieces that are decided
first_decided : (meaning : Meaning) (given : Given) (run : Account)
    → WritesDecided meaning given run → (inputs : List Input) → AreDecided given inputs
    → WritesFirst run (bytes_of (meaning.pieces_for inputs))
first_decided meaning given run w inputs are =
    let front = w.decided inputs are in
    record {
      more = bytes_of front.rest;
      written = subst (λ (l : List ℕ). WritesIn run l)
          (ap bytes_of front.joined ∙ bytes-append (meaning.pieces_for inputs) front.rest)
          w.written;
    }

-- ---- the last read stays the last one

read_same : (replay : Replay) (one other : Outside) (given : Given) (last : List ℕ)
    → other.world ≡ one.world
    → ReadsStream (run_of replay one) given last ⊎ ReadsNotes (run_of replay one) given last
    → ReadsStream (run_of replay other) given last ⊎ ReadsNotes (run_of replay other) given last
read_same replay one other given last same (inl r) = inl (record {
  needs = r.needs;
  stream = subst (λ (w : WorldState). GaveThen (file replay.stream w.stream.left) given.stream last)
      (sym same) r.stream;
  notes = subst (λ (w : WorldState). GaveThen (file replay.notes w.notes.left) given.notes [])
      (sym same) r.notes;
  notes_end = r.notes_end ∙ ap (λ (w : WorldState). end_told w.notes) (sym same);
  most = r.most;
})
read_same replay one other given last same (inr r) = inr (record {
  needs = r.needs;
  notes = subst (λ (w : WorldState). GaveThen (file replay.notes w.notes.left) given.notes last)
      (sym same) r.notes;
  stream = subst (λ (w : WorldState). GaveThen (file replay.stream w.stream.left) given.stream [])
      (sym same) r.stream;
  stream_end = r.stream_end ∙ ap (λ (w : WorldState). end_told w.stream) (sym same);
  most = r.most;
})

-- nothing more was read
pub holds_further : (replay : Replay) (one other : Outside)
    → other.world ≡ one.world → IsLater (outlets_of one) (outlets_of other)
    → Holds replay one → Holds replay other
holds_further replay one other same later h = record {
  given = h.given;
  last = h.last;
  read = read_same replay one other h.given h.last same h.read;
  decided = λ inputs are.
      writes_further replay one other (bytes_of ((means replay).pieces_for inputs)) later
      (h.decided inputs are);
}

-- ---- between two items

-- nothing was read so far, or nothing is held back
abbrev pub HoldsSoFar : Replay → ReaderState → Outside → Type 0
HoldsSoFar replay reader told = IsFresh reader ⊎ (IsReader replay.read → Holds replay told)

held_before : (replay : Replay) (reader : ReaderState) (told : Outside) → IsReader replay.read
    → ¬ (IsFresh reader) → HoldsSoFar replay reader told → Holds replay told
held_before replay reader told right came (inl fresh) = absurd (came fresh)
held_before replay reader told right came (inr holds) = holds right

-- behind a line of the record, or its end
pub holds_at_line : ReceiverLaws → (replay : Replay) (now : Moment) (before behind : Outside)
    (items : List RecordItem) (old : RecordState)
    → IsReader replay.read → WasReadForLine old before.world behind.world
    → IsBetween replay now items → IsTold now behind → IsIdle now.receiver
    → (now.cutter.ended ≡ false → TakeJust items now.packets) → now.loose ≡ false
    → IsAt replay.notes old items → end_told behind.world.stream ≡ now.cutter.ended
    → IsLater (outlets_of before) (outlets_of behind)
    → HoldsSoFar replay old.reader before → Holds replay behind
holds_at_line laws replay now before behind items old right (inl read) b outside_is idle just tight
    is_at told later so_far =
    let ends = ends_in_record laws replay now behind items old read.0 right read.1 b outside_is idle
    just tight is_at told in
    record {
      given = ends.given;
      last = read.0;
      read = inr ends.reads;
      decided = first_decided (means replay) ends.given (run_of replay behind) ends.writes;
    }
holds_at_line laws replay now before behind items old right (inr none) b outside_is idle just tight
    is_at told later so_far =
    holds_further replay before behind none.0 later
    (held_before replay old.reader before right none.1 so_far)

-- behind an item, or in the middle of it
pub holds_at_packet : ReceiverLaws → PacketLaws → (replay : Replay) (old : Moment)
    (before behind : Outside) (items : List RecordItem) (item : RecordItem) (notes : RecordState)
    → IsReader replay.read → WasReadForPacket item old before behind
    → IsBetween replay old items → (old.cutter.ended ≡ false → TakeJust items old.packets)
    → IsAtItem replay.notes notes items item → notes.left ≡ behind.world.notes.left
    → end_told behind.world.notes ≡ notes.reader.ended
    → IsLater (outlets_of before) (outlets_of behind)
    → Holds replay before → Holds replay behind
holds_at_packet laws packets replay old before behind items item notes right (inl read) b just n left
    told later holds =
    let told_then : Outside = read.1 in
    let ends = ends_in_stream laws packets replay old told_then items item notes read.0 right read.2 b just
    n (left ∙ ap (λ (w : WorldState). w.notes.left) read.3)
    (ap (λ (w : WorldState). end_told w.notes) (sym read.3) ∙ told) in
    holds_further replay told_then behind read.3 read.4 (record {
      given = ends.given;
      last = read.0;
      read = inl ends.reads;
      decided = first_decided (means replay) ends.given (run_of replay told_then) ends.writes;
    })
holds_at_packet laws packets replay old before behind items item notes right (inr none) b just n left
    told later holds =
    holds_further replay before behind none later holds
