-- Laws of pieces that are put out: their areas are stored, and their texts written.
use Rattle.std.proofs.Common.{◌≡◌, ◌≢◌, ◌⊎◌, ℕ, List, [], ◌∷◌, ◌++◌, sym, ap, ◌∙◌, subst, append-nil, arith}
use Rattle.std.proofs.Common.{inl, inr, refl}
use Rattle.std.specs.Io.KnownBytes.{Appends}
use Rattle.std.proofs.KnownBytes.{Appends-nil}
use Rattle.receiver_core.specs.Fronts.{IsFront, front_of_front}
use Rattle.receiver_core.specs.Outputs.{Piece}
use Rattle.replay_run.specs.Ending.{BreaksOff, FailsToStore, WritesWhole}
use Rattle.replay_run.specs.Kept.{CallsFor, HasKept, Keeps, area_after, stores}
use Rattle.replay_run.specs.Meaning.{Meaning}
use Rattle.replay_run.specs.Outside.{Account, Outside}
use Rattle.replay_run.specs.Output.{bytes_of}
use Rattle.replay_run.specs.declared.record.RecordItem.{RecordItem}
use Rattle.replay_run.specs.Midway.{WasReadForPacket}
use Rattle.replay_run.specs.Progress.{HasBegun, Moment}
use Rattle.replay_run.specs.Putting.{CutsPiece, HasPut, IsLater, KeepsOn, LosesPiece, Outlets}
use Rattle.replay_run.specs.Putting.{PutsPiece, change, outlets_of}
use Rattle.replay_run.proofs.KeptLaws.{area_after-push, fails_piece, keeps_piece, keeps_still}
use Rattle.replay_run.proofs.KeptLaws.{no_change}
use Rattle.replay_run.proofs.WritingLaws.{appends_more, bytes-append, grows_more, grows_none}

-- a replay began
pub put_none : (area : List ℕ) (before now : Outside) (kept : List ℕ) → HasBegun before now
    → kept ≡ area → HasPut area before kept (outlets_of now) []
put_none area before now kept begun same = record {
  wrote = subst (λ o. Appends before.sink.written o []) (sym begun.written)
      (Appends-nil before.sink.written);
  kept_is = same;
  keeps = begun.keeps;
}

-- one piece more was put out
pub put_more : (area : List ℕ) (before : Outside) (kept : List ℕ) (now after : Outlets)
    (given : List Piece) (piece : Piece)
    → HasPut area before kept now given → PutsPiece kept piece now after
    → HasPut area before piece.area after (given ++ piece ∷ [])
put_more area before kept now after given piece has puts =
    let bytes : bytes_of given ++ piece.text ≡ bytes_of (given ++ piece ∷ []) =
    ap (λ l. bytes_of given ++ l) (sym (append-nil piece.text))
    ∙ sym (bytes-append given (piece ∷ [])) in
    record {
      wrote = subst (λ l. Appends before.sink.written after.sink.written l) bytes
          (appends_more before.sink.written now.sink.written after.sink.written
          (bytes_of given) piece.text has.wrote puts.writes);
      kept_is = sym (area_after-push area given piece);
      keeps = keeps_piece before.keeper now.keeper after.keeper area kept given piece has.keeps
          has.kept_is puts.keeps;
    }

-- a call of the receiver that gave nothing changes nothing
pub put_nothing : (area : List ℕ) (before : Outside) (kept : List ℕ) (now after : Outlets)
    (given : List Piece) (piece : Piece)
    → piece.text ≡ [] → piece.area ≡ kept
    → HasPut area before kept now given → PutsPiece kept piece now after
    → HasPut area before piece.area after given
put_nothing area before kept now after given piece no_text same has puts =
    let none : change kept piece.area ≡ [] = no_change kept piece.area same in
    let P : List (List ℕ) → Type 0 = λ l. KeepsOn now.keeper after.keeper l in
    record {
      wrote = subst (λ l. Appends before.sink.written after.sink.written l)
          (ap (λ l. bytes_of given ++ l) no_text ∙ append-nil (bytes_of given))
          (appends_more before.sink.written now.sink.written after.sink.written
          (bytes_of given) piece.text has.wrote puts.writes);
      kept_is = same ∙ has.kept_is;
      keeps = keeps_still before.keeper now.keeper after.keeper (stores area given) has.keeps
          (subst P none puts.keeps);
    }

-- ---- counts of faults

pub later_none : (told : Outlets) → IsLater told told
later_none told = record {
  keeper = omega arith;
  sink = omega arith;
  written = grows_none told.sink.written;
}

pub later_more : (a b c : Outlets) → IsLater a b → IsLater b c → IsLater a c
later_more a b c x y = record {
  keeper = omega (arith, x.keeper, y.keeper);
  sink = omega (arith, x.sink, y.sink);
  written = grows_more a.sink.written b.sink.written c.sink.written x.written y.written;
}

-- what was put out behind the last read
pub packet_read_further : (item : RecordItem) (old : Moment) (first mid behind : Outside)
    → WasReadForPacket item old first mid → behind.world ≡ mid.world
    → IsLater (outlets_of mid) (outlets_of behind) → WasReadForPacket item old first behind
packet_read_further item old first mid behind (inl read) same later = inl (
  read.0,
  read.1,
  read.2,
  same ∙ read.3,
  later_more (outlets_of read.1) (outlets_of mid) (outlets_of behind) read.4 later,
)
packet_read_further item old first mid behind (inr none) same later = inr (same ∙ none)

-- ---- where it stops

-- whole pieces were put out
pub put_whole : (meaning : Meaning) (run : Account) (kept : List ℕ) (given : List Piece)
    → HasPut meaning.area run.before kept (outlets_of run.behind) given
    → IsFront given meaning.pieces → WritesWhole meaning run
put_whole meaning run kept given has front =
    record { whole = given; front = front; written = has.wrote; kept = inl has.keeps }

-- none was, of a replay that has begun
pub begun_whole : (meaning : Meaning) (run : Account) → HasBegun run.before run.behind
    → WritesWhole meaning run
begun_whole meaning run begun =
    put_whole meaning run meaning.area [] (put_none meaning.area run.before run.behind meaning.area
    begun refl) (record { rest = meaning.pieces; joined = refl })

-- and then the text of one more was cut short
pub put_short : (meaning : Meaning) (run : Account) (kept : List ℕ) (now : Outlets)
    (given : List Piece) (piece : Piece)
    → HasPut meaning.area run.before kept now given
    → CutsPiece kept piece now (outlets_of run.behind)
    → IsFront (given ++ piece ∷ []) meaning.pieces → BreaksOff meaning run
put_short meaning run kept now given piece has cuts front = record {
  whole = given;
  piece = piece;
  front = front;
  part = cuts.short.front;
  wanting = cuts.short.rest;
  text_is = cuts.short.whole;
  wants = cuts.short.wanting;
  written = appends_more run.before.sink.written now.sink.written run.behind.sink.written
      (bytes_of given) cuts.short.front has.wrote cuts.short.written;
  kept = keeps_piece run.before.keeper now.keeper run.behind.keeper meaning.area kept given piece
      has.keeps has.kept_is cuts.keeps;
}

-- or its area couldn't be stored
pub put_lost : (meaning : Meaning) (run : Account) (kept : List ℕ) (now : Outlets)
    (given : List Piece) (piece : Piece)
    → HasPut meaning.area run.before kept now given
    → LosesPiece kept piece now (outlets_of run.behind)
    → IsFront (given ++ piece ∷ []) meaning.pieces → FailsToStore meaning run
put_lost meaning run kept now given piece has loses front =
    let fails = fails_piece run.before.keeper now.keeper run.behind.keeper meaning.area kept given
    piece has.keeps has.kept_is loses.fails in
    record {
      whole = given;
      piece = piece;
      front = front;
      differs = fails.differs;
      written = subst (λ o. Appends run.before.sink.written o (bytes_of given)) (sym loses.writes)
          has.wrote;
      kept = fails.kept;
      calls = fails.calls;
    }

-- ---- the same of more pieces

pub whole_further : (one other : Meaning) (run : Account) → one.area ≡ other.area
    → IsFront one.pieces other.pieces → WritesWhole one run → WritesWhole other run
whole_further one other run same front w =
    let P : List ℕ → Type 0 = λ a.
    Keeps run.before.keeper run.behind.keeper (stores a w.whole)
    ⊎ ((w.whole ≡ []) × (run.behind.keeper ≡ run.before.keeper)) in
    record {
      whole = w.whole;
      front = front_of_front w.whole one.pieces other.pieces w.front front;
      written = w.written;
      kept = subst P same w.kept;
    }

pub short_further : (one other : Meaning) (run : Account) → one.area ≡ other.area
    → IsFront one.pieces other.pieces → BreaksOff one run → BreaksOff other run
short_further one other run same front b = record {
  whole = b.whole;
  piece = b.piece;
  front = front_of_front (b.whole ++ b.piece ∷ []) one.pieces other.pieces b.front front;
  part = b.part;
  wanting = b.wanting;
  text_is = b.text_is;
  wants = b.wants;
  written = b.written;
  kept = subst
      (λ a. Keeps run.before.keeper run.behind.keeper (stores a (b.whole ++ b.piece ∷ []))) same
      b.kept;
}

pub lost_further : (one other : Meaning) (run : Account) → one.area ≡ other.area
    → IsFront one.pieces other.pieces → FailsToStore one run → FailsToStore other run
lost_further one other run same front f =
    let P : List ℕ → Type 0 = λ a.
    HasKept run.before.keeper run.behind.keeper (stores a f.whole)
    ⊎ HasKept run.before.keeper run.behind.keeper (stores a (f.whole ++ f.piece ∷ [])) in
    record {
      whole = f.whole;
      piece = f.piece;
      front = front_of_front (f.whole ++ f.piece ∷ []) one.pieces other.pieces f.front front;
      differs = subst (λ a. f.piece.area ≢ area_after a f.whole) same f.differs;
      written = f.written;
      kept = subst P same f.kept;
      calls = subst
          (λ a. CallsFor run.before.keeper run.behind.keeper (stores a (f.whole ++ f.piece ∷ [])))
          same f.calls;
    }
