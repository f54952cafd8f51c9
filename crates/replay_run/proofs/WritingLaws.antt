-- Laws of what writes leave.
use Rattle.std.proofs.Common.{◌≡◌, ◌≢◌, ℕ, ◌-◌, List, [], ◌++◌, refl, sym, ap, ◌∙◌, append_assoc}
use Rattle.std.proofs.Common.{append-nil, length, take, drop, Option, Some, None, take-append-drop}
use Rattle.std.specs.List.{concat}
use Rattle.std.specs.Io.KnownBytes.{Appends, Keeps as KeepsKnown}
use Rattle.std.proofs.lemmas.List.{take_rest}
use Rattle.std.proofs.lemmas.List.{map-append}
use Rattle.std.proofs.lemmas.List.Folds.{concat-append}
use Rattle.receiver_core.specs.Outputs.{Piece, texts_of}
use Rattle.replay_run.specs.Output.{bytes_of}
use Rattle.replay_run.specs.Writing.{Grows, WritesOn, WritesShort}

-- where the bytes told are known, appending gives the others
pub appended_some : (start bytes : List ℕ) (mid new : Option (List ℕ)) → mid ≡ Some start
    → Appends mid new bytes → new ≡ Some (start ++ bytes)
appended_some start bytes None new e a = let clash : None ≡ Some start = e in cc
appended_some start bytes (Some x) None e a = absurd a
appended_some start bytes (Some x) (Some y) e a = let same : x ≡ start = cc in
    ap Some (a ∙ ap (λ l. l ++ bytes) same)

-- a front of a piece is written, and this is the rest of it
pub record IsWrittenTo (old new : Option (List ℕ)) (piece rest : List ℕ) : Type 0 where
  pub front : List ℕ
  pub whole : piece ≡ front ++ rest
  pub written : WritesOn old new front

-- none of it is written yet
pub none_written : (old : Option (List ℕ)) (piece : List ℕ) → IsWrittenTo old old piece piece
none_written old piece = record {
  front = [];
  whole = refl;
  written = λ start told. told ∙ ap Some (sym (append-nil start));
}

-- one more write took bytes from the front of the rest
pub rest_written : (old mid new : Option (List ℕ)) (piece rest : List ℕ) (count : ℕ)
    → IsWrittenTo old mid piece rest → Appends mid new (take count rest)
    → IsWrittenTo old new piece (take (length rest - count) (drop count rest))
rest_written old mid new piece rest count before appends =
    let split : rest ≡ take count rest ++ take (length rest - count) (drop count rest) =
    sym (take-append-drop count rest) ∙ ap (λ l. take count rest ++ l)
    (sym (take_rest rest count)) in
    record {
      front = before.front ++ take count rest;
      whole = before.whole ∙ ap (λ l. before.front ++ l) split
          ∙ sym (append_assoc before.front (take count rest)
          (take (length rest - count) (drop count rest)));
      written = λ start told.
          appended_some (start ++ before.front) (take count rest) mid new
          (before.written start told) appends
          ∙ ap Some (append_assoc start before.front (take count rest));
    }

-- nothing is left of it
pub all_written : (old new : Option (List ℕ)) (piece rest : List ℕ) → rest ≡ []
    → IsWrittenTo old new piece rest → WritesOn old new piece
all_written old new piece rest none w = λ start told.
    let same : w.front ≡ piece =
    sym (append-nil w.front) ∙ ap (λ l. w.front ++ l) (sym none) ∙ sym w.whole in
    w.written start told ∙ ap (λ l. Some (start ++ l)) same

-- a failed write kept what was written
pub kept_written : (old mid new : Option (List ℕ)) (bytes : List ℕ) → KeepsKnown mid new
    → WritesOn old mid bytes → WritesOn old new bytes
kept_written old mid new bytes kept w = λ start told.
    appended_some (start ++ bytes) [] mid new (w start told) (kept_appends mid new kept)
    ∙ ap Some (append-nil (start ++ bytes))
  where
    kept_appends : (mid new : Option (List ℕ)) → KeepsKnown mid new → Appends mid new []
    kept_appends None new k = tt
    kept_appends (Some x) None k = absurd k
    kept_appends (Some x) (Some y) k = k ∙ sym (append-nil x)

-- what was written stays
pub grows_none : (told : Option (List ℕ)) → Grows told told
grows_none told = λ start e. ([], e ∙ ap Some (sym (append-nil start)))

pub grows_more : (a b c : Option (List ℕ)) → Grows a b → Grows b c → Grows a c
grows_more a b c x y = λ start e.
    let first = x start e in
    let next = y (start ++ first.0) first.1 in
    (first.0 ++ next.0, next.1 ∙ ap Some (append_assoc start first.0 next.0))

pub grows_written : (old new : Option (List ℕ)) (piece rest : List ℕ)
    → IsWrittenTo old new piece rest → Grows old new
grows_written old new piece rest w = λ start e. (w.front, w.written start e)

pub grows_kept : (old mid new : Option (List ℕ)) (piece rest : List ℕ) → KeepsKnown mid new
    → IsWrittenTo old mid piece rest → Grows old new
grows_kept old mid new piece rest kept w = λ start e.
    (w.front, kept_written old mid new w.front kept w.written start e)

-- so what is left is wanting
pub short_written : (old mid new : Option (List ℕ)) (piece rest : List ℕ) → KeepsKnown mid new
    → rest ≢ [] → IsWrittenTo old mid piece rest → WritesShort old new piece
short_written old mid new piece rest kept some w = record {
  front = w.front;
  rest = rest;
  whole = w.whole;
  wanting = some;
  written = kept_written old mid new w.front kept w.written;
}

pub appends_from : (start bytes : List ℕ) (new : Option (List ℕ)) → new ≡ Some (start ++ bytes)
    → Appends (Some start) new bytes
appends_from start bytes None e = let clash : None ≡ Some (start ++ bytes) = e in cc
appends_from start bytes (Some x) e = cc

-- more was written
pub appends_more : (first old new : Option (List ℕ)) (bytes more : List ℕ)
    → Appends first old bytes → WritesOn old new more → Appends first new (bytes ++ more)
appends_more None old new bytes more a w = tt
appends_more (Some start) None new bytes more a w = absurd a
appends_more (Some start) (Some x) new bytes more a w =
    appends_from start (bytes ++ more) new
    (w x refl ∙ ap Some (ap (λ l. l ++ more) a ∙ append_assoc start bytes more))

-- the buffer that bytes were appended to, once it was cleared
pub made_alone : (buffer made cleared bytes : List ℕ) → buffer ≡ made → made ≡ cleared ++ bytes
    → cleared ≡ [] → buffer ≡ bytes
made_alone buffer made cleared bytes is_made more none = is_made ∙ more ∙ ap (λ l. l ++ bytes) none

-- the bytes of pieces, and of others behind them
pub bytes-append : (pieces more : List Piece) → bytes_of (pieces ++ more) ≡ bytes_of pieces ++ bytes_of more
bytes-append pieces more =
    ap concat (map-append (λ (piece : Piece). piece.text) pieces more)
    ∙ concat-append (texts_of pieces) (texts_of more)
