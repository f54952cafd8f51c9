-- The record in pieces: what a reader holds, and what it may say of the lines before all bytes are
-- there. This project's own.
use Rattle.std.specs.Prelude.{◌≡◌, ◌≢◌, ℕ, ◌+◌, ◌-◌, ◌<◌, ◌≤◌, Bool, true, false, List, [], ◌∷◌}
use Rattle.std.specs.Prelude.{◌++◌, All, length, drop, slice_get, Some}
use Rattle.replay_run.specs.declared.record.Line.{Line}
use Rattle.replay_run.specs.declared.record.Line.TheVariants.{Bad}
use Rattle.replay_run.specs.Record.{line_feed, line_limit, lines_of}

-- the bytes that were fed and belong to no line given so far, and whether the record's end was told
pub record ReaderState : Type 0 where
  pub held : List ℕ
  pub ended : Bool

-- the most bytes that a reader holds
abbrev pub capacity : ℕ
capacity = 4096

-- the bytes of the longest good line with its end, a carriage return and a line feed
abbrev pub longest_line : ℕ
longest_line = line_limit + 2

-- bytes that the record may still bring: any before its end was told, none afterwards
abbrev pub MayFollow : ReaderState → List ℕ → Type 0
MayFollow reader more = reader.ended ≡ true → more ≡ []

-- Whatever follows, the lines of the record from here are this one, and then those from the new
-- state.
abbrev pub Gives : ReaderState → Line → ReaderState → Type 0
Gives old line new =
    (more : List ℕ) → MayFollow old more
    → lines_of (old.held ++ more) ≡ line ∷ lines_of (new.held ++ more)

-- Whatever follows, the first line of the record from here is bad.
abbrev pub BeginsBad : ReaderState → Type 0
BeginsBad reader =
    (more : List ℕ) → MayFollow reader more
    → slice_get (lines_of (reader.held ++ more)) 0 ≡ Some Bad

-- the first line from here isn't known before more bytes come: the end of no line and of no record
-- is there, and what is held is shorter than the longest good line
pub record IsUnfinished (reader : ReaderState) : Type 0 where
  pub open_end : reader.ended ≡ false
  pub no_line_feed : All (λ byte. byte ≢ line_feed) reader.held
  pub short : length reader.held < longest_line

-- the end was told, and no line is left
pub record IsOver (reader : ReaderState) : Type 0 where
  pub ended : reader.ended ≡ true
  pub none : reader.held ≡ []

-- bytes were taken at the front of what was held, and nothing else changed
pub record DropsFront (old new : ReaderState) : Type 0 where
  pub held : new.held ≡ drop (length old.held - length new.held) old.held
  pub shorter : length new.held ≤ length old.held
  pub ended : new.ended ≡ old.ended
