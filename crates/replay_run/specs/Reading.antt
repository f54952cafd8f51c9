-- A device of the proofs: the first line of what a reader holds.
use Rattle.std.specs.Prelude.{◌≡◌, ◌≢◌, ℕ, ◌<◌, ◌≤◌, ◌↔◌, Bool, List, length, drop}
use Rattle.replay_run.specs.declared.record.Line.{Line}
use Rattle.replay_run.specs.declared.record.Line.TheVariants.{Bad}
use Rattle.replay_run.specs.declared.record.NextLine.{NextLine}
use Rattle.replay_run.specs.declared.record.NextLine.TheVariants.{Line as Next, NeedMore, End}
use Rattle.replay_run.specs.RecordReader.{ReaderState, Gives, BeginsBad, IsUnfinished, IsOver}

-- a reader's state by its two parts
abbrev pub state : List ℕ → Bool → ReaderState
state held ended = record { held = held; ended = ended }

-- what is answered of the first line, and how many bytes are taken with it
pub record IsFirstCut (held : List ℕ) (ended : Bool) (noted : NextLine) (taken : ℕ) : Type 0 where
  pub good : (line : Line) → line ≢ Bad → noted ≡ Next line
      → Gives (state held ended) line (state (drop taken held) ended)
  pub bad : noted ≡ Next Bad → BeginsBad (state held ended)
  pub need_more : (noted ≡ NeedMore) ↔ IsUnfinished (state held ended)
  pub end : (noted ≡ End) ↔ IsOver (state held ended)
  pub is_within : taken ≤ length held
  pub takes : (line : Line) → line ≢ Bad → noted ≡ Next line → 0 < taken
  pub stays : ((line : Line) → line ≢ Bad → noted ≢ Next line) → taken ≡ 0
