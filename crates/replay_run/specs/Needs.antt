-- When a replay reads a file on: what it needs of it, and how few bytes it has ahead. This
-- project's own.
use Rattle.std.specs.Prelude.{◌≡◌, ◌≢◌, ◌⊎◌, ℕ, ◌<◌, ◌≤◌, false, All, List, [], ◌∷◌, ◌++◌, length}
use Rattle.std.specs.List.{filter_map}
use Rattle.ts_packets.specs.Cutter.{IsWaiting}
use Rattle.replay_run.specs.declared.record.Line.{Line}
use Rattle.replay_run.specs.declared.record.Line.TheVariants.{Bad, Item as Read}
use Rattle.replay_run.specs.declared.record.RecordItem.{RecordItem}
use Rattle.replay_run.specs.Files.{packet_length}
use Rattle.replay_run.specs.Given.{Given, HasCut, HasRead}
use Rattle.replay_run.specs.Play.{packets_left}
use Rattle.replay_run.specs.Record.{item_in, line_feed}
use Rattle.replay_run.specs.RecordReader.{longest_line}

-- the most bytes of a file that a replay has ahead of what it took
abbrev pub most_ahead : ℕ
most_ahead = 4096

-- The stream is read on. Of the lines that were read none is bad, and the last one has an item: it
-- takes all packets that were cut and would take one more, which the items before it leave. No
-- packet is certain in the bytes of the stream that are ahead.
pub record NeedsPacket (given : Given) : Type 0 where
  pub earlier : List Line
  pub item : RecordItem
  pub ahead : List ℕ
  pub packets : List (List ℕ)
  pub waiting : List ℕ
  pub read : HasRead given.notes (earlier ++ Read item ∷ []) ahead
  pub cut : HasCut given.stream packets waiting
  pub good : All (λ line. line ≢ Bad) earlier
  pub few : length ahead ≤ most_ahead
  pub none : IsWaiting (record { held = waiting; ended = given.stream.ended })
  pub short : length waiting ≤ packet_length
  pub wants : (next : List ℕ)
      → packets_left (packets ++ next ∷ []) (filter_map item_in (earlier ++ Read item ∷ [])) ≡ []
  pub leave : (next : List ℕ)
      → packets_left (packets ++ next ∷ []) (filter_map item_in earlier) ≢ []

-- the bytes before those ahead end with the last packet that was cut; without one there are none
abbrev pub EndsBehind : List ℕ → List (List ℕ) → Type 0
EndsBehind before packets =
    ((packets ≡ []) × (before ≡ []))
    ⊎ ((others : List (List ℕ)) × (packet : List ℕ) × (skipped : List ℕ)
    × (packets ≡ others ++ packet ∷ []) × (before ≡ skipped ++ packet))

-- The record is read on. The items that were read took all packets that were cut, and where the
-- stream may go on they leave the next one. Of the lines that were read none is bad. The end of the
-- next line isn't there, and what is there of it is shorter than the longest good line.
pub record NeedsLine (given : Given) : Type 0 where
  pub lines : List Line
  pub ahead : List ℕ
  pub packets : List (List ℕ)
  pub waiting : List ℕ
  pub read : HasRead given.notes lines ahead
  pub cut : HasCut given.stream packets waiting
  pub good : All (λ line. line ≢ Bad) lines
  pub open_end : given.notes.ended ≡ false
  pub unended : All (λ byte. byte ≢ line_feed) ahead
  pub short : length ahead < longest_line
  pub few : length waiting ≤ most_ahead
  pub took : packets_left packets (filter_map item_in lines) ≡ []
  pub leave : given.stream.ended ≡ false → (next : List ℕ)
      → packets_left (packets ++ next ∷ []) (filter_map item_in lines) ≡ next ∷ []
  pub close : given.stream.ended ≡ false → EndsBehind cut.before packets
