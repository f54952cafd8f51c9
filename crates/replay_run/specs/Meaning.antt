-- What a replay means: the whole stream, the whole record and the kept bytes fix the pieces of its
-- output, with the area behind each, and how it ends. Which programs the scripts in the stream are
-- is told by a reader of programs, of which there is one. This project's own.
use Rattle.std.specs.Prelude.{ℕ, if◌then◌else◌, List, [], ◌∷◌, ◌++◌, length, Option, Some, None}
use Rattle.ts_packets.specs.Packets.{packets_of}
use Rattle.psi_tables.specs.declared.services.Selection.{Selection}
use Rattle.es_reader.specs.Readers.{Reader}
use Rattle.page.specs.State.{area_of}
use Rattle.receiver_core.specs.Outputs.{Input, Piece, outputs, state_behind}
use Rattle.receiver_core.specs.State.{opening}
use Rattle.replay_run.specs.declared.status.Status.{Status}
use Rattle.replay_run.specs.declared.status.Status.TheVariants.{BadArea, BadRecord, Done}
use Rattle.replay_run.specs.Kept.{area_of_kept, is_area_length}
use Rattle.replay_run.specs.Lines.{end_line}
use Rattle.replay_run.specs.Play.{inputs_of, packet_count}
use Rattle.replay_run.specs.Record.{items_before_bad, first_bad}

-- the area before the first piece, the pieces, how a run of them ends, and the pieces that come for
-- some of the inputs
pub record Meaning : Type 0 where
  pub area : List ℕ
  pub pieces : List Piece
  pub status : Status
  pub pieces_for : List Input → List Piece

-- what comes to the receiver: what the items before the first bad line hand over
abbrev pub replay_inputs : List ℕ → List ℕ → List Input
replay_inputs stream notes = inputs_of (packets_of stream) (items_before_bad notes)

-- the area that inputs leave of the area at the start
abbrev pub area_behind : Reader → Selection → List ℕ → List Input → List ℕ
area_behind read selection area inputs = area_of (state_behind (opening read selection area) inputs).page

-- how many packets were taken, behind these inputs
abbrev pub end_piece : Reader → Selection → List ℕ → List Input → Piece
end_piece read selection area inputs =
    record { text = end_line (packet_count inputs); area = area_behind read selection area inputs }

-- which is the last piece, where no line of the record is bad
abbrev pub last_pieces : Option ℕ → Piece → List Piece
last_pieces None piece = piece ∷ []
last_pieces (Some line) piece = []

-- the pieces of a replay from an area: what a receiver with that area prints, and the last one
unfoldable pub replay_pieces : Reader → Selection → List ℕ → List ℕ → List ℕ
    → List Piece
replay_pieces read selection area stream notes =
    let inputs = replay_inputs stream notes in
    outputs read selection area inputs
    ++ last_pieces (first_bad notes) (end_piece read selection area inputs)

abbrev pub status_behind : Option ℕ → Status
status_behind None = Done
status_behind (Some line) = BadRecord line

-- the meaning of a replay of the service or data that is asked for, from this area
abbrev pub area_meaning : Reader → Selection → List ℕ → List ℕ → List ℕ → Meaning
area_meaning read selection area stream notes = record {
  area = area;
  pieces = replay_pieces read selection area stream notes;
  status = status_behind (first_bad notes);
  pieces_for = λ inputs. outputs read selection area inputs;
}

-- kept bytes that are no area's: nothing is replayed
abbrev pub no_replay : List ℕ → Meaning
no_replay kept = record {
  area = area_of_kept kept;
  pieces = [];
  status = BadArea (length kept);
  pieces_for = λ inputs. [];
}

-- the meaning of a replay, with the bytes that are kept at its start
abbrev pub replay_meaning : Reader → Selection → List ℕ → List ℕ → List ℕ → Meaning
replay_meaning read selection kept stream notes =
    if is_area_length (length kept)
    then area_meaning read selection (area_of_kept kept) stream notes
    else no_replay kept
