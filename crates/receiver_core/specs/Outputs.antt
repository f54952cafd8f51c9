-- What comes to a receiver, and what it prints for that: a list of pieces, one for each turn and one
-- for each display list that is asked for. (This project's own.)
use Rattle.std.specs.Prelude.{ℕ, ℤ, zero, suc, ◌+◌, ◌==◌, nat_le, Bool, true, false, ◌&&◌, if◌then◌else◌, List, [], ◌∷◌, ◌++◌, filter, map}
use Rattle.std.specs.Option.{option_map_or}
use Rattle.ts_packets.specs.Packet.{pid_of}
use Rattle.ts_sections.specs.Sections.{completed_by}
use Rattle.ts_sections.specs.Intact.{is_intact}
use Rattle.psi_tables.specs.declared.services.Selection.{Selection}
use Rattle.es_reader.specs.Readers.{Reader}
use Rattle.page.specs.Inputs.{due_next, with_clock, with_date, with_random}
use Rattle.page.specs.State.{area_of}
use Rattle.text_lines.specs.declared.row_lines.Align.{Align}
use Rattle.receiver_core.specs.State.{State, opening, wants}
use Rattle.receiver_core.specs.Turns.{Step, display_step, due_turn, key_turn, rows_step, turn}
use Rattle.receiver_core.specs.declared.broadcast.Input.{Input as HandedIn}
use Rattle.receiver_core.specs.declared.broadcast.Input.TheVariants as handed

pub data Input : Type 0 where
  -- the next packet of the stream, of whatever PID
  Packet : List ℕ → Input
  -- a key is pressed, or released
  Key : ℕ → Input
  Release : ℕ → Input
  -- so many milliseconds pass
  Tick : ℕ → Input
  -- a random word
  Random : ℕ → Input
  -- it is now this second of this day, which is counted from 1970-01-01
  Date : ℤ → ℕ → Input
  -- the wish to see what is displayed
  Show : Input
  -- the same with the rows of its texts: so much space between two codes, and where rows stand
  Rows : ℕ → Align → Input

-- the input that a call hands in whole; packets and time are handed in by themselves
abbrev pub input_of : HandedIn → Input
input_of (handed.Key key) = Key key
input_of (handed.Release key) = Release key
input_of (handed.Random word) = Random word
input_of (handed.Date day second) = Date day second
input_of handed.Show = Show
input_of (handed.Rows spacing align) = Rows spacing align

-- a text, and the persistent area behind it
pub record Piece : Type 0 where
  pub text : List ℕ
  pub area : List ℕ

abbrev pub texts_of : List Piece → List (List ℕ)
texts_of pieces = map (λ piece. piece.text) pieces

abbrev pub piece_of : Step → Piece
piece_of step = record { text = step.text; area = area_of step.state.page }

-- ---- turns

-- the turns of intact sections on a PID, one behind the other, as long as the PID is wanted: what
-- they leave, and the piece of each
abbrev pub state_behind_turns : ℕ → List (List ℕ) → State → State
state_behind_turns pid [] s = s
state_behind_turns pid (section ∷ sections) s =
    if wants s pid then state_behind_turns pid sections (turn pid section s).state else s

abbrev pub pieces_of_turns : ℕ → List (List ℕ) → State → List Piece
pieces_of_turns pid [] s = []
pieces_of_turns pid (section ∷ sections) s =
    if wants s pid
    then piece_of (turn pid section s) ∷ pieces_of_turns pid sections (turn pid section s).state
    else []

-- ---- one input

-- with the next packet, which counts where its PID is wanted
abbrev pub with_packet : List ℕ → State → State
with_packet packet s = record s {
  packets = λ pid.
      if wants s pid && (pid == pid_of packet) then s.packets pid ++ packet ∷ [] else s.packets pid;
}

-- the sections that it completes on its PID, damaged ones too
abbrev pub sections_by : List ℕ → State → List (List ℕ)
sections_by packet s =
    if wants s (pid_of packet) then completed_by (s.packets (pid_of packet)) packet else []

-- those of them that are intact
abbrev pub intact_sections : List ℕ → State → List (List ℕ)
intact_sections packet s = filter is_intact (sections_by packet s)

-- what an input leaves, and the pieces that it gives
pub record Outcome : Type 0 where
  pub state : State
  pub pieces : List Piece

abbrev pub with_piece : Step → Outcome
with_piece step = record { state = step.state; pieces = piece_of step ∷ [] }

abbrev pub without_piece : State → Outcome
without_piece s = record { state = s; pieces = [] }

-- ---- time

-- a timer is due by a moment
abbrev pub is_due_by : ℕ → State → Bool
is_due_by moment s = option_map_or (λ due. nat_le due moment) (due_next s.page) false

-- the clock goes to a moment, without a turn
abbrev pub at_moment : ℕ → State → State
at_moment moment s = record s { page = with_clock moment s.page }

-- the clock reaches a moment: where a timer is due by then, its turn is made
abbrev pub reaches : ℕ → State → Outcome
reaches moment s =
    if is_due_by moment s
    then with_piece (due_turn moment s)
    else without_piece (at_moment moment s)

-- what comes first, and then this of the state that it leaves
abbrev pub followed_by : Outcome → (State → Outcome) → Outcome
followed_by first next =
    record { state = (next first.state).state; pieces = first.pieces ++ (next first.state).pieces }

-- So many milliseconds pass, one behind the other. `law_of_ticks` says that so time goes from due
-- moment to due moment, each with its turn, and then to its end.
unfoldable pub time_passes : ℕ → State → Outcome
time_passes zero s = without_piece s
time_passes (suc more) s = followed_by (reaches (s.page.clock + 1) s) (time_passes more)

-- ---- all of them

-- A packet makes the turns of the intact sections that it completes, and a key makes one turn. So does each moment when
-- timers are due. Nothing is printed for a random word, nor for a date.
abbrev pub outcome_of : Input → State → Outcome
outcome_of (Packet packet) s = record {
  state = state_behind_turns (pid_of packet) (intact_sections packet s) (with_packet packet s);
  pieces = pieces_of_turns (pid_of packet) (intact_sections packet s) (with_packet packet s);
}
outcome_of (Key key) s = with_piece (key_turn key true s)
outcome_of (Release key) s = with_piece (key_turn key false s)
outcome_of (Tick count) s = time_passes count s
outcome_of (Random word) s = without_piece (record s { page = with_random word s.page })
outcome_of (Date day second) s = without_piece (record s { page = with_date day second s.page })
outcome_of Show s = with_piece (display_step s)
outcome_of (Rows spacing align) s = with_piece (rows_step spacing align s)

-- what one input prints, and what it leaves
abbrev pub pieces_of : Input → State → List Piece
pieces_of input s = (outcome_of input s).pieces

abbrev pub state_after : Input → State → State
state_after input s = (outcome_of input s).state

-- ---- all inputs

-- what inputs print, one behind the other
abbrev pub pieces_from : State → List Input → List Piece
pieces_from s [] = []
pieces_from s (input ∷ inputs) = pieces_of input s ++ pieces_from (state_after input s) inputs

-- what they leave
abbrev pub state_behind : State → List Input → State
state_behind s [] = s
state_behind s (input ∷ inputs) = state_behind (state_after input s) inputs

-- what inputs print from the start, with that area
unfoldable pub outputs : Reader → Selection → List ℕ → List Input → List Piece
outputs read selection area inputs = pieces_from (opening read selection area) inputs
