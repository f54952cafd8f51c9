-- What a receiver stands for: what came to it so far, and the pieces that it gave for that. (This
-- project's own.)
use Rattle.std.specs.Prelude.{◌≡◌, ◌<◌, ℕ, ◌+◌, ℤ, pos, ◌≤ℤ◌, max, min, Bool, true, false, if◌then◌else◌, List, []}
use Rattle.std.specs.Prelude.{◌∷◌, ◌++◌, filter, length}
use Rattle.std.specs.Option.{option_map_or}
use Rattle.ts_sections.specs.Intact.{is_intact}
use Rattle.psi_tables.specs.declared.services.Selection.{Selection}
use Rattle.psi_tables.specs.Service.{ServicesState, wants}
use Rattle.es_reader.specs.Readers.{Reader}
use Rattle.page.specs.Inputs.{due_next}
use Rattle.page.specs.State.{area_of}
use Rattle.receiver_core.specs.Keeping.{KeptState, Keeps}
use Rattle.receiver_core.specs.Outputs.{Input, Piece, input_of, outputs, pieces_of, pieces_of_turns}
use Rattle.receiver_core.specs.Outputs.{state_behind, state_behind_turns}
use Rattle.receiver_core.specs.Outputs.Input.{Tick}
use Rattle.receiver_core.specs.declared.broadcast.Input.{Input as HandedIn}
use Rattle.receiver_core.specs.declared.broadcast.Input.TheVariants as handed
use Rattle.receiver_core.specs.State.{State, opening, services}

pub record ReceiverState : Type 0 where
  -- the service that is asked for, the one that is played, and its component map
  pub services : ServicesState
  -- the PID of the packet handed in last, and the sections that it completed and whose turn is
  -- still to come, damaged ones too, in their order
  pub pid : ℕ
  pub waiting : List (List ℕ)
  -- the time, in milliseconds, and the persistent area
  pub clock : ℕ
  pub area : List ℕ
  -- whether a call found no memory
  pub spent : Bool
  -- a device of the proofs, which clauses name by `StandsFor` alone
  pub kept : KeptState

-- The inputs came, and these pieces were given so far. What the turns so far left is one state, and
-- with the turns of the sections that are waiting it is the state that the inputs leave, and what
-- was given is all that they print.
pub record StandsFor (read : Reader) (selection : Selection) (area : List ℕ) (state : ReceiverState)
    (inputs : List Input) (given : List Piece) : Type 0 where
  pub now : State
  pub left : state_behind (opening read selection area) inputs
      ≡ state_behind_turns state.pid (filter is_intact state.waiting) now
  pub pieces : outputs read selection area inputs
      ≡ given ++ pieces_of_turns state.pid (filter is_intact state.waiting) now
  pub services_are : state.services ≡ services now
  pub clock_is : state.clock ≡ now.page.clock
  pub area_is : state.area ≡ area_of now.page
  pub unspent : state.spent ≡ false
  -- a device
  pub kept : Keeps state.kept now

-- a call found no memory
abbrev pub IsSpent : ReceiverState → Type 0
IsSpent state = state.spent ≡ true

-- no turn is still to come, so the next packet may; and to a spent receiver anything may
abbrev pub IsIdle : ReceiverState → Type 0
IsIdle state = state.spent ≡ false → state.waiting ≡ []

-- how many sections are waiting
abbrev pub sections_left : ReceiverState → ℕ
sections_left state = length state.waiting

-- ---- calls

-- A call that may find no memory leaves the receiver spent exactly where it failed, and it fails
-- where the receiver was spent.
pub record Spends (failed : Bool) (old new : ReceiverState) : Type 0 where
  pub spent : new.spent ≡ failed
  pub after_spent : IsSpent old → failed ≡ true

-- a fact of each state for which the receiver stands
abbrev pub ForState : ReceiverState → (State → Type 0) → Type 0
ForState state Fact =
    (read : Reader) (selection : Selection) (area : List ℕ) (inputs : List Input)
    (given : List Piece)
    → (stood : StandsFor read selection area state inputs given) → Fact stood.now

-- for whatever a receiver stood, it stands for it still
abbrev pub Stays : ReceiverState → ReceiverState → Type 0
Stays old new =
    (read : Reader) (selection : Selection) (area : List ℕ) (inputs : List Input)
    (given : List Piece) → StandsFor read selection area old inputs given
    → StandsFor read selection area new inputs given

-- it stands for one input more
abbrev pub Takes : Input → ReceiverState → ReceiverState → Type 0
Takes input old new =
    (read : Reader) (selection : Selection) (area : List ℕ) (inputs : List Input)
    (given : List Piece) → StandsFor read selection area old inputs given
    → StandsFor read selection area new (inputs ++ input ∷ []) given

-- it gave one piece more: this text, with its area
abbrev pub Gives : List ℕ → ReceiverState → ReceiverState → Type 0
Gives text old new =
    (read : Reader) (selection : Selection) (area : List ℕ) (inputs : List Input)
    (given : List Piece) → StandsFor read selection area old inputs given
    → StandsFor read selection area new inputs
    (given ++ record { text = text; area = new.area } ∷ [])

-- No section was waiting: nothing is printed, and nothing done.
pub record IsOver (old new : ReceiverState) (before after : List ℕ) : Type 0 where
  pub none : old.waiting ≡ []
  pub left : new.waiting ≡ []
  pub silent : after ≡ before
  pub area : new.area ≡ old.area
  pub stays : Stays old new

-- The next section is damaged: it is passed over, and nothing is printed.
pub record PassesDamaged (old new : ReceiverState) (before after : List ℕ) : Type 0 where
  pub section : List ℕ
  pub next : old.waiting ≡ section ∷ new.waiting
  pub damaged : is_intact section ≡ false
  pub silent : after ≡ before
  pub area : new.area ≡ old.area
  pub stays : Stays old new

-- The next section is intact: its turn is made, and its text printed. As long as their PID is
-- wanted, those behind it go on waiting.
pub record MakesTurn (old new : ReceiverState) (before after : List ℕ) : Type 0 where
  pub section : List ℕ
  pub rest : List (List ℕ)
  pub text : List ℕ
  pub next : old.waiting ≡ section ∷ rest
  pub intact : is_intact section ≡ true
  pub left : new.waiting ≡ (if wants new.services old.pid then rest else [])
  pub printed : after ≡ before ++ text
  pub gives : Gives text old new

-- the last day that may be told: 2399-12-31, counted from 1970-01-01
abbrev pub last_day : ℕ
last_day = 157053

-- the seconds of a day
abbrev pub day_length : ℕ
day_length = 86400

-- a day of the years 1970 to 2399, and a second of it
abbrev pub IsDate : ℤ → ℕ → Type 0
IsDate day second = (pos 0 ≤ℤ day) × (day ≤ℤ pos last_day) × (second < day_length)

-- it may be handed in: a date is such a day and second
abbrev pub MayCome : HandedIn → Type 0
MayCome (handed.Key key) = Unit {0}
MayCome (handed.Release key) = Unit {0}
MayCome (handed.Random word) = Unit {0}
MayCome (handed.Date day second) = IsDate day second
MayCome handed.Show = Unit {0}
MayCome (handed.Rows spacing align) = Unit {0}

-- nothing is printed for it: for a random word, and for a date
abbrev pub IsSilent : HandedIn → Type 0
IsSilent (handed.Key key) = ⊥
IsSilent (handed.Release key) = ⊥
IsSilent (handed.Random word) = Unit {0}
IsSilent (handed.Date day second) = Unit {0}
IsSilent handed.Show = ⊥
IsSilent (handed.Rows spacing align) = ⊥

-- the piece that an input gave: this text, with the area behind it. A random word and a date give
-- none.
abbrev pub piece_for : HandedIn → List ℕ → List ℕ → List Piece
piece_for (handed.Key key) text area = record { text = text; area = area } ∷ []
piece_for (handed.Release key) text area = record { text = text; area = area } ∷ []
piece_for (handed.Random word) text area = []
piece_for (handed.Date day second) text area = []
piece_for handed.Show text area = record { text = text; area = area } ∷ []
piece_for (handed.Rows spacing align) text area = record { text = text; area = area } ∷ []

-- An input gave its piece, whose text is printed: that of the state that the turns so far left.
-- Where no turn was still to come, the receiver took the input, and gave this piece for it. An
-- input without a piece leaves the area.
pub record Answers (input : HandedIn) (old new : ReceiverState) (before after : List ℕ)
    : Type 0 where
  pub text : List ℕ
  pub printed : after ≡ before ++ text
  pub area : IsSilent input → new.area ≡ old.area
  pub pieces_are : ForState old
      (λ now. pieces_of (input_of input) now ≡ piece_for input text new.area)
  pub taken : IsIdle old → (read : Reader) (selection : Selection) (area : List ℕ)
      (inputs : List Input) (given : List Piece) → StandsFor read selection area old inputs given
      → StandsFor read selection area new (inputs ++ input_of input ∷ [])
      (given ++ piece_for input text new.area)

-- ---- time

-- where time stops that passes for so many milliseconds: at the first moment when a timer is due,
-- and at its end if none is. No timer is overdue (`law_of_time` of the laws of pages); one that
-- were would be due a millisecond later.
abbrev pub next_stop : ℕ → State → ℕ
next_stop left s =
    option_map_or (λ due. min (max due (s.page.clock + 1)) (s.page.clock + left)) (due_next s.page)
    (s.page.clock + left)

-- Time passed to its end, and no turn was made.
pub record PassesTime (left : ℕ) (old new : ReceiverState) (before after : List ℕ) : Type 0 where
  pub silent : after ≡ before
  pub area : new.area ≡ old.area
  pub takes : Takes (Tick left) old new

-- So many milliseconds passed, and at their end a turn was made: its text is printed.
pub record MakesDueTurn (passed : ℕ) (old new : ReceiverState) (before after : List ℕ)
    : Type 0 where
  pub text : List ℕ
  pub printed : after ≡ before ++ text
  pub taken : (read : Reader) (selection : Selection) (area : List ℕ)
      (inputs : List Input) (given : List Piece) → StandsFor read selection area old inputs given
      → StandsFor read selection area new (inputs ++ Tick passed ∷ [])
      (given ++ record { text = text; area = new.area } ∷ [])
