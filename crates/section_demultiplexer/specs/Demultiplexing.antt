-- What a demultiplexer stands for: for each PID the packets handed in since it was wanted without a
-- break, the sections given of these, and those that are waiting. (This project's own, over the
-- sections of ISO/IEC 13818-1, 2.4.4.)
use Rattle.std.specs.Prelude.{◌≡◌, ◌==◌, ◌||◌, nat_lt, ℕ, Bool, true, if◌then◌else◌, List, [], ◌∷◌, ◌++◌, length, Option, MatchOption}
use Rattle.ts_sections.specs.Sections.{sections}
use Rattle.section_demultiplexer.specs.Channels.{AreKept, has_channel}
use Rattle.section_demultiplexer.specs.declared.demultiplexer.Channel.{Channel}

-- a demultiplexer, as its callers see it
pub record DemultiplexerState : Type 0 where
  -- the PID of the packet pushed last
  pub pid : ℕ
  -- the sections that this packet completed and that aren't given yet, in their order
  pub waiting : List (List ℕ)
  -- what it keeps of each PID for the packets to come (a device of the proofs)
  pub kept : List Channel

-- no section is waiting, so the next packet may come
abbrev pub IsDrained : DemultiplexerState → Type 0
IsDrained state = state.waiting ≡ []

-- ---- the PIDs that are followed

-- packets came on that PID since it was wanted
abbrev pub is_followed : DemultiplexerState → ℕ → Bool
is_followed state pid = has_channel state.kept pid

-- the most PIDs that can be followed: those of the PAT, of the PMT, and of 16 components
abbrev pub pid_limit : ℕ
pid_limit = 18

-- that PID is followed, or can be
abbrev pub has_room : DemultiplexerState → ℕ → Bool
has_room state pid = is_followed state pid || nat_lt (length state.kept) pid_limit

-- ---- what it stands for

-- the sections of a PID that are waiting: those of the packet pushed last
abbrev pub waiting_on : DemultiplexerState → ℕ → List (List ℕ)
waiting_on state pid = if pid == state.pid then state.waiting else []

-- For each PID these packets were handed in since it was wanted without a break, and these sections
-- of them given.
pub record StandsFor (state : DemultiplexerState) (packets given : ℕ → List (List ℕ)) : Type 0 where
  -- the sections of the packets of a PID, in their order, are those given and then those waiting
  pub all : (pid : ℕ) → given pid ++ waiting_on state pid ≡ sections (packets pid)
  -- and what is kept stands for them (a device of the proofs)
  pub kept : AreKept state.kept packets given

-- with one more, a packet or a section, behind those of its PID
abbrev pub with_next : ℕ → List ℕ → (ℕ → List (List ℕ)) → ℕ → List (List ℕ)
with_next pid next before other = if pid == other then before other ++ next ∷ [] else before other

-- those of the PIDs that are wanted; none of the others
abbrev pub of_wanted : (ℕ → Bool) → (ℕ → List (List ℕ)) → ℕ → List (List ℕ)
of_wanted wanted before pid = if wanted pid then before pid else []

-- nothing is different but the PID of the packet pushed last
abbrev pub with_pid : ℕ → DemultiplexerState → DemultiplexerState
with_pid pid state = record { pid = pid; waiting = state.waiting; kept = state.kept }

-- ---- one call of `next`

-- the section was the first of those waiting
pub record GivesNext (old new : DemultiplexerState) (section : List ℕ) : Type 0 where
  pub pid : new.pid ≡ old.pid
  pub next : old.waiting ≡ section ∷ new.waiting
  pub stands : (packets given : ℕ → List (List ℕ)) → StandsFor old packets given
      → StandsFor new packets (with_next old.pid section given)
  pub same : (pid : ℕ) → is_followed new pid ≡ is_followed old pid
  pub followed : is_followed old old.pid ≡ true

-- none was waiting
pub record HasGivenAll (old new : DemultiplexerState) : Type 0 where
  pub pid : new.pid ≡ old.pid
  pub none : old.waiting ≡ []
  pub left : new.waiting ≡ []
  pub stands : (packets given : ℕ → List (List ℕ)) → StandsFor old packets given
      → StandsFor new packets given
  pub same : (pid : ℕ) → is_followed new pid ≡ is_followed old pid

abbrev pub NextSection : DemultiplexerState → DemultiplexerState → Option (List ℕ) → Type 0
NextSection old new result = MatchOption result (HasGivenAll old new) (GivesNext old new)
