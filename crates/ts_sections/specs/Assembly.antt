-- What an assembler stands for: the packets handed in, the sections given, and those that are
-- waiting. The sections of packets are those of `Sections`. (This project's own.)
use Rattle.std.specs.Prelude.{◌≡◌, ℕ, List, [], ◌∷◌, ◌++◌, Option, MatchOption}
use Rattle.ts_sections.specs.Sections.{sections}
use Rattle.ts_sections.specs.devices.Ahead.{Kept, TellsAhead}

-- an assembler, as its callers see it
pub record AssemblerState : Type 0 where
  -- the sections that are whole and not given yet, in their order
  pub waiting : List (List ℕ)
  -- what it keeps for the packets to come (a device of the proofs)
  pub kept : Kept

-- nothing is waiting, so the next packet may come
abbrev pub IsDrained : AssemblerState → Type 0
IsDrained state = state.waiting ≡ []

-- The assembler was handed these packets and gave these sections.
pub record StandsFor (state : AssemblerState) (packets given : List (List ℕ)) : Type 0 where
  -- the sections of the packets, in their order, are those given and then those waiting
  pub all : given ++ state.waiting ≡ sections packets
  -- what is kept tells the sections ahead, whatever packets come behind (a device of the proofs)
  pub ahead : TellsAhead state.kept packets given

-- ---- one call of `next`

-- the section was the first of those waiting
pub record GivesNext (old new : AssemblerState) (section : List ℕ) : Type 0 where
  pub next : old.waiting ≡ section ∷ new.waiting
  pub stands : (packets given : List (List ℕ)) → StandsFor old packets given
      → StandsFor new packets (given ++ section ∷ [])

-- none was waiting: all sections of the packets handed in are given
pub record HasGivenAll (old new : AssemblerState) : Type 0 where
  pub none : old.waiting ≡ []
  pub left : new.waiting ≡ []
  pub stands : (packets given : List (List ℕ)) → StandsFor old packets given
      → StandsFor new packets given
  pub all : (packets given : List (List ℕ)) → StandsFor old packets given → given ≡ sections packets

abbrev pub NextSection : AssemblerState → AssemblerState → Option (List ℕ) → Type 0
NextSection old new result = MatchOption result (HasGivenAll old new) (GivesNext old new)
