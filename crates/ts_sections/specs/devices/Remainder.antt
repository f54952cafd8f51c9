-- A device of the proofs: what of the packet pushed last isn't taken in yet. (This project's own.)
use Rattle.std.specs.Prelude.{◌≡◌, ℕ, ◌≤◌, Bool, true, not, ◌&&◌, List, [], ◌∷◌, ◌++◌, length, drop, map, slice_range, Option, Some, None, IfSome, MatchOption, unwrap_or}
use Rattle.ts_sections.specs.Sections.{Token, Byte, Mark, begins_whole}
use Rattle.ts_sections.specs.devices.Ahead.{Kept, Tokens, in_front, sections_of_open, sections_from, sections_ahead}
use Rattle.ts_sections.specs.Assembly.{AssemblerState, HasGivenAll}
use Rattle.ts_sections.specs.devices.Piece.{PieceState, ends_in}
use Rattle.ts_sections.specs.declared.remainder.Remainder.{Remainder}
use Rattle.ts_sections.specs.declared.remainder.Found.{Found}
use Rattle.ts_sections.specs.declared.remainder.Found.TheVariants.{Gathered, InPacket}

-- the packet's bytes from a place on, with a mark before one of them
abbrev pub tokens_from : List ℕ → ℕ → Option ℕ → List Token
tokens_from packet place None = map Byte (drop place packet)
tokens_from packet place (Some mark) =
    map Byte (slice_range packet place mark) ++ Mark ∷ map Byte (drop mark packet)

abbrev pub tokens_of : List ℕ → Remainder → List Token
tokens_of packet rest = tokens_from packet rest.place rest.mark

abbrev pub IsWithin : List ℕ → Remainder → Type 0
IsWithin packet rest =
    (rest.place ≤ length packet)
    × IfSome rest.mark (λ mark. (rest.place ≤ mark) × (mark ≤ length packet))

-- what is pending of the packet that was read last, if one was
abbrev pub pending_of : Option (List ℕ) → Remainder → List Token
pending_of None rest = []
pending_of (Some packet) rest = tokens_of packet rest

-- before the first packet that is read no piece has begun
abbrev pub IsRemainder : Option (List ℕ) → Remainder → PieceState → Type 0
IsRemainder None rest piece = piece.known ≡ None
IsRemainder (Some packet) rest piece = IsWithin packet rest

-- what an assembler keeps that read this packet last
abbrev pub kept_of : Option (List ℕ) → Remainder → PieceState → Kept
kept_of before rest piece = record {
  before = before;
  piece = piece.known;
  pending = pending_of before rest;
  gathered = piece.gathered;
}

-- and how its callers see it: waiting are those sections that it would give if no more packets came
abbrev pub state_of : Option (List ℕ) → Remainder → PieceState → AssemblerState
state_of before rest piece = record {
  waiting = sections_ahead (kept_of before rest piece) [];
  kept = kept_of before rest piece;
}

-- no section ends in what isn't taken in yet
abbrev pub is_done_from : Option (List ℕ) → List ℕ → ℕ → Option ℕ → Bool
is_done_from known packet place None = not (ends_in known (drop place packet))
is_done_from known packet place (Some mark) =
    not (ends_in known (slice_range packet place mark)) && not (begins_whole (drop mark packet))

abbrev pub is_done : List ℕ → Remainder → PieceState → Bool
is_done packet rest piece = is_done_from piece.known packet rest.place rest.mark

-- the bytes of a section that was found
abbrev pub section_of : List ℕ → List ℕ → Found → List ℕ
section_of packet gathered Gathered = gathered
section_of packet gathered (InPacket start end) = slice_range packet start end

abbrev pub IsFoundIn : List ℕ → Found → Type 0
IsFoundIn packet Gathered = Unit {0}
IsFoundIn packet (InPacket start end) = (start ≤ end) × (end ≤ length packet)

-- the packet that was read last; no byte where none was
abbrev pub last_bytes : Option (List ℕ) → List ℕ
last_bytes before = unwrap_or before []

-- all that comes up to the mark, or to the end, is taken in, and no section ended in it
pub record Passes (packet : List ℕ) (old new : Remainder) (piece piece' : PieceState) : Type 0 where
  pub mark : new.mark ≡ old.mark
  pub ended : sections_of_open piece'.known [] ≡ []
  pub passed : MatchOption old.mark (tokens_of packet new ≡ []) (λ mark. new.place ≡ mark)
  pub ahead : (behind : Tokens)
      → sections_from piece.known (in_front true (tokens_of packet old) behind)
      ≡ sections_from piece'.known (in_front true (tokens_of packet new) behind)

-- the section that was found is the first of those ahead
pub record Finds (packet : List ℕ) (old new : Remainder) (piece piece' : PieceState) (found : Found)
    : Type 0 where
  pub place : IsFoundIn packet found
  pub ahead : (behind : Tokens)
      → sections_from piece.known (in_front true (tokens_of packet old) behind)
      ≡ section_of packet piece'.gathered found
      ∷ sections_from piece'.known (in_front true (tokens_of packet new) behind)

-- all is taken in, and no section ended in it
pub record Drains (packet : List ℕ) (old new : Remainder) (piece piece' : PieceState) : Type 0 where
  pub drained : tokens_of packet new ≡ []
  pub ended : sections_of_open piece'.known [] ≡ []
  pub ahead : (behind : Tokens)
      → sections_from piece.known (in_front true (tokens_of packet old) behind)
      ≡ sections_from piece'.known behind

-- all of the packet that was read last is taken in, and no section ended in it
pub record Finishes (before : Option (List ℕ)) (old new : Remainder) (piece piece' : PieceState)
    : Type 0 where
  pub taken : pending_of before new ≡ []
  pub ended : sections_of_open piece'.known [] ≡ []
  pub gives : HasGivenAll (state_of before old piece) (state_of before new piece')
