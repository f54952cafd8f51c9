-- A device of the proofs: what an assembler keeps, and a recursion, packet by packet, that tells
-- from it which sections are still to come. What it comes to is said over whole lists in `Sections`
-- and `Assembly`. (This project's own.)
use Rattle.std.specs.Prelude.{◌≡◌, ℕ, Bool, true, false, not, ◌&&◌, List, [], ◌∷◌, ◌++◌, Option, Some, None, if◌then◌else◌}
use Rattle.std.specs.List.{flat_map}
use Rattle.std.specs.Str.{bytes_eq}
use Rattle.ts_packets.specs.Packet.{is_readable}
use Rattle.ts_sections.specs.Sections.{Token, tokens_of_packet, follows, bytes_to_mark, pieces, sections_of_piece, sections}

pub record Kept : Type 0 where
  -- the packet that was read last
  pub before : Option (List ℕ)
  -- of the present piece, the bytes behind its last whole section; none where what comes up to the
  -- next mark is unread
  pub piece : Option (List ℕ)
  -- what that packet carries and isn't taken in yet
  pub pending : List Token
  -- the bytes that were gathered last, for a section of several packets. It says nothing of what is
  -- ahead
  pub gathered : List ℕ

-- ---- what comes behind

-- what packets carry behind others: in the run that goes on, and in the later ones
pub record Tokens : Type 0 where
  pub present : List Token
  pub later : List (List Token)

-- with a packet's tokens in front, which go on with the present run or begin a new one
abbrev pub in_front : Bool → List Token → Tokens → Tokens
in_front true tokens behind = record { present = tokens ++ behind.present; later = behind.later }
in_front false tokens behind = record {
  present = [];
  later = (tokens ++ behind.present) ∷ behind.later;
}

abbrev pub is_repeated : Option (List ℕ) → List ℕ → Bool
is_repeated None packet = false
is_repeated (Some before) packet = bytes_eq before packet

abbrev pub goes_on : Option (List ℕ) → List ℕ → Bool
goes_on None packet = false
goes_on (Some before) packet = follows before packet

-- what these packets carry behind the packet that was read last
abbrev pub tokens_behind : Option (List ℕ) → List (List ℕ) → Tokens
tokens_behind before [] = record { present = []; later = [] }
tokens_behind before (packet ∷ packets) =
    if is_readable packet && not (is_repeated before packet)
    then in_front (goes_on before packet) (tokens_of_packet packet)
    (tokens_behind (Some packet) packets)
    else tokens_behind before packets

-- the sections of a piece of which these bytes are known, with what comes up to the next mark
abbrev pub sections_of_open : Option (List ℕ) → List ℕ → List (List ℕ)
sections_of_open None bytes = []
sections_of_open (Some piece) bytes = sections_of_piece (piece ++ bytes)

abbrev pub sections_of_tokens : List Token → List (List ℕ)
sections_of_tokens tokens = flat_map sections_of_piece (pieces tokens)

-- the sections of an open piece, of the present run behind it, and of later runs
abbrev pub sections_from : Option (List ℕ) → Tokens → List (List ℕ)
sections_from piece tokens =
    sections_of_open piece (bytes_to_mark tokens.present)
    ++ (sections_of_tokens tokens.present ++ flat_map sections_of_tokens tokens.later)

-- the sections that an assembler that keeps this has still to give, where these packets come behind
abbrev pub sections_ahead : Kept → List (List ℕ) → List (List ℕ)
sections_ahead kept packets =
    sections_from kept.piece (in_front true kept.pending (tokens_behind kept.before packets))

-- of these packets, with others behind them, the sections behind those given are the ones ahead
abbrev pub TellsAhead : Kept → List (List ℕ) → List (List ℕ) → Type 0
TellsAhead kept packets given =
    (behind : List (List ℕ)) → sections (packets ++ behind) ≡ given ++ sections_ahead kept behind
