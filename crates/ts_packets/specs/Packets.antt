-- The packets of a byte list. A transport stream is packets laid end to end (ISO/IEC 13818-1,
-- 2.4.3.1); where one stands in bytes that may hold anything is this project's own search.
use Rattle.std.specs.Prelude.{◌≡◌, ℕ, zero, suc, ◌+◌, ◌≤◌, ◌==◌, Bool, ◌&&◌, ◌||◌, List, [], ◌∷◌, length, take, drop, slice_index, ◌⊎◌, if◌then◌else◌}
use Rattle.ts_packets.specs.Packet.{sync_byte}

-- A packet stands at a place: the sync byte is there, and 188 bytes on it is there again, or the
-- bytes end. (Past the end of a list `slice_index` is 0, which is no sync byte.)
pub record StandsAt (bytes : List ℕ) (place : ℕ) : Type 0 where
  pub sync : slice_index bytes place ≡ sync_byte
  pub behind : (slice_index bytes (place + 188) ≡ sync_byte) ⊎ (length bytes ≡ place + 188)

-- the least place where a packet stands
pub record IsFirstPlace (bytes : List ℕ) (place : ℕ) : Type 0 where
  pub stands : StandsAt bytes place
  pub least : (other : ℕ) → StandsAt bytes other → place ≤ other

-- These are the packets of the bytes. None: a packet stands nowhere. Some: the first is the 188
-- bytes at the least place where one stands, and the others are the packets of what is behind it.
abbrev pub ArePackets : List ℕ → List (List ℕ) → Type 0
ArePackets bytes [] = (place : ℕ) → ¬ (StandsAt bytes place)
ArePackets bytes (packet ∷ packets) =
    (place : ℕ)
    × (IsFirstPlace bytes place
    × (packet ≡ take 188 (drop place bytes))
    × ArePackets (drop (place + 188) bytes) packets)

-- a packet stands at the front
abbrev pub stands_first : List ℕ → Bool
stands_first bytes =
    (slice_index bytes 0 == sync_byte)
    && ((slice_index bytes 188 == sync_byte) || (length bytes == 188))

-- the packets behind the next k bytes: of the bytes that are left one is skipped, or 188 are a
-- packet
unfoldable pub packets_after : ℕ → List ℕ → List (List ℕ)
packets_after k [] = []
packets_after (suc k) (x ∷ bytes) = packets_after k bytes
packets_after zero (x ∷ bytes) =
    if stands_first (x ∷ bytes)
    then take 188 (x ∷ bytes) ∷ packets_after 187 bytes
    else packets_after 0 bytes

-- the packets of the bytes, as a function: the one list for which `ArePackets` holds
unfoldable pub packets_of : List ℕ → List (List ℕ)
packets_of bytes = packets_after 0 bytes
