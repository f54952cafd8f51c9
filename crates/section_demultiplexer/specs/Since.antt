-- The packets of each PID since it was wanted without a break, told by the list of all that was
-- handed in. (This project's own.)
use Rattle.std.specs.Prelude.{◌≡◌, ◌<◌, ◌==◌, ◌&&◌, ℕ, Bool, true, if◌then◌else◌, List, [], ◌∷◌, ◌++◌, slice_get, Some}
use Rattle.ts_packets.specs.Packet.{pid_of}
use Rattle.section_demultiplexer.specs.Demultiplexing.{of_wanted, with_next}

-- a packet, or which PIDs are wanted from there on
pub data Told : Type 0 where
  Pushed : List ℕ → Told
  Followed : (ℕ → Bool) → Told

-- the PID is wanted each time that it is told which are
abbrev pub stays_wanted : ℕ → List Told → Bool
stays_wanted pid [] = true
stays_wanted pid (Pushed packet ∷ behind) = stays_wanted pid behind
stays_wanted pid (Followed wanted ∷ behind) = wanted pid && stays_wanted pid behind

-- the packet, where it is on that PID
abbrev pub packet_on : ℕ → Told → List (List ℕ)
packet_on pid (Pushed packet) = if pid_of packet == pid then packet ∷ [] else []
packet_on pid (Followed wanted) = []

-- the packets of the PID, in their order, behind which it stayed wanted
abbrev pub packets_since : List Told → ℕ → List (List ℕ)
packets_since [] pid = []
packets_since (first ∷ behind) pid =
    (if stays_wanted pid behind then packet_on pid first else []) ++ packets_since behind pid

-- The same in places of the list: the packet stands at this place, it is on the PID, and this is
-- wanted wherever it is told from there on which PIDs are.
pub record IsSince (told : List Told) (pid : ℕ) (packet : List ℕ) (place : ℕ) : Type 0 where
  pub stands : slice_get told place ≡ Some (Pushed packet)
  pub on : pid_of packet ≡ pid
  pub wanted : (other : ℕ) (wanted : ℕ → Bool) → place < other
      → slice_get told other ≡ Some (Followed wanted) → wanted pid ≡ true

-- What a demultiplexer's calls make of the packets for which it stands is what they are since each
-- PID was wanted: there are none at first, a packet more is one of its PID, and those of a PID that
-- isn't wanted are none.
pub record ArePacketsSince : Type 0 where
  pub none : (pid : ℕ) → packets_since [] pid ≡ []
  pub pushed : (told : List Told) (packet : List ℕ) (pid : ℕ)
      → packets_since (told ++ Pushed packet ∷ []) pid
      ≡ with_next (pid_of packet) packet (packets_since told) pid
  pub followed : (told : List Told) (wanted : ℕ → Bool) (pid : ℕ)
      → packets_since (told ++ Followed wanted ∷ []) pid
      ≡ of_wanted wanted (packets_since told) pid
