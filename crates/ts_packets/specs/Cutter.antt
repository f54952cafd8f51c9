-- What a cutter holds of a stream that comes in pieces. This project's own.
use Rattle.std.specs.Prelude.{◌≡◌, ℕ, ◌+◌, ◌-◌, ◌≤◌, Bool, true, false, List, [], ◌++◌, length, drop, slice_index, ◌⊎◌}
use Rattle.ts_packets.specs.Packet.{sync_byte}
use Rattle.ts_packets.specs.Packets.{packets_of}

-- the bytes that were fed and are neither skipped nor given as a packet, and whether the stream's
-- end was told
pub record CutterState : Type 0 where
  pub held : List ℕ
  pub ended : Bool

-- the most bytes that a cutter holds
abbrev pub capacity : ℕ
capacity = 4096

-- bytes that the stream may still bring: any before its end was told, none afterwards
abbrev pub MayFollow : CutterState → List ℕ → Type 0
MayFollow state more = state.ended ≡ true → more ≡ []

-- Whatever follows, a packet stands at this place of what is held: the sync byte is there, and 188
-- bytes on it is there again, or what is held ends and the stream with it.
pub record IsCertainAt (state : CutterState) (place : ℕ) : Type 0 where
  pub sync : slice_index state.held place ≡ sync_byte
  pub behind : (slice_index state.held (place + 188) ≡ sync_byte)
      ⊎ ((state.ended ≡ true) × (length state.held ≡ place + 188))

-- the least such place
pub record IsFirstCertain (state : CutterState) (place : ℕ) : Type 0 where
  pub certain : IsCertainAt state place
  pub least : (other : ℕ) → IsCertainAt state other → place ≤ other

-- a packet can be cut from what is held
abbrev pub HoldsPacket : CutterState → Type 0
HoldsPacket state = (place : ℕ) × IsCertainAt state place

-- no end was told, and no packet can be cut before more bytes come
pub record IsWaiting (state : CutterState) : Type 0 where
  pub open_end : state.ended ≡ false
  pub none : (place : ℕ) → ¬ (IsCertainAt state place)

-- the end was told, and no packet is left
pub record IsOver (state : CutterState) : Type 0 where
  pub ended : state.ended ≡ true
  pub none : packets_of state.held ≡ []

-- bytes were left out at the front of what was held, and nothing else changed
pub record DropsFront (old new : CutterState) : Type 0 where
  pub held : new.held ≡ drop (length old.held - length new.held) old.held
  pub shorter : length new.held ≤ length old.held
  pub ended : new.ended ≡ old.ended

-- Whatever follows, the packets of the stream from here are those given, and then those from the
-- new state.
abbrev pub Gives : CutterState → List (List ℕ) → CutterState → Type 0
Gives old given new =
    (more : List ℕ) → MayFollow old more
    → packets_of (old.held ++ more) ≡ given ++ packets_of (new.held ++ more)

-- A cutter stands for the bytes of a stream, of which these packets were given: whatever follows,
-- the packets of the whole stream are those given, and then those of what is held and what follows.
abbrev pub StandsFor : CutterState → List ℕ → List (List ℕ) → Type 0
StandsFor state bytes given =
    (more : List ℕ) → MayFollow state more
    → packets_of (bytes ++ more) ≡ given ++ packets_of (state.held ++ more)
