-- What the answers of a cutter give. (This project's own.)
use Rattle.std.specs.Prelude.{ℕ, List, [], ◌∷◌, ◌++◌}
use Rattle.ts_packets.specs.declared.cutter.Cut.{Cut}
use Rattle.ts_packets.specs.declared.cutter.Cut.TheVariants.{Packet, NeedMore, End}

-- the packets in an answer: one or none
abbrev pub packets_in : Cut → List (List ℕ)
packets_in (Packet packet) = packet ∷ []
packets_in NeedMore = []
packets_in End = []

-- the packets given so far, and behind them that of an answer
abbrev pub with_cut : List (List ℕ) → Cut → List (List ℕ)
with_cut given (Packet packet) = given ++ packet ∷ []
with_cut given NeedMore = given
with_cut given End = given

-- the answer is a packet
abbrev pub IsPacketCut : Cut → Type 0
IsPacketCut (Packet packet) = Unit {0}
IsPacketCut NeedMore = ⊥
IsPacketCut End = ⊥
