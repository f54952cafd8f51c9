-- What the items of a record hand to a receiver, over the packets of a stream. This project's own.
use Rattle.std.specs.Prelude.{ℕ, Bool, true, false, List, [], ◌∷◌, ◌++◌, map, take, drop, count_by}
use Rattle.receiver_core.specs.Outputs.{Input, input_of}
use Rattle.receiver_core.specs.Outputs.Input.{Packet, Tick as Passing}
use Rattle.receiver_core.specs.Receiving.{MayCome}
use Rattle.replay_run.specs.declared.record.RecordItem.{RecordItem}
use Rattle.replay_run.specs.declared.record.RecordItem.TheVariants.{All, Packets, Tick, Input as Other}

-- what an item hands over where these packets are left: the packets that it takes, time that
-- passes, or one other input
abbrev pub inputs_of_item : RecordItem → List (List ℕ) → List Input
inputs_of_item All packets = map Packet packets
inputs_of_item (Packets count) packets = map Packet (take count packets)
inputs_of_item (Tick count) packets = Passing count ∷ []
inputs_of_item (Other input) packets = input_of input ∷ []

-- and the packets that it leaves
abbrev pub packets_behind : RecordItem → List (List ℕ) → List (List ℕ)
packets_behind All packets = []
packets_behind (Packets count) packets = drop count packets
packets_behind (Tick count) packets = packets
packets_behind (Other input) packets = packets

-- how many milliseconds an item lets pass
abbrev pub milliseconds_of : RecordItem → ℕ
milliseconds_of All = 0
milliseconds_of (Packets count) = 0
milliseconds_of (Tick count) = count
milliseconds_of (Other input) = 0

-- an item may be handled: a date that it hands over is one
abbrev pub MayBeHandled : RecordItem → Type 0
MayBeHandled All = Unit {0}
MayBeHandled (Packets count) = Unit {0}
MayBeHandled (Tick count) = Unit {0}
MayBeHandled (Other input) = MayCome input

-- what items hand over, one after the other
unfoldable pub inputs_of : List (List ℕ) → List RecordItem → List Input
inputs_of packets [] = []
inputs_of packets (item ∷ items) =
    inputs_of_item item packets ++ inputs_of (packets_behind item packets) items

-- the packets that they leave
unfoldable pub packets_left : List (List ℕ) → List RecordItem → List (List ℕ)
packets_left packets [] = packets
packets_left packets (item ∷ items) = packets_left (packets_behind item packets) items

-- how many packets were taken
abbrev pub is_packet : Input → Bool
is_packet (Packet packet) = true
is_packet _ = false

abbrev pub packet_count : List Input → ℕ
packet_count inputs = count_by is_packet inputs
