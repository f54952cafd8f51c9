-- A transport packet as the list of its bytes, and the fields of its header.
-- ISO/IEC 13818-1, 2.4.3.2 (syntax of the transport packet) and 2.4.3.3 (semantics of its fields).
use Rattle.std.specs.Prelude.{◌≡◌, ℕ, ◌+◌, ◌*◌, ◌/◌, ◌%◌, ◌^◌, ◌==◌, nat_le, Bool, not, ◌&&◌, List, Option, Some, None, length, drop, slice_index, is_some, if◌then◌else◌}

-- the first byte of every packet (2.4.3.3, sync_byte)
abbrev pub sync_byte : ℕ
sync_byte = 0x47

-- a packet has 188 bytes, the first of which is the sync byte (2.4.3.2)
pub record IsPacket (packet : List ℕ) : Type 0 where
  pub size : length packet ≡ 188
  pub sync : slice_index packet 0 ≡ sync_byte

-- the number that `count` bits of a byte make, the lowest of them bit number `lowest`
abbrev pub bits_of : ℕ → ℕ → ℕ → ℕ
bits_of byte lowest count = byte / 2 ^ lowest % 2 ^ count

-- transport_error_indicator (2.4.3.3): the top bit of byte 1
abbrev pub has_error : List ℕ → Bool
has_error packet = bits_of (slice_index packet 1) 7 1 == 1

-- payload_unit_start_indicator (2.4.3.3): bit 6 of byte 1
abbrev pub starts_unit : List ℕ → Bool
starts_unit packet = bits_of (slice_index packet 1) 6 1 == 1

-- PID (2.4.3.3): 13 bits, the low five of byte 1 and the whole of byte 2
abbrev pub pid_of : List ℕ → ℕ
pid_of packet = bits_of (slice_index packet 1) 0 5 * 256 + slice_index packet 2

-- transport_scrambling_control (2.4.3.3, table 2-4): the top two bits of byte 3; 0 is not scrambled
abbrev pub scrambling_of : List ℕ → ℕ
scrambling_of packet = bits_of (slice_index packet 3) 6 2

abbrev pub is_scrambled : List ℕ → Bool
is_scrambled packet = not (scrambling_of packet == 0)

-- adaptation_field_control (2.4.3.3, table 2-5): bits 5 and 4 of byte 3;
-- 1 is payload alone, 2 adaptation field alone, 3 adaptation field and then payload, 0 reserved
abbrev pub adaptation_control_of : List ℕ → ℕ
adaptation_control_of packet = bits_of (slice_index packet 3) 4 2

-- continuity_counter (2.4.3.3): the low four bits of byte 3
abbrev pub counter_of : List ℕ → ℕ
counter_of packet = bits_of (slice_index packet 3) 0 4

-- adaptation_field_length (2.4.3.5): byte 4, the number of bytes of the field behind this byte
abbrev pub adaptation_length_of : List ℕ → ℕ
adaptation_length_of packet = slice_index packet 4

-- the payload (2.4.3.3, data_byte): everything behind the four bytes of the header and the
-- adaptation field. There is none where the control says so, and, this project's reading, none
-- where the adaptation field leaves no byte or passes the packet's end: where both are there, its
-- length is 0 to 182 (2.4.3.5).
abbrev pub payload_of : List ℕ → Option (List ℕ)
payload_of packet =
    if adaptation_control_of packet == 1
    then Some (drop 4 packet)
    else (if (adaptation_control_of packet == 3) && nat_le (adaptation_length_of packet) 182
    then Some (drop (5 + adaptation_length_of packet) packet)
    else None)

-- the packet says something: no error, not scrambled, and a payload, which then has at least one
-- byte
abbrev pub is_readable : List ℕ → Bool
is_readable packet =
    not (has_error packet) && (not (is_scrambled packet) && is_some (payload_of packet))
