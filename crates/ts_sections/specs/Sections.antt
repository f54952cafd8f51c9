-- The sections that the packets of one PID carry, as functions of whole lists (ISO/IEC 13818-1,
-- 2.4.4). Leave out what isn't read and repeats; cut into runs of following counters; join each
-- run's payloads; cut at the marks; cut each marked piece into sections laid end to end. A packet,
-- a piece and a section are each the list of its bytes.
use Rattle.std.specs.Prelude.{ℕ, zero, suc, ◌+◌, ◌-◌, ◌*◌, ◌%◌, ◌==◌, nat_le, Bool, false, not, ◌&&◌, List, [], ◌∷◌, ◌++◌, length, take, drop, map, filter, slice_index, unwrap_or, if◌then◌else◌}
use Rattle.std.specs.List.{flat_map}
use Rattle.std.specs.Str.{bytes_eq}
use Rattle.ts_packets.specs.Packet.{is_readable, payload_of, starts_unit, counter_of}

-- ---- the packets that count

-- those that are read: transport_error_indicator 0, transport_scrambling_control 0, and a payload of at
-- least one byte, by adaptation_field_control and the field's length (2.4.3.2, 2.4.3.3)
abbrev pub readable_packets : List (List ℕ) → List (List ℕ)
readable_packets packets = filter is_readable packets

-- what comes behind the packet `before`, without each packet that is the one before it again, byte
-- for byte
abbrev pub unrepeated : List ℕ → List (List ℕ) → List (List ℕ)
unrepeated before [] = []
unrepeated before (packet ∷ rest) =
    if bytes_eq before packet then unrepeated before rest else packet ∷ unrepeated packet rest

-- a packet may be sent twice in a row and counts once (2.4.3.3, continuity_counter). That it counts
-- once however often it is sent, that a repeat is one byte for byte, and that a packet whose pointer
-- passes its payload may be repeated too, are this project's own rules; discontinuity_indicator isn't
-- looked at.
abbrev pub without_repeats : List (List ℕ) → List (List ℕ)
without_repeats [] = []
without_repeats (packet ∷ rest) = packet ∷ unrepeated packet rest

-- ---- payloads

-- the bytes of the payload (2.4.3.3, data_byte)
abbrev pub payload : List ℕ → List ℕ
payload packet = unwrap_or (payload_of packet) []

-- what a run of packets carries: bytes, and between them the marks at which a section begins
pub data Token : Type 0 where
  Byte : ℕ → Token
  Mark : Token

-- pointer_field (2.4.4.1, 2.4.4.2): how many bytes stand between it and the first section that
-- begins in the packet. It may not pass the payload; at the payload's very end the section begins
-- with the next packet.
abbrev pub pointer_fits : List ℕ → Bool
pointer_fits [] = false
pointer_fits (pointer ∷ bytes) = nat_le pointer (length bytes)

-- a payload that begins with a pointer field: without it, and with the mark that it stands for.
-- Where the pointer passes the payload there is nothing to read.
abbrev pub marked : List ℕ → List Token
marked [] = []
marked (pointer ∷ bytes) =
    if nat_le pointer (length bytes)
    then map Byte (take pointer bytes) ++ Mark ∷ map Byte (drop pointer bytes)
    else []

-- what one packet carries: where a unit starts in it (payload_unit_start_indicator 1), its payload begins with a
-- pointer field
abbrev pub tokens_of_packet : List ℕ → List Token
tokens_of_packet packet =
    if starts_unit packet then marked (payload packet) else map Byte (payload packet)

-- ---- runs of packets that follow each other

-- the pointer field of the packet passes its payload
abbrev pub pointer_passes : List ℕ → Bool
pointer_passes packet = starts_unit packet && not (pointer_fits (payload packet))

-- the packet goes on with what `before` carries: no packet is lost between them (2.4.3.3,
-- continuity_counter), and its pointer doesn't pass its payload, which begins a run too (this
-- project's own)
abbrev pub follows : List ℕ → List ℕ → Bool
follows before packet =
    (counter_of packet == (counter_of before + 1) % 16) && not (pointer_passes packet)

-- the packet in front of the first of these runs
abbrev pub onto_first_run : List ℕ → List (List (List ℕ)) → List (List (List ℕ))
onto_first_run packet [] = (packet ∷ []) ∷ []
onto_first_run packet (run ∷ later) = (packet ∷ run) ∷ later

-- cut before each packet that doesn't follow the one before it
abbrev pub runs : List (List ℕ) → List (List (List ℕ))
runs [] = []
runs (before ∷ []) = (before ∷ []) ∷ []
runs (before ∷ packet ∷ rest) =
    if follows before packet
    then onto_first_run before (runs (packet ∷ rest))
    else (before ∷ []) ∷ runs (packet ∷ rest)

-- ---- pieces: what stands between a mark and the next

-- the bytes up to the next mark, or to the end
abbrev pub bytes_to_mark : List Token → List ℕ
bytes_to_mark [] = []
bytes_to_mark (Byte byte ∷ tokens) = byte ∷ bytes_to_mark tokens
bytes_to_mark (Mark ∷ tokens) = []

-- cut at the marks. Each mark begins a piece; what stands before the first is unread.
abbrev pub pieces : List Token → List (List ℕ)
pieces [] = []
pieces (Byte byte ∷ tokens) = pieces tokens
pieces (Mark ∷ tokens) = bytes_to_mark tokens ∷ pieces tokens

-- the payloads of a run, joined and cut at the marks
abbrev pub pieces_of_run : List (List ℕ) → List (List ℕ)
pieces_of_run run = pieces (flat_map tokens_of_packet run)

-- ---- sections laid end to end

-- the size of the section that begins these bytes: three bytes, and section_length more,
-- which is the low 12 bits of the second and third of them (2.4.4.11)
abbrev pub section_size : List ℕ → ℕ
section_size bytes = 3 + ((slice_index bytes 1 % 16) * 256 + slice_index bytes 2)

-- a whole section begins these bytes. 0xFF where one should begin is stuffing, up to the next mark
-- (2.4.4); what ends before its last byte is no section.
abbrev pub begins_whole : List ℕ → Bool
begins_whole bytes =
    not (slice_index bytes 0 == 0xFF)
    && (nat_le 3 (length bytes) && nat_le (section_size bytes) (length bytes))

-- the sections of a piece behind its first `skipped` bytes: one stands where a whole one begins,
-- and the next is behind it. Without the count: `sections_of_piece piece` is empty where no whole
-- section begins the piece, and else that section and then the sections of what is behind it (law
-- `sections_lie_end_to_end`).
unfoldable pub sections_behind : ℕ → List ℕ → List (List ℕ)
sections_behind skipped [] = []
sections_behind (suc skipped) (byte ∷ bytes) = sections_behind skipped bytes
sections_behind zero (byte ∷ bytes) =
    if begins_whole (byte ∷ bytes)
    then take (section_size (byte ∷ bytes)) (byte ∷ bytes)
    ∷ sections_behind (section_size (byte ∷ bytes) - 1) bytes
    else []

abbrev pub sections_of_piece : List ℕ → List (List ℕ)
sections_of_piece piece = sections_behind 0 piece

-- ---- all of it

-- the sections that these packets of one PID carry, in their order
abbrev pub sections : List (List ℕ) → List (List ℕ)
sections packets =
    flat_map sections_of_piece
    (flat_map pieces_of_run (runs (without_repeats (readable_packets packets))))

-- the sections that the packet completes behind these
abbrev pub completed_by : List (List ℕ) → List ℕ → List (List ℕ)
completed_by packets packet = drop (length (sections packets)) (sections (packets ++ packet ∷ []))
