-- Download messages of DSM-CC in sections (ISO/IEC 13818-6): where a section has its message, of which kind
-- it is, and how its header is written. Numbers are big-endian.
use Rattle.std.specs.Prelude.{◌≡◌, ◌<◌, ◌^◌, ℕ, List, [], ◌∷◌, ◌++◌, length, slice_index}
use Rattle.bml_bytes.specs.Numbers.{big_bytes}
use Rattle.table_fields.specs.Sections.{body}
use Rattle.dsmcc_messages.specs.declared.message.MessageKind.{MessageKind}

-- A kind of message is the table_id of the sections that carry it (ISO/IEC 13818-6, 9.2) and the messageId
-- in its header (7.3). That of a DownloadInfoIndication:
abbrev pub indication : MessageKind
indication = record { table_id = 0x3B; message_id = 0x1002 }

-- and that of a DownloadDataBlock
abbrev pub data_block : MessageKind
data_block = record { table_id = 0x3C; message_id = 0x1003 }

-- what a message header begins with: protocolDiscriminator 0x11 of DSM-CC, dsmccType 0x03 of downloads, and
-- the messageId (ISO/IEC 13818-6, 7.2)
abbrev pub kind_bytes : MessageKind → List ℕ
kind_bytes kind = 0x11 ∷ 0x03 ∷ big_bytes 2 kind.message_id

-- the two lists are the same as far as both go
abbrev pub Agree : List ℕ → List ℕ → Type 0
Agree xs ys = (place : ℕ) → place < length xs → place < length ys → slice_index xs place ≡ slice_index ys place

-- The section is of a kind where its table_id and the first bytes of its body are those of the kind, as far
-- as it has them.
pub record IsOfKind (kind : MessageKind) (section : List ℕ) : Type 0 where
  pub table : slice_index section 0 ≡ kind.table_id
  pub header : Agree (kind_bytes kind) (body section)

-- The section carries a message of that kind with this identifier, which is the transactionId of an
-- indication and the downloadId of a data block, and with this payload (ISO/IEC 13818-6, 7.2). Its header is
-- dsmccMessageHeader or dsmccDownloadDataHeader: the bytes of the kind, the identifier, a reserved byte,
-- adaptationLength and messageLength, which counts the adaptation bytes and the payload. The reserved byte,
-- the adaptation bytes and what stands in the body behind the message are any bytes. A section is a list of
-- bytes, so a field of one byte needs no bound of its own.
pub record Carries (kind : MessageKind) (section : List ℕ) (identifier : ℕ) (payload : List ℕ) : Type 0 where
  pub reserved : ℕ
  pub adaptation : List ℕ
  pub behind : List ℕ
  pub identifier_fits : identifier < 2 ^ 32
  pub message_fits : length (adaptation ++ payload) < 2 ^ 16
  pub table : slice_index section 0 ≡ kind.table_id
  pub written : body section
      ≡ kind_bytes kind ++ big_bytes 4 identifier ++ reserved ∷ length adaptation ∷ []
      ++ big_bytes 2 (length (adaptation ++ payload)) ++ adaptation ++ payload ++ behind
