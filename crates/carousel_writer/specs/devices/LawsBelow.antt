-- A device of the proofs: the laws of the crates below on which they stand, as one record. (This project's own.)
use Rattle.std.specs.Prelude.{◌≡◌, ◌≢◌, ◌↔◌, ◌+◌, ◌*◌, ◌<◌, ◌≤◌, ◌==◌, ℕ, true, false, List, [], ◌∷◌, ◌++◌, length, Some, None, filter, is_some, option_map, codes as ascii}
use Rattle.std.specs.List.{All, list_any}
use Rattle.bml_bytes.specs.Codes.{IsByteOrPair, bytes_of, codes}
use Rattle.bml_bytes.specs.Numbers.{big_bytes}
use Rattle.bml_bytes.specs.Words.{is_same}
use Rattle.multipart_entities.specs.Boundaries.{delimiter_at, placed_delimiters}
use Rattle.multipart_entities.specs.Lines.{behind_first, line_then, lines_of}
use Rattle.ts_packets.specs.Packets.{packets_of}
use Rattle.ts_sections.specs.Intact.{IsIntact}
use Rattle.ts_sections.specs.Sending.{IsSection}
use Rattle.section_writer.specs.declared.heads.SectionHead.{SectionHead}
use Rattle.section_writer.specs.Packets.{stream_bytes, stream_packets}
use Rattle.section_writer.specs.Received.{sections_on}
use Rattle.section_writer.specs.Sections.{section_bytes}
use Rattle.table_fields.specs.Descriptors.{AreDescriptors, Descriptor, descriptors_in}
use Rattle.dsmcc_messages.specs.declared.dii.Dii.{Dii}
use Rattle.dsmcc_messages.specs.declared.entry.Entry.{Entry}
use Rattle.carousel_blocks.specs.declared.standing.SkipCause.TheVariants.{Compressed, Large}
use Rattle.carousel_blocks.specs.declared.standing.Standing.{Standing}
use Rattle.carousel_blocks.specs.Message.{CarriesMessage, Indication, Message, message_of}
use Rattle.carousel_blocks.specs.InForce.{block_count, in_force, is_compressed, standing_of}
use Rattle.carousel_blocks.specs.Entries.{CountsAsEntry, IsLargeAt, skip_in}
use Rattle.carousel_blocks.specs.Held.{bytes_held, counting_blocks, first_of, is_asked}
use Rattle.carousel_blocks.specs.Order.{OnlyRepeats, data_of}
use Rattle.carousel_blocks.specs.Places.{IsFirstBlock, IsHeld}

-- a number in so many bytes has so many
abbrev pub HaveCount : Type 0
HaveCount = (count number : ℕ) → length (big_bytes count number) ≡ count

-- what a DII's entries say
pub record Limits : Type 0 where
  pub count : HaveCount
  pub descriptors : (bytes : List ℕ) (descriptors : List Descriptor) → AreDescriptors bytes descriptors ↔ (descriptors_in bytes ≡ Some descriptors)
  pub block_counts : (block_size size count : ℕ) → 0 < block_size → (size ≤ count * block_size) ↔ (block_count block_size size ≤ count)
  pub compressed : (dii : Dii) (place : ℕ) (entry : Entry) → CountsAsEntry dii place entry → (skip_in dii entry.id ≡ Some Compressed) ↔ (is_compressed entry ≡ true)
  pub large : (dii : Dii) (place : ℕ) (entry : Entry) → CountsAsEntry dii place entry → (skip_in dii entry.id ≡ Some Large) ↔ IsLargeAt dii place entry

-- and what is read of packets, sections and messages
pub record Below : Type 0 where
  pub limits : Limits
  pub cut : (pid : ℕ) (sent : List (List ℕ)) → packets_of (stream_bytes pid sent) ≡ stream_packets pid sent
  pub read : (pid : ℕ) (sent : List (List ℕ)) → pid < 8192 → All IsSection sent → sections_on pid (stream_bytes pid sent) ≡ sent
  pub intact : (head : SectionHead) (body : List ℕ) → length body ≤ 4084 → IsIntact (section_bytes head body)
  pub one : (head : SectionHead) (body : List ℕ) → head.table_id ≢ 0xFF → length body ≤ 4084 → IsSection (section_bytes head body)
  pub messages : (section : List ℕ) (message : Message) → CarriesMessage section message ↔ (message_of section ≡ Some message)
  pub entry : (dii : Dii) (place : ℕ) (entry : Entry) → CountsAsEntry dii place entry → option_map (λ standing. standing.entry) (standing_of (Some dii) entry.id) ≡ Some entry
  pub absent : (dii : Dii) (number : ℕ) → is_some (standing_of (Some dii) number) ≡ list_any (λ entry. entry.id == number) dii.entries
  pub download : (dii : Dii) (number : ℕ) (standing : Standing) → standing_of (Some dii) number ≡ Some standing → standing.download ≡ dii.download
  pub block_size : (dii : Dii) (number : ℕ) (standing : Standing) → standing_of (Some dii) number ≡ Some standing → standing.block_size ≡ dii.block_size
  pub stays_in_force : (dii : Dii) (messages : List Message) → OnlyRepeats dii.transaction messages → in_force (Indication dii ∷ messages) ≡ Some dii
  pub counting : (dii : Dii) (messages : List Message) (number : ℕ) (standing : Standing) → OnlyRepeats dii.transaction messages → standing_of (Some dii) number ≡ Some standing
      → counting_blocks None number (Indication dii ∷ messages) ≡ filter (is_asked standing) (data_of messages)
  pub first : (messages : List Message) (number block_number : ℕ) (bytes : List ℕ) → (first_of (counting_blocks None number messages) block_number ≡ Some bytes) ↔ IsFirstBlock messages number block_number bytes
  pub held : (messages : List Message) (number : ℕ) (bytes : List ℕ) → (bytes_held messages number ≡ Some bytes) ↔ IsHeld messages number bytes

-- what is read of texts, lines and delimiter lines
pub record EntityLaws : Type 0 where
  pub own : (text : List ℕ) → codes (bytes_of text) ≡ text → All IsByteOrPair text
  pub same : (text other : List ℕ) → (is_same text other ≡ true) ↔ (text ≡ other)
  pub lines : (line rest : List ℕ) → lines_of (line_then line rest) ≡ lines_of line ++ lines_of rest
  pub one : (line : List ℕ) → All (λ byte. byte ≢ 13) line → lines_of line ≡ line ∷ []
  pub both : (boundary line rest : List ℕ) (place : ℕ) → placed_delimiters boundary place (line_then line rest) ≡ placed_delimiters boundary place line ++ placed_delimiters boundary (place + length line + 2) rest
  pub none : (boundary bytes : List ℕ) (place : ℕ) → behind_first (ascii "--" ++ boundary) bytes ≡ None → placed_delimiters boundary place bytes ≡ []
  pub inner : (boundary : List ℕ) (place : ℕ) → All (λ byte. byte ≢ 13) boundary
      → placed_delimiters boundary place (ascii "--" ++ boundary) ≡ delimiter_at (record { place = place; line = ascii "--" ++ boundary }) false ∷ []
  pub last : (boundary : List ℕ) (place : ℕ) → All (λ byte. byte ≢ 13) boundary
      → placed_delimiters boundary place (ascii "--" ++ (boundary ++ ascii "--")) ≡ delimiter_at (record { place = place; line = ascii "--" ++ (boundary ++ ascii "--") }) true ∷ []
