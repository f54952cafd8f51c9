-- A message that is written is carried by its section.
use Rattle.std.proofs.Common.{◌≡◌, ℕ, ◌+◌, ◌^◌, ◌<◌, List, [], ◌∷◌, ◌++◌, length, map, refl, sym, ap, ◌∙◌, arith, append-nil, length-append, Some}
use Rattle.std.specs.List.{All}
use Rattle.std.proofs.lemmas.List.Elements.{All-nil, All-cons, All-head, All-tail}
use Rattle.bml_bytes.specs.Numbers.{big_bytes}
use Rattle.dsmcc_messages.specs.declared.message.MessageKind.{MessageKind}
use Rattle.dsmcc_messages.specs.declared.dii.Dii.{Dii}
use Rattle.dsmcc_messages.specs.Message.{indication, data_block, kind_bytes, Carries}
use Rattle.dsmcc_messages.specs.Dii.{IsDii}
use Rattle.dsmcc_messages.specs.Ddb.{DataBlock, IsDdb}
use Rattle.carousel_blocks.specs.Message.{Message, Indication, Data, CarriesMessage, message_of, messages_of}
use Rattle.ts_sections.specs.Intact.{IsIntact}
use Rattle.ts_sections.specs.Sending.{IsSection}
use Rattle.section_writer.specs.Sections.{section_bytes}
use Rattle.carousel_writer.specs.Messages.{head_of, message_bytes, dii_payload, ddb_payload, message_section}
use Rattle.carousel_writer.proofs.Fits.{DiiFits, DdbFits, MessageFits}
use Rattle.carousel_writer.specs.devices.LawsBelow.{Below, HaveCount}
use Rattle.carousel_writer.proofs.SectionLaws.{body-written, length-section}

Carries-written : (kind : MessageKind) (identifier : ℕ) (payload : List ℕ) → identifier < 2 ^ 32 → length payload < 2 ^ 16 → Carries kind (section_bytes (head_of kind.table_id) (message_bytes kind identifier payload)) identifier payload
Carries-written kind identifier payload h fits = record {
  reserved = 0;
  adaptation = [];
  behind = [];
  identifier_fits = h;
  message_fits = fits;
  table = refl;
  written = body-written (head_of kind.table_id) (message_bytes kind identifier payload)
      ∙ ap (λ x. x ++ payload) (sym (append-nil (kind_bytes kind ++ big_bytes 4 identifier ++ 0 ∷ 0 ∷ [] ++ big_bytes 2 (length payload))))
      ∙ sym (append-nil (kind_bytes kind ++ big_bytes 4 identifier ++ 0 ∷ 0 ∷ [] ++ big_bytes 2 (length payload) ++ [] ++ payload));
}

IsDii-written : (dii : Dii) → DiiFits dii → IsDii (message_section (Indication dii)) dii
IsDii-written dii h = record {
  window_size = 0;
  ack_period = 0;
  download_window = 0;
  download_scenario = 0;
  compatibility = [];
  private_data = [];
  download_fits = h.download;
  block_size_fits = h.block_size;
  download_window_fits = omega arith;
  download_scenario_fits = omega arith;
  compatibility_fits = omega arith;
  modules_fit = h.modules;
  entries_fit = h.entries;
  private_data_fits = omega arith;
  carried = simp append-nil (Carries-written indication dii.transaction (dii_payload dii) h.transaction (omega (arith, h.section)));
}

IsDdb-written : (ddb : DataBlock) → DdbFits ddb → IsDdb (message_section (Data ddb)) ddb
IsDdb-written ddb h = record {
  reserved = 0;
  module_fits = h.module_id;
  number_fits = h.number;
  carried = Carries-written data_block ddb.download (ddb_payload ddb) h.download (omega (arith, h.section));
}

pub carried : (message : Message) → MessageFits message → CarriesMessage (message_section message) message
carried (Indication dii) h = IsDii-written dii h
carried (Data ddb) h = IsDdb-written ddb h

length-message : HaveCount → (kind : MessageKind) (identifier : ℕ) (payload : List ℕ) → length (message_bytes kind identifier payload) ≡ length payload + 12
length-message count kind identifier payload = omega (
  arith,
  count 2 kind.message_id,
  count 4 identifier,
  count 2 (length payload),
  length-append (kind_bytes kind) (big_bytes 4 identifier),
  length-append (kind_bytes kind ++ big_bytes 4 identifier) (0 ∷ 0 ∷ []),
  length-append (kind_bytes kind ++ big_bytes 4 identifier ++ 0 ∷ 0 ∷ []) (big_bytes 2 (length payload)),
  length-append (kind_bytes kind ++ big_bytes 4 identifier ++ 0 ∷ 0 ∷ [] ++ big_bytes 2 (length payload)) payload,
)

pub length-indication : HaveCount → (dii : Dii) → length (message_section (Indication dii)) ≡ length (dii_payload dii) + 24
length-indication count dii =
    omega (arith, length-section (head_of 0x3B) (message_bytes indication dii.transaction (dii_payload dii)), length-message count indication dii.transaction (dii_payload dii))

pub intact : Below → (message : Message) → MessageFits message → IsIntact (message_section message)
intact laws (Indication dii) h = laws.intact (head_of 0x3B) (message_bytes indication dii.transaction (dii_payload dii)) (omega (arith, h.section, length-message laws.limits.count indication dii.transaction (dii_payload dii)))
intact laws (Data ddb) h = laws.intact (head_of 0x3C) (message_bytes data_block ddb.download (ddb_payload ddb)) (omega (arith, h.section, length-message laws.limits.count data_block ddb.download (ddb_payload ddb)))

pub is_section : Below → (message : Message) → MessageFits message → IsSection (message_section message)
is_section laws (Indication dii) h = laws.one (head_of 0x3B) (message_bytes indication dii.transaction (dii_payload dii)) (omega arith) (omega (arith, h.section, length-message laws.limits.count indication dii.transaction (dii_payload dii)))
is_section laws (Data ddb) h = laws.one (head_of 0x3C) (message_bytes data_block ddb.download (ddb_payload ddb)) (omega arith) (omega (arith, h.section, length-message laws.limits.count data_block ddb.download (ddb_payload ddb)))

pub messages-written : Below → (messages : List Message) → All MessageFits messages → messages_of (map message_section messages) ≡ messages
messages-written laws [] h = refl
messages-written laws (message ∷ messages) h =
    let e : message_of (message_section message) ≡ Some message = (laws.messages (message_section message) message).0 (carried message (All-head MessageFits message messages h)) in
    rw e (ap (λ x. message ∷ x) (messages-written laws messages (All-tail MessageFits message messages h)))

pub all-intact : Below → (messages : List Message) → All MessageFits messages → All IsIntact (map message_section messages)
all-intact laws [] h = All-nil IsIntact
all-intact laws (message ∷ messages) h = All-cons IsIntact _ _ (intact laws message (All-head MessageFits message messages h)) (all-intact laws messages (All-tail MessageFits message messages h))

pub all-sections : Below → (messages : List Message) → All MessageFits messages → All IsSection (map message_section messages)
all-sections laws [] h = All-nil IsSection
all-sections laws (message ∷ messages) h = All-cons IsSection _ _ (is_section laws message (All-head MessageFits message messages h)) (all-sections laws messages (All-tail MessageFits message messages h))
