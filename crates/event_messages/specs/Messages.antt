-- Event messages in sections (ISO/IEC 13818-6, 9.2, for the table_id of a section with stream descriptors; the event
-- message descriptor is after ARIB STD-B24, volume 3, in this project's own layout).
use Rattle.std.specs.Prelude.{◌≡◌, ◌<◌, ◌+◌, ◌*◌, ◌^◌, ◌⊎◌, ℕ, List, [], ◌∷◌, ◌++◌, length, slice_index}
use Rattle.bml_bytes.specs.Codes.{codes}
use Rattle.bml_bytes.specs.Numbers.{big_bytes}
use Rattle.table_fields.specs.Descriptors.{Descriptor, AreDescriptors}
use Rattle.table_fields.specs.Sections.{body}
use Rattle.event_messages.specs.declared.messages.Message.{Message}

-- the table_id of a section whose body is stream descriptors
abbrev pub descriptor_table : ℕ
descriptor_table = 0x3D

-- the tag of an event message descriptor
abbrev pub message_tag : ℕ
message_tag = 0x40

-- the time_mode of an event that happens as soon as its message comes
abbrev pub immediate : ℕ
immediate = 0

-- The bytes are these fields of an event message. They are event_msg_group_id in 12 bits and four reserved bits,
-- time_mode, 40 bits that mean nothing in this time mode, event_msg_type, event_msg_id, and private bytes. The upper
-- byte of event_msg_id is the message's id and the lower one its version; the private bytes are its text.
pub record AreFields (message : Message) (bytes : List ℕ) : Type 0 where
  pub reserved : ℕ
  pub time : List ℕ
  pub private_bytes : List ℕ
  pub group_fits : message.group < 2 ^ 12
  pub reserved_fits : reserved < 2 ^ 4
  pub time_size : length time ≡ 5
  pub text : message.extra ≡ codes private_bytes
  pub written : bytes ≡ big_bytes 2 (message.group * 2 ^ 4 + reserved)
      ++ (immediate ∷ (time ++ (message.kind ∷ message.id ∷ message.version ∷ private_bytes)))

-- the descriptor is this event message
abbrev pub IsMessage : Descriptor → Message → Type 0
IsMessage descriptor message = (descriptor.tag ≡ message_tag) × AreFields message descriptor.bytes

-- The messages of some descriptors, in their order. A descriptor that is no event message is left out: one of another
-- tag, of another time_mode, or with too few bytes (this project's own rule).
abbrev pub AreMessages : List Descriptor → List Message → Type 0
AreMessages [] messages = messages ≡ []
AreMessages (descriptor ∷ descriptors) messages =
    ((message : Message) × (others : List Message) × (messages ≡ message ∷ others) × IsMessage descriptor message × AreMessages descriptors others)
    ⊎ (((message : Message) → ¬ IsMessage descriptor message) × AreMessages descriptors messages)

-- the section has stream descriptors, laid end to end in its body, and these are their messages
pub record HasMessages (section : List ℕ) (messages : List Message) : Type 0 where
  pub descriptors : List Descriptor
  pub of_table : slice_index section 0 ≡ descriptor_table
  pub laid : AreDescriptors (body section) descriptors
  pub found : AreMessages descriptors messages
