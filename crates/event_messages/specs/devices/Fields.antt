-- A device of the proofs: the fields of a message whose private bytes are still lent from its section.
use Rattle.bml_bytes.specs.Codes.{codes}
use Rattle.event_messages.specs.declared.messages.Fields.{Fields}
use Rattle.event_messages.specs.declared.messages.Message.{Message}

-- the message with these fields
abbrev pub message_with : Fields → Message
message_with fields = record { group = fields.group; kind = fields.kind; id = fields.id; version = fields.version; extra = codes fields.private_bytes.now }
