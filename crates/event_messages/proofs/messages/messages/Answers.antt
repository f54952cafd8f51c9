use Rattle.std.proofs.Common.{rules}
use Rattle.event_messages.specs.Reading.{messages_of}
use Rattle.event_messages.proofs.MessageLemmas.{read_some}
use Rattle.event_messages.proofs.messages.messages.Goals as goal

pub returns-in_err-messages-clause-memory : goal.returns-in_err-messages-clause-memory
returns-in_err-messages-clause-memory c = λ e.
    (messages_of c.in_ok-descriptors.descriptors, read_some c.args.section.now c.in_ok-descriptors.descriptors (search rules) (search rules), c.messages_among.ensures.memory (search rules))
