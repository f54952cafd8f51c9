use Rattle.std.proofs.Common.{◌∙◌, ap, sym}
use Rattle.receiver_core.specs.Turns.{messages_of_reading}
use Rattle.receiver_core.proofs.BroadcastLaws.{none_read}
use Rattle.receiver_core.proofs.broadcast.messages_of.Goals as goal

pub returns-in-Ok : goal.returns-in-Ok
returns-in-Ok c = sym (ap messages_of_reading ((c.law_of_messages.ensures.ok c.args.section.now c.in-Ok.messages.items).0 c.in-Ok.ensures.found))

pub returns-in-Err-Fault : goal.returns-in-Err-Fault
returns-in-Err-Fault c =
    c.new.ensures.items ∙ none_read c.args.section.now (c.law_of_messages.ensures.ok c.args.section.now)
    (λ messages has. let gave_up = c.in-Err-Fault.ensures.only messages has in cc)
