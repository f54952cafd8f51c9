use Rattle.std.proofs.Common.{◌≡◌, ◌++◌, length}
use Rattle.event_messages.specs.Reading.{messages_of}
use Rattle.event_messages.proofs.messages.messages_among.Given as goal

abbrev pub invariant-descriptors : goal.invariant-descriptors
invariant-descriptors l = l.messages.items ++ messages_of l.descriptors ≡ messages_of l.fn.descriptors

abbrev pub decreases-descriptors : goal.decreases-descriptors
decreases-descriptors l = length l.descriptors
