use Rattle.std.proofs.Common.{◌≡◌, take}
use Rattle.page.specs.Inputs.{messages_step}
use Rattle.page.specs.Standing.{Makes}
use Rattle.receiver_core.proofs.broadcast.post_messages.Given as goal

abbrev pub invariant-messages : goal.invariant-messages
invariant-messages l = record {
  posted : Makes (messages_step l.component (take l.message-index l.messages)) l.initial.page l.page l.initial.out.items l.out.items;
  clock : l.page.clock ≡ l.initial.page.clock;
}
