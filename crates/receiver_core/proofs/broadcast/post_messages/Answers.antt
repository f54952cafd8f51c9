use Rattle.std.proofs.Common.{◌∙◌, List, refl, subst}
use Rattle.std.proofs.lemmas.List.{take_all}
use Rattle.event_messages.specs.declared.messages.Message.{Message}
use Rattle.page.specs.Inputs.{messages_step}
use Rattle.page.specs.Standing.{Makes}
use Rattle.receiver_core.proofs.PostingLaws.{makes_more, makes_none}
use Rattle.receiver_core.proofs.broadcast.post_messages.Goals as goal

pub messages-init : goal.messages-init
messages-init c = record {
  posted = makes_none c.args.component c.args.page.now c.args.out.now.items;
  clock = refl;
}

pub messages-preserved : goal.messages-preserved
messages-preserved c = record {
  posted =
      makes_more c.args.component c.args.messages.now c.messages.message-index c.message-item.result c.args.page.now c.messages.page c.post_message.new.self c.args.out.now.items c.messages.out.items
      c.post_message.new.out.items c.messages-test.true c.message-item.is c.messages.invariant.posted c.in_ok-post_message.ensures.posted;
  clock = c.post_message.ensures.clock ∙ c.messages.invariant.clock;
}

pub returns-clause-posted : goal.returns-clause-posted
returns-clause-posted c =
    subst (λ (l : List Message). Makes (messages_step c.args.component l) c.args.page.now c.messages.page c.args.out.now.items c.messages.out.items)
    (take_all c.messages.message-index c.args.messages.now c.messages-test.false) c.messages.invariant.posted
