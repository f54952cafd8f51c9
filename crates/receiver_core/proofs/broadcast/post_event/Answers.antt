use Rattle.std.proofs.Common.{subst, sym}
use Rattle.std.specs.Prelude.{OnOk, Option, option_to_list}
use Rattle.carousel_blocks.specs.declared.changes.Change.{Change}
use Rattle.page.specs.Standing.{Posts}
use Rattle.receiver_core.proofs.PostingLaws.{in_component, posts_none}
use Rattle.receiver_core.proofs.broadcast.post_event.Goals as goal

pub returns-in-Some-clause-posted : goal.returns-in-Some-clause-posted
returns-in-Some-clause-posted c =
    subst (λ (o : Option Change). OnOk c.post_change.result (Posts (in_component c.args.component (option_to_list o)) c.args.page.now c.post_change.new.self c.args.out.now.items c.post_change.new.out.items))
    (sym c.in-Some.is) c.post_change.ensures.posted

pub returns-in-None-clause-posted : goal.returns-in-None-clause-posted
returns-in-None-clause-posted c =
    subst (λ (o : Option Change). Posts (in_component c.args.component (option_to_list o)) c.args.page.now c.args.page.now c.args.out.now.items c.args.out.now.items)
    (sym c.in-None.is) (posts_none c.args.page.now c.args.out.now.items)
