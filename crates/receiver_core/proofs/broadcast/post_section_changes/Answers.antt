use Rattle.std.proofs.Common.{List, subst}
use Rattle.std.specs.Prelude.{OnOk}
use Rattle.carousel_blocks.specs.declared.changes.Change.{Change}
use Rattle.page.specs.Standing.{Posts}
use Rattle.receiver_core.proofs.BroadcastLaws.{on_ok}
use Rattle.receiver_core.proofs.PostingLaws.{in_component, posts_section}
use Rattle.receiver_core.proofs.broadcast.post_section_changes.Goals as goal

pub returns-clause-posted : goal.returns-clause-posted
returns-clause-posted c =
    on_ok c.post_changes.result
    (posts_section c.args.component c.args.changes.now.data_event c.args.changes.now.modules.items c.args.page.now c.post_event.new.page c.post_changes.new.page
    c.args.out.now.items c.post_event.new.out.items c.post_changes.new.out.items c.in_ok-post_event.ensures.posted)
    (subst (λ (l : List Change). OnOk c.post_changes.result (Posts (in_component c.args.component l) c.post_event.new.page c.post_changes.new.page c.post_event.new.out.items c.post_changes.new.out.items))
    c.as_slice.ensures.value c.post_changes.ensures.posted)
