use Rattle.std.proofs.Common.{◌≡◌, ◌++◌, List, ap₂, false, subst, sym}
use Rattle.std.specs.Prelude.{Option, option_to_list}
use Rattle.carousel_blocks.specs.declared.changes.Change.{Change}
use Rattle.psi_tables.specs.Service.{reads_table}
use Rattle.receiver_core.specs.Broadcasts.{BroadcastState}
use Rattle.receiver_core.proofs.BroadcastLaws.{changes_taken, on_ok}
use Rattle.receiver_core.proofs.broadcast.Broadcast.take_changes.Goals as goal

pub returns-clause-makes : goal.returns-clause-makes
returns-clause-makes c =
    let inside = c.self.inside in
    let old : BroadcastState = record { services = inside.services; modules = inside.modules; page = inside.page } in
    let fed = c.in_ok-changes.ensures in
    rw (← c.self.view_is)
    (on_ok c.post_section_changes.result
    (changes_taken c.law_of_unread_sections.ensures.stands c.law_of_posted_changes.ensures.sections old c.feed.new.self c.post_section_changes.new.page
    (option_to_list c.in_ok-changes.changes.data_event ++ c.in_ok-changes.changes.modules.items) c.args.pid c.args.component c.args.section.now
    c.args.out.now.items c.post_section_changes.new.out.items
    (subst (λ (b : BroadcastState). reads_table b.services.selection b.services.service c.args.pid ≡ false) (sym c.self.view_is) c.requires.unread) fed.stands
    (λ modules stands. ap₂ (λ (event : Option Change) (changes : List Change). option_to_list event ++ changes) (fed.event modules stands) (fed.changes modules stands)))
    c.post_section_changes.ensures.posted)
