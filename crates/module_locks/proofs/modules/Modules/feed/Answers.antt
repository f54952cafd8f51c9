use Rattle.std.proofs.Common.{◌≡◌, ◌∙◌, ap, cond, []}
use Rattle.std.specs.Prelude.{List, map}
use Rattle.carousel_blocks.specs.declared.changes.Change.{Change}
use Rattle.module_store.specs.DataEvents.{data_event_by}
use Rattle.module_locks.specs.Locks.{Modules}
use Rattle.module_locks.specs.Standing.{StandsFor}
use Rattle.module_locks.specs.devices.Keeping.{with_delivery}
use Rattle.module_locks.proofs.StandingLaws.{fed, fed_changes, fed_event}
use Rattle.module_locks.proofs.modules.Modules.feed.Goals as goal

-- the data event, by the data_event_ids of the store before and behind the section
event : (c : goal.After-keep_delivered) (modules : Modules) → StandsFor c.args.self.now modules → c.data_event_between-data_event.result ≡ data_event_by c.args.component c.args.section.now modules.stored
event c modules stands =
    fed_event c.copy_kept.new.self c.self.inside.store c.feed.new.self c.self.inside.locks.items modules c.self.view_is (c.copy_kept.ensures.stays modules stands) (c.in_ok-copy_kept.ensures.own modules stands)
    c.args.component c.args.section.now c.data_event_id-before.result c.data_event_id.result c.data_event_between-data_event.result c.data_event_between-data_event.ensures
    (λ stored its. c.data_event_id-before.ensures stored its) (λ stored its. c.data_event_id.ensures stored its) (λ stored its. c.in_ok-modules.ensures.stands stored its)

pub returns-clause-event : goal.returns-clause-event
returns-clause-event c = λ modules stands. event c modules stands

pub returns-clause-stands : goal.returns-clause-stands
returns-clause-stands c = λ modules stands.
    let left = c.end_locks.new.self.locks in
    fed c.copy_kept.new.self c.self.inside.store c.feed.new.self c.self.inside.locks.items modules c.self.view_is (c.copy_kept.ensures.stays modules stands) (c.in_ok-copy_kept.ensures.own modules stands)
    c.args.component c.args.section.now c.in_ok-modules.modules.items c.tell_locks.new.changes.items c.data_event_between-data_event.result left (c.end_locks.ensures.locks ∙ ap (λ b. cond b [] c.self.inside.locks.items) c.is_some.ensures) (event c modules stands)
    c.tell_locks.ensures (λ stored its. c.in_ok-modules.ensures.changes stored its)
    c.keep_delivered.new.self (λ stored its. c.in_ok-modules.ensures.stands stored its) (c.keep_delivered.ensures.store ∙ c.end_locks.ensures.store)
    (c.keep_delivered.ensures.locks ∙ ap (λ (l : List Change). map (with_delivery c.args.component l) left) c.as_slice.ensures.value)

pub returns-clause-changes : goal.returns-clause-changes
returns-clause-changes c = λ modules stands.
    let left = c.end_locks.new.self.locks in
    fed_changes c.copy_kept.new.self c.self.inside.store c.feed.new.self c.self.inside.locks.items modules c.self.view_is (c.copy_kept.ensures.stays modules stands) (c.in_ok-copy_kept.ensures.own modules stands)
    c.args.component c.args.section.now c.in_ok-modules.modules.items c.tell_locks.new.changes.items c.data_event_between-data_event.result left (c.end_locks.ensures.locks ∙ ap (λ b. cond b [] c.self.inside.locks.items) c.is_some.ensures) (event c modules stands)
    c.tell_locks.ensures (λ stored its. c.in_ok-modules.ensures.changes stored its)
