use Rattle.std.proofs.Common.{true, false}
use Rattle.page.specs.Dispatches.{next_data_event, next_load}
use Rattle.page.proofs.PageLaws.{event_comes, event_first, event_loads_none, event_remembered, load_first, loads_remembered, may_make}
use Rattle.page.proofs.pages.Page.dispatch.Goals as goal

pub returns-then-branch-clause-made : goal.returns-then-branch-clause-made
returns-then-branch-clause-made c =
    event_first c.args.modules.now c.handle_data_event.new.modules c.args.self.now c.handle_data_event.new.self c.args.out.now.items c.handle_data_event.new.out.items
    (may_make c.in_ok-handle_data_event.field-0 true c.args.modules.now c.handle_data_event.new.modules next_data_event c.args.self.now c.handle_data_event.new.self c.args.out.now.items c.handle_data_event.new.out.items c.if-branch.true c.in_ok-handle_data_event.ensures.made)

pub returns-then-branch-clause-remembers : goal.returns-then-branch-clause-remembers
returns-then-branch-clause-remembers c =
    event_loads_none c.args.modules.now c.handle_data_event.new.modules c.args.self.now c.handle_data_event.new.self c.args.out.now.items c.handle_data_event.new.out.items
    (may_make c.in_ok-handle_data_event.field-0 true c.args.modules.now c.handle_data_event.new.modules next_data_event c.args.self.now c.handle_data_event.new.self c.args.out.now.items c.handle_data_event.new.out.items c.if-branch.true c.in_ok-handle_data_event.ensures.made)
    c.handle_data_event.ensures.remembers

pub returns-then-branch-2-clause-made : goal.returns-then-branch-2-clause-made
returns-then-branch-2-clause-made c =
    load_first c.args.modules.now c.handle_data_event.new.modules c.load.new.modules c.args.self.now c.handle_data_event.new.self c.load.new.self c.args.out.now.items c.handle_data_event.new.out.items c.load.new.out.items
    (may_make c.in_ok-handle_data_event.field-0 false c.args.modules.now c.handle_data_event.new.modules next_data_event c.args.self.now c.handle_data_event.new.self c.args.out.now.items c.handle_data_event.new.out.items c.if-branch.false c.in_ok-handle_data_event.ensures.made)
    (may_make c.in_ok-load.field-0 true c.handle_data_event.new.modules c.load.new.modules next_load c.handle_data_event.new.self c.load.new.self c.handle_data_event.new.out.items c.load.new.out.items c.if-branch-2.true c.in_ok-load.ensures.made)

pub returns-then-branch-2-clause-remembers : goal.returns-then-branch-2-clause-remembers
returns-then-branch-2-clause-remembers c =
    loads_remembered c.args.modules.now c.handle_data_event.new.modules c.args.self.now c.handle_data_event.new.self c.load.new.self c.args.out.now.items c.handle_data_event.new.out.items
    (may_make c.in_ok-handle_data_event.field-0 false c.args.modules.now c.handle_data_event.new.modules next_data_event c.args.self.now c.handle_data_event.new.self c.args.out.now.items c.handle_data_event.new.out.items c.if-branch.false c.in_ok-handle_data_event.ensures.made)
    c.handle_data_event.ensures.remembers c.in_ok-load.ensures.remembers

pub returns-clause-made : goal.returns-clause-made
returns-clause-made c =
    event_comes c.handle_next.result c.args.modules.now c.handle_data_event.new.modules c.load.new.modules c.handle_next.new.modules c.args.self.now c.handle_data_event.new.self c.load.new.self c.handle_next.new.self
    c.args.out.now.items c.handle_data_event.new.out.items c.load.new.out.items c.handle_next.new.out.items
    (may_make c.in_ok-handle_data_event.field-0 false c.args.modules.now c.handle_data_event.new.modules next_data_event c.args.self.now c.handle_data_event.new.self c.args.out.now.items c.handle_data_event.new.out.items c.if-branch.false c.in_ok-handle_data_event.ensures.made)
    (may_make c.in_ok-load.field-0 false c.handle_data_event.new.modules c.load.new.modules next_load c.handle_data_event.new.self c.load.new.self c.handle_data_event.new.out.items c.load.new.out.items c.if-branch-2.false c.in_ok-load.ensures.made)
    c.handle_next.ensures.made

pub returns-clause-remembers : goal.returns-clause-remembers
returns-clause-remembers c =
    event_remembered c.handle_next.result c.args.modules.now c.args.self.now c.load.new.self c.handle_next.new.self
    (loads_remembered c.args.modules.now c.handle_data_event.new.modules c.args.self.now c.handle_data_event.new.self c.load.new.self c.args.out.now.items c.handle_data_event.new.out.items
    (may_make c.in_ok-handle_data_event.field-0 false c.args.modules.now c.handle_data_event.new.modules next_data_event c.args.self.now c.handle_data_event.new.self c.args.out.now.items c.handle_data_event.new.out.items c.if-branch.false c.in_ok-handle_data_event.ensures.made)
    c.handle_data_event.ensures.remembers c.in_ok-load.ensures.remembers)
    c.handle_next.ensures.remembers
