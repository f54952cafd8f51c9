use Rattle.std.proofs.Common.{sym, ◌∙◌}
use Rattle.receiver_core.proofs.BroadcastLaws.{passes, taken_as_data, taken_as_table}
use Rattle.receiver_core.proofs.broadcast.Broadcast.take.Goals as goal

pub returns-in-None-clause-makes : goal.returns-in-None-clause-makes
returns-in-None-clause-makes c =
    rw (← c.self.view_is) (passes c.law_of_unread_sections.ensures.stands _ c.args.pid c.args.section.now c.args.out.now.items (sym c.reads_table.ensures ∙ c.if-reads_table.false) (sym c.component_of.ensures ∙ c.in-None.is))

pub returns-then-reads_table-clause-makes : goal.returns-then-reads_table-clause-makes
returns-then-reads_table-clause-makes c =
    rw (← c.self.view_is)
    (taken_as_table c.take_table.result _ c.take_table.new.self c.args.pid c.args.section.now c.args.out.now.items c.take_table.new.out.items (sym c.reads_table.ensures ∙ c.if-reads_table.true) (rw c.self.view_is c.take_table.ensures.makes))

pub returns-in-Some-clause-makes : goal.returns-in-Some-clause-makes
returns-in-Some-clause-makes c =
    rw (← c.self.view_is)
    (taken_as_data c.take_data.result _ c.take_data.new.self c.args.pid c.in-Some.component c.args.section.now c.args.out.now.items c.take_data.new.out.items (sym c.reads_table.ensures ∙ c.if-reads_table.false) (sym c.component_of.ensures ∙ c.in-Some.is) (rw c.self.view_is c.take_data.ensures.makes))
