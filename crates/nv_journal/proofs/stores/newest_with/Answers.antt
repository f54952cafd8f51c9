use Rattle.std.proofs.Common.{sym, ◌∙◌, ap}
use Rattle.nv_journal.specs.Slots.{next_number}
use Rattle.nv_journal.proofs.Looked.{with-none, with-both, with-follows}
use Rattle.nv_journal.proofs.stores.newest_with.Goals as goal

pub returns-in-None : goal.returns-in-None
returns-in-None c = λ f s a b. with-none _ f s (c.next_number-due.ensures ∙ ap next_number a) (sym c.in-None.is ∙ b)

pub returns-then-number-due : goal.returns-then-number-due
returns-then-number-due c = λ f s a b. with-follows _ _ _ f s (c.next_number-due.ensures ∙ ap next_number a) (sym c.in-Some.is ∙ b) c.if-number-due.true c.next_number.ensures

pub returns-else-number-due : goal.returns-else-number-due
returns-else-number-due c = λ f s a b. with-both _ _ f s (c.next_number-due.ensures ∙ ap next_number a) (sym c.in-Some.is ∙ b) c.if-number-due.false
