use Rattle.std.proofs.Common.{sym, ◌∙◌}
use Rattle.nv_journal.proofs.Looked.{without-any, with-second}
use Rattle.nv_journal.proofs.stores.newest_of.Goals as goal

pub returns-in-None-second : goal.returns-in-None-second
returns-in-None-second c = λ f s a b. without-any f s (sym c.in-None.is ∙ a) (sym c.in-None-second.is ∙ b)

pub returns-in-Some-second : goal.returns-in-Some-second
returns-in-Some-second c = λ f s a b. with-second _ _ f s (sym c.in-None.is ∙ a) (sym c.in-Some-second.is ∙ b) c.next_number.ensures
