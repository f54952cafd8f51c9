use Rattle.module_store.proofs.numbers.Numbers.note.Goals as goal

pub set-requires : goal.set-requires
set-requires c = c.changes.invariant.room
