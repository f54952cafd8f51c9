use Rattle.std.proofs.Common.{refl}
use Rattle.nv_journal.proofs.Looked.{told-short, told-shut, told-open}
use Rattle.nv_journal.proofs.stores.look_at.Goals as goal

pub returns-then-count-ne-SLOT_LENGTH-clause-content : goal.returns-then-count-ne-SLOT_LENGTH-clause-content
returns-then-count-ne-SLOT_LENGTH-clause-content g c =
    let r = rw c.place.ensures at c.in_ok-count.ensures.content in
    told-short c.args.slot _ _ _ _ _ c.requires.size r c.if-count-ne-SLOT_LENGTH.true

pub returns-then-into-ne-OPEN-clause-content : goal.returns-then-into-ne-OPEN-clause-content
returns-then-into-ne-OPEN-clause-content g c =
    let r = rw c.place.ensures at c.in_ok-count.ensures.content in
    told-shut c.args.slot _ _ _ _ _ c.requires.size r c.if-count-ne-SLOT_LENGTH.false c.if-into-ne-OPEN.true

pub returns-clause-content : goal.returns-clause-content
returns-clause-content g c =
    let r = rw c.place.ensures at c.in_ok-count.ensures.content in
    told-open c.args.slot _ _ _ _ _ _ c.requires.size r c.if-count-ne-SLOT_LENGTH.false c.if-into-ne-OPEN.false refl
