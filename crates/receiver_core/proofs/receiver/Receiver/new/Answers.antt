use Rattle.receiver_core.proofs.ReceivingLaws.{stands_first}
use Rattle.receiver_core.proofs.receiver.Receiver.new.Goals as goal

pub returns-clause-stands : goal.returns-clause-stands
returns-clause-stands c = λ read right.
    let made = c.in_ok-new.ensures in
    stands_first read c.args.selection c.args.area c.in_ok-new.field-0 c.in_ok-new-2.field-0 made.drained made.stands (c.in_ok-new-2.ensures.stands read right)
