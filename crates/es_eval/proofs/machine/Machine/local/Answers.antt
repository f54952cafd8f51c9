use Rattle.std.proofs.Common.{◌≡◌, Some, arith}
use Rattle.es_eval.specs.devices.OpenCalls.{value_at}
use Rattle.es_eval.proofs.NameLemmas.{live_at}
use Rattle.es_eval.proofs.machine.Machine.local.Goals as goal

pub returns-in_ok-share-in-Some-slot-clause-live :
    goal.returns-in_ok-share-in-Some-slot-clause-live
returns-in_ok-share-in-Some-slot-clause-live c =
    let at : value_at c.self.inside.frames c.in-Some.place
    ≡ Some c.in_ok-share-in-Some-slot.field-0 = grind arith in
    rw (← c.self.view_is)
    (live_at c.self.inside.heap c.self.inside.frames c.in-Some.place
    c.in_ok-share-in-Some-slot.field-0 c.self.invariant.frames at)
