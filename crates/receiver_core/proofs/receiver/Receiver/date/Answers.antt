use Rattle.std.proofs.Common.{FitsSigned, [], rules, subst, sym}
use Rattle.std.specs.Int.{w32}
use Rattle.std.proofs.lemmas.Int.{to_z-of_z}
use Rattle.receiver_core.specs.Receiving.{IsIdle}
use Rattle.receiver_core.proofs.BroadcastLaws.{date_made}
use Rattle.receiver_core.proofs.ReceivingLaws.{takes_date}
use Rattle.receiver_core.proofs.receiver.Receiver.date.Goals as goal

pub returns-clause-taken : goal.returns-clause-taken
returns-clause-taken c =
    let inside = c.self.inside in
    let fits : FitsSigned w32 c.args.day = search rules in
    rw (← c.self.view_is)
    (takes_date c.args.day c.args.second inside.demultiplexer inside.broadcast c.set_date.new.self
    inside.spent (subst IsIdle (sym c.self.view_is) c.requires.idle)
    (date_made (to_z-of_z w32 c.args.day fits) c.args.second _ _ [] (c.set_date.ensures.makes [])))
