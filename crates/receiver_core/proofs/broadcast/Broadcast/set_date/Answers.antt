use Rattle.std.proofs.Common.{FitsSigned, rules}
use Rattle.std.specs.Int.{w32}
use Rattle.std.proofs.lemmas.Int.{to_z-of_z}
use Rattle.receiver_core.specs.Broadcasts.{BroadcastState}
use Rattle.receiver_core.proofs.BroadcastLaws.{dated}
use Rattle.receiver_core.proofs.broadcast.Broadcast.set_date.Goals as goal

pub returns-clause-makes : goal.returns-clause-makes
returns-clause-makes c =
    let inside = c.self.inside in
    let old : BroadcastState = record { services = inside.services; modules = inside.modules; page = inside.page } in
    let fits : FitsSigned w32 c.args.day = search rules in
    rw (← c.self.view_is)
    (λ text. dated c.args.day _ (to_z-of_z w32 c.args.day fits) c.args.second old c.set_date.new.self
    text c.set_date.ensures.dated c.set_date.ensures.area)
