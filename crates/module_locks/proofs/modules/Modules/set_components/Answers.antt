use Rattle.std.proofs.lemmas.Result.{on_ok_weaker}
use Rattle.module_locks.proofs.StandingLaws.{mapped}
use Rattle.module_locks.proofs.modules.Modules.set_components.Goals as goal

pub returns-clause-stands : goal.returns-clause-stands
returns-clause-stands c =
    on_ok_weaker c.set_components.result
    (λ maps modules stands. mapped c.copy_kept.new.self c.self.inside.store c.set_components.new.self c.self.inside.locks.items modules c.self.view_is
    (c.copy_kept.ensures.stays modules stands) (c.in_ok-copy_kept.ensures.own modules stands) c.args.services.now.map maps)
    c.set_components.ensures.stands
