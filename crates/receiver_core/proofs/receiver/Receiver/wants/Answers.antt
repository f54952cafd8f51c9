use Rattle.std.proofs.Common.{◌∙◌, sym, ap}
use Rattle.psi_tables.specs.Service.{wants}
use Rattle.receiver_core.proofs.ReceivingLaws.{passes_packet}
use Rattle.receiver_core.proofs.receiver.Receiver.wants.Goals as goal

pub returns-clause-passes : goal.returns-clause-passes
returns-clause-passes c =
    let inside = c.self.inside in
    rw (← c.self.view_is) (λ off idle packet is.
    passes_packet c.law_of_same_lists.ensures inside.demultiplexer inside.broadcast inside.spent packet idle
    (rw is (ap (λ x. wants x c.args.pid) (sym c.services.ensures) ∙ sym c.wants.ensures ∙ off)))
