use Rattle.std.proofs.Common.{Option, sym, subst}
use Rattle.dom_tree.specs.NodeNumbers.{number_of}
use Rattle.dom_tree.specs.declared.node_ids.NodeId.{NodeId}
use Rattle.acting_documents.specs.devices.Doings.{Does}
use Rattle.acting_documents.specs.Handling.{event_effect_at}
use Rattle.acting_documents.proofs.documents.ActingDocument.handle_at.Goals as goal

pub returns-in-None-clause-does : goal.returns-in-None-clause-does
returns-in-None-clause-does c =
    let out = c.args.out.now.items in
    subst (λ (target : Option NodeId). Does (event_effect_at (number_of target) c.args.event) c.args.self.now c.do_nothing.new.self out out)
    (sym c.in-None.is) (c.do_nothing.ensures.does out)
