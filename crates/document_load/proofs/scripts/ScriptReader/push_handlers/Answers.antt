use Rattle.document_load.proofs.ScriptLemmas.{Adds-handler}
use Rattle.document_load.proofs.scripts.ScriptReader.push_handlers.Goals as goal

pub attributes-preserved : goal.attributes-preserved
attributes-preserved c = record {
  adds = Adds-handler c.args.tree.now c.args.node.0 c.attributes.place c.args.self.now c.attributes.self c.push_attribute.new.self c.attributes.invariant.adds (c.in_ok-push_attribute.ensures {u = tt});
  all = c.attributes.invariant.all;
}
