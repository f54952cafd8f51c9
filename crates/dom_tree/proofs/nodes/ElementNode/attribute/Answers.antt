use Rattle.std.proofs.Common.{◌∙◌}
use Rattle.dom_tree.proofs.EntryLemmas.{get-entries}
use Rattle.dom_tree.proofs.nodes.ElementNode.attribute.Goals as goal

pub returns : goal.returns
returns c = c.get.ensures.value ∙ get-entries c.args.self.now.attributes c.args.name.now
