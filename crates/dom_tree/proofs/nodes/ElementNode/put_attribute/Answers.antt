use Rattle.std.proofs.Common.{◌∙◌}
use Rattle.dom_tree.proofs.EntryLemmas.{get-entries, with_value-map}
use Rattle.dom_tree.proofs.nodes.ElementNode.put_attribute.Goals as goal

pub returns-clause-ok : goal.returns-clause-ok
returns-clause-ok c = with_value-map c.args.self.now.attributes c.insert.new.self c.args.name c.args.value c.in_ok-insert.ensures.entries

pub returns-clause-had : goal.returns-clause-had
returns-clause-had c = c.in_ok-insert.ensures.old ∙ get-entries c.args.self.now.attributes c.args.name
