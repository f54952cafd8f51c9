use Rattle.std.proofs.Common.{arith}
use Rattle.es_values.proofs.ArrayLemmas.{first-elements}
use Rattle.es_values.proofs.objects.Object.set_elements.Goals as goal

pub returns-clause-ok : goal.returns-clause-ok
returns-clause-ok c =
    first-elements c.args.self.now c.args.elements.items c.self.inside.length c.self.inside.properties c.put_elements.new.self c.cut.new.self c.len-count.result c.self.view_is c.in_ok-put_elements.ensures.ok c.cut.ensures (omega arith)
