use Rattle.es_reader.proofs.HeadLemmas.{absent-at}
use Rattle.es_reader.proofs.heads.absent.Goals as goal

pub returns-clause-absent : goal.returns-clause-absent
returns-clause-absent c = absent-at c.args.tokens.now c.args.place c.args.nodes.now c.push.new.self c.index-tokens-place.result c.new.result.items c.in_ok-node.node c.new.ensures.items (c.in_ok-node.ensures {u = tt}).number (c.in_ok-node.ensures {u = tt}).pushed
