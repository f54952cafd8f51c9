use Rattle.es_reader.proofs.SimpleLemmas.{return-at}
use Rattle.es_reader.proofs.simples.read_return.Goals as goal

pub returns-clause-simple : goal.returns-clause-simple
returns-clause-simple c =
    return-at c.args.tokens.now c.args.place c.args.nodes.now c.push.new.self c.in-Some.ended c.index-tokens-place-2.result c.index-tokens-place.result c.new.result.items c.in_ok-node.node
    c.requires (c.in-Some.ensures {u = tt}).ended c.new.ensures.items (c.in_ok-node.ensures {u = tt}).number (c.in_ok-node.ensures {u = tt}).pushed
