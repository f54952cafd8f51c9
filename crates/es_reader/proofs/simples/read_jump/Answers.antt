use Rattle.es_reader.proofs.BadLemmas.{handed, if-bad, jump-no-end-at}
use Rattle.es_reader.proofs.SimpleLemmas.{jump-at}
use Rattle.es_reader.proofs.simples.read_jump.Goals as goal

pub returns-clause-simple : goal.returns-clause-simple
returns-clause-simple c =
    jump-at c.args.tokens.now c.args.place c.args.nodes.now c.push.new.self c.args.form c.in_ok-ended.ended c.index-tokens-place-2.result c.index-tokens-place.result c.new.result.items c.in_ok-node.node
    c.requires (c.in_ok-ended.ensures {u = tt}).ended c.new.ensures.items (c.in_ok-node.ensures {u = tt}).number (c.in_ok-node.ensures {u = tt}).pushed

pub returns-in_err-ended-clause-bad : goal.returns-in_err-ended-clause-bad
returns-in_err-ended-clause-bad c = handed c.from_residual.result c.in_err-ended.field-0.0 _ c.from_residual.ensures.1 (if-bad c.in_err-ended.field-0.0 _ _ (jump-no-end-at c.args.tokens.now c.args.place c.requires.0 c.requires.1 c.requires.2.0) (c.in_err-ended.ensures {u = tt}).bad)
