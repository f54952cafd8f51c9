use Rattle.es_reader.proofs.BadLemmas.{handed, if-bad, value-stops-at, value-no-end-at}
use Rattle.es_reader.proofs.SimpleLemmas.{alone-at}
use Rattle.es_reader.proofs.simples.read_alone.Goals as goal

pub returns-clause-simple : goal.returns-clause-simple
returns-clause-simple c =
    alone-at c.args.tokens.now c.args.place c.read_whole.new.nodes c.push.new.self c.in_ok-whole.whole c.in_ok-ended.ended c.in_ok-children.children.items c.in_ok-node.node c.deeper.result
    (c.in_ok-whole.ensures {u = tt}).whole (c.in_ok-ended.ensures {u = tt}).ended (c.in_ok-children.ensures {u = tt}).items c.deeper.ensures (c.in_ok-node.ensures {u = tt}).number (c.in_ok-node.ensures {u = tt}).pushed

pub returns-in_err-whole-clause-bad : goal.returns-in_err-whole-clause-bad
returns-in_err-whole-clause-bad c = handed c.from_residual.result c.in_err-whole.field-0.0 _ c.from_residual.ensures.1 (if-bad c.in_err-whole.field-0.0 _ _ (value-stops-at c.args.tokens.now c.args.place) (c.in_err-whole.ensures {u = tt}).stops)

pub returns-in_err-ended-clause-bad : goal.returns-in_err-ended-clause-bad
returns-in_err-ended-clause-bad c = handed c.from_residual-in_err-ended.result c.in_err-ended.field-0.0 _ c.from_residual-in_err-ended.ensures.1 (if-bad c.in_err-ended.field-0.0 _ _ (value-no-end-at c.args.tokens.now c.args.place c.read_whole.new.nodes c.in_ok-whole.whole (c.in_ok-whole.ensures {u = tt}).whole) (c.in_err-ended.ensures {u = tt}).bad)
