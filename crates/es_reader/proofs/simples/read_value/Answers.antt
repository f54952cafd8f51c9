use Rattle.es_reader.proofs.BadLemmas.{handed, if-bad, value-stops-at, value-no-end-at, return-stops-at}
use Rattle.es_reader.proofs.SimpleLemmas.{value-at}
use Rattle.es_reader.proofs.simples.read_value.Goals as goal

pub returns-clause-simple : goal.returns-clause-simple
returns-clause-simple c =
    value-at c.args.tokens.now c.args.place c.read_whole.new.nodes c.push.new.self c.in_ok-value.value c.in_ok-ended.ended c.index-tokens-place.result c.in_ok-children.children.items c.in_ok-node.node c.deeper.result
    c.requires.word c.requires.value (c.in_ok-value.ensures {u = tt}).whole (c.in_ok-ended.ensures {u = tt}).ended (c.in_ok-children.ensures {u = tt}).items c.deeper.ensures (c.in_ok-node.ensures {u = tt}).number (c.in_ok-node.ensures {u = tt}).pushed

pub returns-in_err-value-clause-bad : goal.returns-in_err-value-clause-bad
returns-in_err-value-clause-bad c = handed c.from_residual.result c.in_err-value.field-0.0 _ c.from_residual.ensures.1 (if-bad c.in_err-value.field-0.0 _ _ (λ bad s p inside. return-stops-at c.args.tokens.now c.args.place c.requires.word c.requires.value bad (value-stops-at c.args.tokens.now _ bad s) p inside) (c.in_err-value.ensures {u = tt}).stops)

pub returns-in_err-ended-clause-bad : goal.returns-in_err-ended-clause-bad
returns-in_err-ended-clause-bad c = handed c.from_residual-in_err-ended.result c.in_err-ended.field-0.0 _ c.from_residual-in_err-ended.ensures.1 (if-bad c.in_err-ended.field-0.0 _ _ (λ bad n p inside. return-stops-at c.args.tokens.now c.args.place c.requires.word c.requires.value bad (value-no-end-at c.args.tokens.now _ c.read_whole.new.nodes c.in_ok-value.value (c.in_ok-value.ensures {u = tt}).whole bad n) p inside) (c.in_err-ended.ensures {u = tt}).bad)
