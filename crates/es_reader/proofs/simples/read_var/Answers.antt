use Rattle.es_reader.proofs.BadLemmas.{handed, if-bad, var-stops-at, var-no-end-at}
use Rattle.es_reader.proofs.SimpleLemmas.{var-at}
use Rattle.es_reader.proofs.simples.read_var.Goals as goal

pub returns-clause-simple : goal.returns-clause-simple
returns-clause-simple c =
    var-at c.args.tokens.now c.args.place c.read_declarations.new.nodes c.push.new.self c.args.names.now c.read_declarations.new.names c.in_ok-declared.declared c.in_ok-ended.ended c.index-tokens-place.result c.in_ok-node.node
    c.requires (c.in_ok-declared.ensures {u = tt}).declared (c.in_ok-declared.ensures {u = tt}).no_comma (c.in_ok-ended.ensures {u = tt}).ended (c.in_ok-node.ensures {u = tt}).number (c.in_ok-node.ensures {u = tt}).pushed

pub returns-in_err-declared-clause-bad : goal.returns-in_err-declared-clause-bad
returns-in_err-declared-clause-bad c = handed c.from_residual.result c.in_err-declared.field-0.0 _ c.from_residual.ensures.1 (if-bad c.in_err-declared.field-0.0 _ _ (var-stops-at c.args.tokens.now c.args.place c.requires) (c.in_err-declared.ensures {u = tt}).bad)

pub returns-in_err-ended-clause-bad : goal.returns-in_err-ended-clause-bad
returns-in_err-ended-clause-bad c = handed c.from_residual-in_err-ended.result c.in_err-ended.field-0.0 _ c.from_residual-in_err-ended.ensures.1 (if-bad c.in_err-ended.field-0.0 _ _ (var-no-end-at c.args.tokens.now c.args.place c.read_declarations.new.nodes c.args.names.now c.read_declarations.new.names c.in_ok-declared.declared c.requires (c.in_ok-declared.ensures {u = tt}).declared (c.in_ok-declared.ensures {u = tt}).no_comma) (c.in_err-ended.ensures {u = tt}).bad)
