use Rattle.std.proofs.Common.{subst}
use Rattle.es_expressions.specs.Beginnings.{least}
use Rattle.es_expressions.specs.Standings.{held}
use Rattle.es_expressions.specs.Stops.{StopsAt}
use Rattle.es_expressions.proofs.EndLemmas.{least-bound}
use Rattle.es_expressions.proofs.RangeLemmas.{is-reading}
use Rattle.es_expressions.proofs.expressions.read_expression.Goals as goal

pub returns-clause-reading : goal.returns-clause-reading
returns-clause-reading c =
    is-reading (least c.args.extent) (least-bound c.args.extent) c.args.tokens.now c.args.start (held c.read_on.new.nodes c.read_on.new.frames) c.finish.new.nodes c.in_ok-end.field-0 c.in_ok-found.found
    (subst (λ n. StopsAt n c.args.tokens.now c.args.start (held c.read_on.new.nodes c.read_on.new.frames) c.in_ok-end.field-0) c.least.ensures c.in_ok-end.ensures.stops)
    c.in_ok-found.ensures.found
