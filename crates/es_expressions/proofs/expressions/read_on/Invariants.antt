use Rattle.std.proofs.Common.{◌-◌, length}
use Rattle.es_expressions.specs.Standings.{Grows, held}
use Rattle.es_expressions.specs.Stops.{IsAt}
use Rattle.es_expressions.proofs.expressions.read_on.Given as goal

abbrev pub invariant-tokens : goal.invariant-tokens
invariant-tokens l = record {
  grows : Grows l.fn.nodes l.nodes;
  is_at : IsAt l.base l.tokens l.start l.«end» (held l.nodes l.frames) l.place;
}

abbrev pub decreases-tokens : goal.decreases-tokens
decreases-tokens l = length l.tokens - l.«end»
