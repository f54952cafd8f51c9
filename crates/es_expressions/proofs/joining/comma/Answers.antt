use Rattle.std.proofs.Common.{sym, ◌∙◌}
use Rattle.es_expressions.proofs.JoinLemmas.{comma-left}
use Rattle.es_expressions.proofs.joining.comma.Goals as goal

pub returns-then-not-is_within : goal.returns-then-not-is_within
returns-then-not-is_within c = record {
  joins = λ t rows. comma-left c.args.operand c.args.frames.now c.args.base (sym c.is_within.ensures ∙ c.if-not-is_within.true) t rows;
}
