use Rattle.std.proofs.Common.{sym, ◌∙◌}
use Rattle.es_expressions.proofs.TakeLemmas.{begins-whole, begins-left, sign-left, step-left-front}
use Rattle.es_expressions.proofs.reader.begin.Goals as goal

pub returns-then-not-is_within-clause-begins : goal.returns-then-not-is_within-clause-begins
returns-then-not-is_within-clause-begins c = begins-left c.args.base c.args.token.now c.args.nodes.now c.args.frames.now (sign-left c.args.base c.args.token.now c.args.nodes.now c.args.frames.now (sym c.front_of.ensures ∙ c.in-Sign.is) (sym c.is_within.ensures ∙ c.if-not-is_within.true))

pub returns-then-not-is_within-2-clause-begins : goal.returns-then-not-is_within-2-clause-begins
returns-then-not-is_within-2-clause-begins c = begins-left c.args.base c.args.token.now c.args.nodes.now c.args.frames.now (step-left-front c.args.base c.args.token.now c.args.nodes.now c.args.frames.now (sym c.front_of.ensures ∙ c.in-Step.is) (sym c.is_within-in-Step.ensures ∙ c.if-not-is_within-2.true))

pub returns-in_ok-whole-in-Whole-clause-begins : goal.returns-in_ok-whole-in-Whole-clause-begins
returns-in_ok-whole-in-Whole-clause-begins c = begins-whole c.args.base c.args.token.now c.args.nodes.now c.leaf.new.nodes c.args.frames.now c.in_ok-whole-in-Whole.whole (sym c.front_of.ensures ∙ c.in-Whole.is) (c.in_ok-whole-in-Whole.ensures {u = tt}).grows (c.in_ok-whole-in-Whole.ensures {u = tt}).leaf
