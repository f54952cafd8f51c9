use Rattle.std.proofs.Common.{rules, inl, inr}
use Rattle.es_reader.proofs.PartLemmas.{returns-by-semicolon, no-end, returns-last, returns-before}
use Rattle.es_reader.proofs.wholes.return_end.Goals as goal
use Rattle.es_reader.proofs.wholes.return_end.Goals.{then-token-via-then-token, then-token-via-else-token+then-is_mark}

pub returns-then-is_mark-2-clause-ended : goal.returns-then-is_mark-2-clause-ended
returns-then-is_mark-2-clause-ended c = returns-by-semicolon c.args.tokens.now c.args.place c.args.«end» c.in-Some.token.now (c.in-Some.ensures {u = tt}) (search rules) (search rules)

pub returns-clause-none : goal.returns-clause-none
returns-clause-none c = no-end c.args.tokens.now c.args.place c.in-Some.token.now (c.in-Some.ensures {u = tt}) (search rules) (search rules) (search rules)

pub returns-in_default-clause-ended : goal.returns-in_default-clause-ended
returns-in_default-clause-ended c = returns-last c.args.tokens.now c.args.place c.args.«end» c.requires (c.in_default.ensures {u = tt})

pub returns-then-token-clause-ended : goal.returns-then-token-clause-ended
returns-then-token-clause-ended c = elim c.then-token.branch [
  | then-token-via-then-token w ↦ returns-before c.args.tokens.now c.args.place c.args.«end» c.in-Some.token.now c.requires (c.in-Some.ensures {u = tt}) (inr w.if-token.true)
  | then-token-via-else-token+then-is_mark w ↦ returns-before c.args.tokens.now c.args.place c.args.«end» c.in-Some.token.now c.requires (c.in-Some.ensures {u = tt}) (inl (search rules))
]
