use Rattle.std.proofs.Common.{refl, rules, inl, inr}
use Rattle.es_reader.proofs.PartLemmas.{ends-by-semicolon, no-end, ends-last, ends-before}
use Rattle.es_reader.proofs.wholes.read_end.Goals as goal
use Rattle.es_reader.proofs.wholes.read_end.Goals.{then-token-via-then-token, then-token-via-else-token+then-is_mark-2}

pub returns-then-is_mark-clause-ended : goal.returns-then-is_mark-clause-ended
returns-then-is_mark-clause-ended c = ends-by-semicolon c.args.tokens.now c.args.place c.args.«end» c.in-Some.token.now (c.in-Some.ensures {u = tt}) (search rules)

pub returns-clause-bad : goal.returns-clause-bad
returns-clause-bad c = (refl, no-end c.args.tokens.now c.args.place c.in-Some.token.now (c.in-Some.ensures {u = tt}) (search rules) (search rules) (search rules))

pub returns-in_default-clause-ended : goal.returns-in_default-clause-ended
returns-in_default-clause-ended c = ends-last c.args.tokens.now c.args.place c.args.«end» c.requires (c.in_default.ensures {u = tt})

pub returns-then-token-clause-ended : goal.returns-then-token-clause-ended
returns-then-token-clause-ended c = elim c.then-token.branch [
  | then-token-via-then-token w ↦ ends-before c.args.tokens.now c.args.place c.args.«end» c.in-Some.token.now c.requires (c.in-Some.ensures {u = tt}) (inr w.if-token.true) (search rules)
  | then-token-via-else-token+then-is_mark-2 w ↦ ends-before c.args.tokens.now c.args.place c.args.«end» c.in-Some.token.now c.requires (c.in-Some.ensures {u = tt}) (inl (search rules)) (search rules)
]
