use Rattle.std.proofs.Common.{sym}
use Rattle.std.proofs.lemmas.Bool.{eqb-true}
use Rattle.style_cascade.proofs.chains.Chains.has_seen.Goals as goal

pub returns-in-Some : goal.returns-in-Some
returns-in-Some c = λ e. (c.in-Some.chain.now, sym (c.in-Some.ensures {u = tt}).value, eqb-true c.in-Some.chain.now.seen c.args.number e)
