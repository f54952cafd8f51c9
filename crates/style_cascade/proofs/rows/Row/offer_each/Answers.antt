use Rattle.style_cascade.proofs.RowLemmas.{offered-more}
use Rattle.style_cascade.proofs.rows.Row.offer_each.Goals as goal

pub declarations-preserved : goal.declarations-preserved
declarations-preserved c =
    offered-more c.args.state c.args.number c.args.specificity c.args.declarations.now c.declarations.rest.now c.in-Some.more.now c.args.self.now c.declarations.self c.offer.new.self c.in-Some.declaration.now
    (c.in-Some.ensures {u = tt}).cases.0 c.offer.ensures.here c.offer.ensures.others c.declarations.invariant
