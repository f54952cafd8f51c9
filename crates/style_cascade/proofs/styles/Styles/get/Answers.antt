use Rattle.style_cascade.proofs.GetLemmas.{kept-cell, kept-some}
use Rattle.style_cascade.proofs.styles.Styles.get.Goals as goal

pub returns-clause-kept_still : goal.returns-clause-kept_still
returns-clause-kept_still c = λ other at of k.
    let found = kept-cell c.args.self.now other at of k in
    kept-some c.found.new.self other at of found.0 (c.found.ensures.still other at of found.0 found.1)
