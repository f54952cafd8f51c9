use Rattle.std.proofs.Common.{◌≡◌, None, replicate}
use Rattle.document_load.proofs.drafts.nothing_given.Given as goal

abbrev pub invariant-needs : goal.invariant-needs
invariant-needs l = l.given.items ≡ replicate l._need None
