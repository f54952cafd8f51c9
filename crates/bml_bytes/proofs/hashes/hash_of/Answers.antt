use Rattle.std.proofs.Common.{sym, ◌∙◌}
use Rattle.bml_bytes.proofs.HashLemmas.{none_left}
use Rattle.bml_bytes.proofs.hashes.hash_of.Goals as goal

pub returns : goal.returns
returns c = sym (c.ones.invariant.0 ∙ none_left c.ones.hash c.ones.rest.now c.in_default-split_first.ensures.cases)
