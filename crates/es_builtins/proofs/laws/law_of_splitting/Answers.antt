use Rattle.es_builtins.proofs.SplitLemmas.{split-apart, split-joined}
use Rattle.es_builtins.proofs.laws.law_of_splitting.Goals as goal

pub returns : goal.returns
returns c = record { joined = split-joined; apart = split-apart }
