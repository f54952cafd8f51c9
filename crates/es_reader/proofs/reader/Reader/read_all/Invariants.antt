use Rattle.std.proofs.Common.{length, ◌-◌}
use Rattle.es_reader.specs.Standing.{ReadsTo}
use Rattle.es_reader.proofs.reader.Reader.read_all.Given as goal

abbrev pub invariant-statements : goal.invariant-statements
invariant-statements l = ReadsTo l.tokens l.place l.self

abbrev pub decreases-statements : goal.decreases-statements
decreases-statements l = length l.tokens - l.place
