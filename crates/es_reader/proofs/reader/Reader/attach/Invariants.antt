use Rattle.std.proofs.Common.{◌≡◌, length}
use Rattle.es_reader.specs.Standing.{Holds}
use Rattle.es_reader.proofs.reader.Reader.attach.Given as goal

abbrev pub invariant-forms : goal.invariant-forms
invariant-forms l = record {
  holds : Holds l.tokens l.stated l.self;
  behind : l.stated.behind ≡ l.fn.stated.behind;
}

abbrev pub decreases-forms : goal.decreases-forms
decreases-forms l = length l.self.forms
