use Rattle.std.proofs.Common.{◌≡◌, ◌≤◌, length}
use Rattle.style_reader.specs.Readings.{behind_at_rule}
use Rattle.style_reader.proofs.sheets.behind_at_rule.Given as goal

abbrev pub invariant-prelude : goal.invariant-prelude
invariant-prelude l = (behind_at_rule l.rest ≡ behind_at_rule l.text) × (length l.rest ≤ length l.text)

abbrev pub decreases-prelude : goal.decreases-prelude
decreases-prelude l = length l.rest
