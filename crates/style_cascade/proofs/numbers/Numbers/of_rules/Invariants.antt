use Rattle.std.proofs.Common.{◌≡◌, ℕ, ◌<◌, Some}
use Rattle.std.specs.Prelude.{Contains, slice_get}
use Rattle.style_reader.specs.declared.rules.Rule.{Rule}
use Rattle.style_reader.specs.declared.selectors.Selector.{Selector}
use Rattle.style_cascade.specs.devices.Keys.{AreKnown}
use Rattle.style_cascade.proofs.numbers.Numbers.of_rules.Given as goal

abbrev pub invariant-rules : goal.invariant-rules
invariant-rules l = (k : ℕ) (rule : Rule) (selector : Selector) → k < l.place → slice_get l.rules k ≡ Some rule → Contains rule.selectors selector → AreKnown l.numbers.names.keys selector
