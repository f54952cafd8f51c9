use Rattle.std.proofs.Common.{◌≡◌, ℕ, ◌≤◌, Some, true, length}
use Rattle.std.specs.Prelude.{Contains, slice_get}
use Rattle.style_reader.specs.declared.rules.Rule.{Rule}
use Rattle.style_reader.specs.declared.selectors.Selector.{Selector}
use Rattle.style_cascade.specs.devices.Chains.{AreSeen, HasRule, IsNoted, chain_at}
use Rattle.style_cascade.specs.devices.Keys.{AreKnown, is_among}
use Rattle.style_cascade.specs.declared.keys.Key.{Key}
use Rattle.style_cascade.proofs.index.chains_of.Given as goal

abbrev pub invariant-rules : goal.invariant-rules
invariant-rules l = record {
  within : l.number ≤ length l.rules;
  seen : AreSeen l.given l.number l.chains.chains;
  only : (key : Key) (other : ℕ) → is_among other (chain_at l.chains.chains key) ≡ true → HasRule l.numbers.names.keys l.rules key other;
  noted : (other : ℕ) (rule : Rule) (selector : Selector) → l.number ≤ other → slice_get l.rules other ≡ Some rule → Contains rule.selectors selector → AreKnown l.numbers.names.keys selector → IsNoted l.numbers.names.keys l.given other l.chains.chains selector;
}

abbrev pub decreases-rules : goal.decreases-rules
decreases-rules l = l.number
