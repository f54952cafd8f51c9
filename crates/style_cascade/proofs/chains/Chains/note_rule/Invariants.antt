use Rattle.std.proofs.Common.{◌≡◌, ℕ, ◌<◌, ◌⊎◌, Some, true}
use Rattle.std.specs.Prelude.{slice_get}
use Rattle.style_reader.specs.declared.selectors.Selector.{Selector}
use Rattle.style_cascade.specs.devices.Chains.{AreSeen, IsNoted, KeepsChains, chain_at}
use Rattle.style_cascade.specs.devices.Keys.{AreKnown, HasKey, is_among}
use Rattle.style_cascade.specs.declared.keys.Key.{Key}
use Rattle.style_cascade.proofs.chains.Chains.note_rule.Given as goal

abbrev pub invariant-selectors : goal.invariant-selectors
invariant-selectors l = record {
  seen : AreSeen l.given l.number l.self.chains;
  kept : KeepsChains l.initial.self.chains l.self.chains;
  only : (key : Key) (other : ℕ) → is_among other (chain_at l.self.chains key) ≡ true → (is_among other (chain_at l.initial.self.chains key) ≡ true) ⊎ ((other ≡ l.number) × HasKey l.numbers.names.keys key l.selectors);
  noted : (k : ℕ) (selector : Selector) → k < l.place → slice_get l.selectors k ≡ Some selector → AreKnown l.numbers.names.keys selector → IsNoted l.numbers.names.keys l.given l.number l.self.chains selector;
}
