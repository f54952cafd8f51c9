use Rattle.std.proofs.Common.{◌≡◌, ℕ, ◌<◌, Some}
use Rattle.std.specs.Prelude.{slice_get}
use Rattle.style_reader.specs.declared.selectors.Selector.{Selector}
use Rattle.style_cascade.specs.devices.Keys.{AreKnown, KnowsMore}
use Rattle.style_cascade.proofs.numbers.Numbers.note_rule.Given as goal

abbrev pub invariant-selectors : goal.invariant-selectors
invariant-selectors l = record {
  more : KnowsMore l.initial.self.names.keys l.self.names.keys;
  known : (k : ℕ) (selector : Selector) → k < l.place → slice_get l.selectors k ≡ Some selector → AreKnown l.self.names.keys selector;
}
