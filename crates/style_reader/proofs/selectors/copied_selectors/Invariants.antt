use Rattle.std.proofs.Common.{◌≡◌, take}
use Rattle.style_reader.proofs.selectors.copied_selectors.Given as goal

abbrev pub invariant-selectors : goal.invariant-selectors
invariant-selectors l = l.copy.items ≡ take l.selector-index l.selectors
