use Rattle.std.proofs.Common.{◌≡◌, List, ◌++◌, length}
use Rattle.std.specs.Prelude.{option_map}
use Rattle.std.specs.List.{slice_split}
use Rattle.style_reader.specs.Readings.{all_selectors}
use Rattle.style_reader.specs.Rules.{is_comma}
use Rattle.style_reader.specs.declared.selectors.Selector.{Selector}
use Rattle.style_reader.proofs.selectors.selectors_of.Given as goal

abbrev pub invariant-selectors : goal.invariant-selectors
invariant-selectors l = option_map (λ (more : List Selector). l.selectors.items ++ more) (all_selectors (slice_split is_comma l.rest)) ≡ all_selectors (slice_split is_comma l.text)

abbrev pub decreases-selectors : goal.decreases-selectors
decreases-selectors l = length l.rest
