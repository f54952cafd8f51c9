use Rattle.std.proofs.Common.{◌≡◌, ◌++◌, length}
use Rattle.style_reader.specs.Readings.{rules_in, sheet_of}
use Rattle.style_reader.specs.devices.Views.{KeepsFront}
use Rattle.style_reader.proofs.rules.push_rules.Given as goal

abbrev pub invariant-parts : goal.invariant-parts
invariant-parts l = (l.rules.items ++ rules_in (sheet_of l.rest) ≡ l.initial.rules.items ++ rules_in (sheet_of l.text)) × KeepsFront l.initial.rules.items l.rules.items

abbrev pub decreases-parts : goal.decreases-parts
decreases-parts l = length l.rest
