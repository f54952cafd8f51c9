use Rattle.std.proofs.Common.{◌≡◌, take}
use Rattle.style_reader.proofs.rules.copied_rules.Given as goal

abbrev pub invariant-rules : goal.invariant-rules
invariant-rules l = l.copy.items ≡ take l.rule-index l.rules
