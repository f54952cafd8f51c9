use Rattle.std.proofs.Common.{◌≡◌, rules}
use Rattle.style_reader.specs.Readings.{inline_rules_by}
use Rattle.style_reader.proofs.FittingLaws.{inline-fits}
use Rattle.style_reader.proofs.rules.inline_rules.Goals as goal

pub invariant_of-result : goal.invariant_of-result
invariant_of-result c =
    let read : c.push-2.new.self.items ≡ inline_rules_by c.args.text.now = search rules in
    rw read (inline-fits c.args.text.now)
