use Rattle.style_reader.specs.Readings.{rules_in, sheet_of}
use Rattle.style_reader.proofs.FittingLaws.{fitting-append, sheet-fits}
use Rattle.style_reader.proofs.rules.Rules.push_sheet.Goals as goal

pub invariant_of-self : goal.invariant_of-self
invariant_of-self c =
    rw (c.in-Ok.ensures {u = tt}).ok (fitting-append c.self.inside.rules.items (rules_in (sheet_of c.args.text.now)) c.self.invariant (sheet-fits (sheet_of c.args.text.now)))
