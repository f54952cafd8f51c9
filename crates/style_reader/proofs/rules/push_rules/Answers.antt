use Rattle.std.proofs.Common.{◌++◌, arith}
use Rattle.std.proofs.lemmas.Grind.{common_steps}
use Rattle.style_reader.specs.Readings.{rules_in, sheet_of}
use Rattle.style_reader.specs.devices.Views.{rules_by_part}
use Rattle.style_reader.proofs.SheetLemmas.{rules-all, rules-more}
use Rattle.style_reader.proofs.rules.push_rules.Goals as goal

pub parts-preserved : goal.parts-preserved
parts-preserved c =
    (rules-more c.parts.rules.items c.push_part.new.rules.items (rules_by_part c.in-Some.part) (c.args.rules.now.items ++ rules_in (sheet_of c.args.text.now)) c.parts.rest.now c.in-Some.behind.now c.parts.invariant.0 (c.in_ok-push_part.ensures {u = tt}).ok (c.in-Some.ensures {u = tt}).part, grind (arith, common_steps))

pub returns-clause-ok : goal.returns-clause-ok
returns-clause-ok c = rules-all c.parts.rules.items (c.args.rules.now.items ++ rules_in (sheet_of c.args.text.now)) c.parts.rest.now c.parts.invariant.0 (c.in_default.ensures {u = tt}).part
