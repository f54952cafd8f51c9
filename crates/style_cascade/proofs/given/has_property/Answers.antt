use Rattle.std.proofs.Common.{sym, ap, ◌∙◌}
use Rattle.std.specs.Prelude.{is_some}
use Rattle.style_reader.specs.declared.declarations.Declaration.{Declaration}
use Rattle.std.proofs.Common.{List}
use Rattle.style_cascade.specs.Candidates.{last_value}
use Rattle.style_cascade.proofs.GivenLemmas.{last-none, same-tested}
use Rattle.style_cascade.proofs.given.has_property.Goals as goal

pub declarations-preserved : goal.declarations-preserved
declarations-preserved c =
    sym (last-none c.args.property c.in-Some.first.now c.in-Some.more.now (same-tested c.in-Some.first.now.property c.args.property ∙ sym c.if-eq.ensures))
    ∙ ap (λ (l : List Declaration). is_some (last_value c.args.property l)) (sym (c.in-Some.ensures {u = tt}).cases.0) ∙ c.declarations.invariant
