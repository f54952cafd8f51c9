use Rattle.std.proofs.Common.{ℕ, List, Option, None, ap, sym, ◌∙◌}
use Rattle.style_reader.specs.declared.declarations.Declaration.{Declaration}
use Rattle.style_cascade.specs.Candidates.{last_value}
use Rattle.style_cascade.specs.devices.Indexing.{with_offer}
use Rattle.style_cascade.specs.devices.Rows.{found_in}
use Rattle.style_cascade.specs.devices.Searching.{best_with_both, greatest_of}
use Rattle.style_cascade.proofs.RowLemmas.{offer-nothing}
use Rattle.style_cascade.proofs.rows.Row.offer_in.Goals as goal

pub returns-in_default-clause-here : goal.returns-in_default-clause-here
returns-in_default-clause-here c = λ property.
    offer-nothing (found_in c.args.self.now c.args.state property) c.args.number (greatest_of c.args.subject.now c.args.state None c.args.rule.now.selectors) (last_value property c.args.rule.now.declarations)
    (sym (c.in_default.ensures {u = tt} ∙ ap (greatest_of c.args.subject.now c.args.state None) c.as_slice.ensures))

pub returns-clause-here : goal.returns-clause-here
returns-clause-here c = λ property.
    c.offer_each.ensures.here property
    ∙ ap (λ (g : Option ℕ). with_offer (found_in c.args.self.now c.args.state property) c.args.number (best_with_both None g (last_value property c.as_slice-2.result.now))) (c.in-Some.ensures {u = tt} ∙ ap (greatest_of c.args.subject.now c.args.state None) c.as_slice.ensures)
    ∙ ap (λ (l : List Declaration). with_offer (found_in c.args.self.now c.args.state property) c.args.number (best_with_both None (greatest_of c.args.subject.now c.args.state None c.args.rule.now.selectors) (last_value property l))) c.as_slice-2.ensures
