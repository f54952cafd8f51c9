use Rattle.std.proofs.Common.{List, Option, sym, ap, subst, ◌∙◌}
use Rattle.std.specs.Prelude.{IfSome, IsTrue}
use Rattle.style_reader.specs.Values.{fits}
use Rattle.style_reader.specs.declared.properties.StyleValue.{StyleValue}
use Rattle.style_reader.specs.declared.rules.Rule.{Rule}
use Rattle.style_cascade.specs.Candidates.{declared_value}
use Rattle.style_cascade.proofs.LookupLemmas.{declared-fits, search-value}
use Rattle.style_cascade.proofs.sheets.Sheet.best.Goals as goal

pub returns-clause-best : goal.returns-clause-best
returns-clause-best c = λ state property.
    search-value c.self.inside.rules c.self.inside.index.numbers.names.keys c.self.inside.index.given.items c.self.inside.index.chains.chains c.args.subject.now c.in_ok-row.row c.search.new.row c.self.invariant.1 (c.in_ok-row.ensures {u = tt}) ((c.in_ok-search.ensures {u = tt}).sound c.self.inside.rules c.self.invariant.1) (c.in_ok-search.ensures {u = tt}).covers state property
    ∙ ap (λ (rules : List Rule). declared_value rules c.args.subject.now state property) c.self.view_is

pub returns-clause-fits : goal.returns-clause-fits
returns-clause-fits c = λ state property.
    subst (λ (o : Option StyleValue). IfSome o (λ value. IsTrue (fits property value)))
    (sym (search-value c.self.inside.rules c.self.inside.index.numbers.names.keys c.self.inside.index.given.items c.self.inside.index.chains.chains c.args.subject.now c.in_ok-row.row c.search.new.row c.self.invariant.1 (c.in_ok-row.ensures {u = tt}) ((c.in_ok-search.ensures {u = tt}).sound c.self.inside.rules c.self.invariant.1) (c.in_ok-search.ensures {u = tt}).covers state property))
    (declared-fits c.self.inside.rules c.args.subject.now state property c.self.invariant.0)
