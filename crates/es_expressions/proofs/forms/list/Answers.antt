use Rattle.std.proofs.Common.{◌≡◌, List, [], ◌∷◌, ◌++◌, refl, sym, ◌∙◌, subst}
use Rattle.es_expressions.specs.Meaning.{parts_of}
use Rattle.es_expressions.specs.Nodes.{NodeRow}
use Rattle.es_expressions.specs.Standings.{IsSingle, Stands, StandAt}
use Rattle.es_expressions.proofs.FormLemmas.{comma-stands, comma-height}
use Rattle.es_expressions.proofs.StandLemmas.{operand-grown}
use Rattle.es_expressions.specs.Phrases.Phrase.{Comma}
use Rattle.es_expressions.proofs.forms.list.Goals as goal

pub returns-clause-list : goal.returns-clause-list
returns-clause-list c = λ a b k h g.
    let rows : List NodeRow = c.single.new.nodes in
    let grown : Stands rows c.args.front a = operand-grown c.args.nodes.now rows c.args.front a c.in_ok-last.ensures.grows h in
    let last : IsSingle rows c.in_ok-last.last b = c.in_ok-last.ensures.single b g in
    let items : c.push.new.self.items ≡ c.in_ok-parts.parts.items ++ (c.in_ok-last.last.node ∷ []) = c.in_ok-push.ensures.items in
    record {
      level_is = refl;
      target = refl;
      start = h.start;
      stop = last.stop;
      height = c.max-height.ensures ∙ comma-height rows c.args.front c.in_ok-last.last a b k grown last;
      content = (refl, subst (λ ns. StandAt (parts_of (Comma a k b)) rows ns) (sym items) (comma-stands rows c.args.front c.in_ok-last.last c.in_ok-parts.parts.items a b k grown last (c.in_ok-parts.ensures a grown)));
    }
