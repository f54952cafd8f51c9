use Rattle.std.proofs.Common.{◌≡◌, ℕ, List, [], ◌∷◌, ◌++◌, sym, ◌∙◌, ap, subst}
use Rattle.es_expressions.specs.Meaning.{parts_of}
use Rattle.es_expressions.specs.Standings.{StandAt}
use Rattle.es_expressions.proofs.StandLemmas.{parts-of-node}
use Rattle.es_expressions.specs.Standings.{ContentStands}
use Rattle.es_expressions.proofs.operands.Operand.parts.Goals as goal

pub returns-in_ok-push-in-Node : goal.returns-in_ok-push-in-Node
returns-in_ok-push-in-Node c = λ e h.
    let there : c.push.new.self.items ≡ c.in-Node.node ∷ [] = c.in_ok-push-in-Node.ensures.items ∙ ap (λ (x : List ℕ). x ++ (c.in-Node.node ∷ [])) c.new-parts.ensures.items in
    subst (λ ns. StandAt (parts_of e) c.args.nodes.now ns) (sym there) (parts-of-node c.args.nodes.now c.in-Node.node e (subst (λ z. ContentStands z c.args.nodes.now e) c.in-Node.is h.content))
