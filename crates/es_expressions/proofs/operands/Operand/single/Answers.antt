use Rattle.std.proofs.Common.{◌≡◌, [], ◌∷◌, ◌++◌, None, ap}
use Rattle.es_expressions.specs.Meaning.{node}
use Rattle.es_expressions.proofs.StandLemmas.{single-of-node, single-of-parts}
use Rattle.es_expressions.specs.Standings.{ContentStands}
use Rattle.es_expressions.specs.declared.nodes.Form.TheVariants.{Comma as CommaForm}
use Rattle.es_expressions.proofs.StandLemmas.{row}
use Rattle.es_expressions.proofs.operands.Operand.single.Goals as goal

pub returns-in-Node-clause-single : goal.returns-in-Node-clause-single
returns-in-Node-clause-single c = λ e h. single-of-node c.args.nodes.now c.args.self c.in-Node.node e c.in-Node.is h

pub returns-in_ok-node-in-Parts-clause-single : goal.returns-in_ok-node-in-Parts-clause-single
returns-in_ok-node-in-Parts-clause-single c = λ e h.
    let added : c.push.new.self ≡ c.args.nodes.now ++ (row (node CommaForm c.args.self.start c.args.self.«end» None) c.in-Parts.parts.items ∷ []) = cc ((c.in_ok-node-in-Parts.ensures {u = tt}).pushed, c.in-Parts.parts-is) in
    single-of-parts c.args.nodes.now c.push.new.self c.args.self c.in-Parts.parts.items c.in_ok-node-in-Parts.node c.deeper.result e (ap (λ z. ContentStands z c.args.nodes.now e) c.in-Parts.is) (c.in_ok-node-in-Parts.ensures {u = tt}).number added c.deeper.ensures h
