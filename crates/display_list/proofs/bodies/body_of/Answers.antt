use Rattle.std.proofs.Common.{◌≡◌, ℕ, length, subst, sym, arith}
use Rattle.display_list.proofs.FirstLemmas.{NoneBefore, body_of-found, body_of-none}
use Rattle.display_list.proofs.bodies.body_of.Goals as goal

pub returns-then-is_body : goal.returns-then-is_body
returns-then-is_body c = body_of-found c.args.tree.now c.nodes.number (omega arith) c.nodes.invariant (sym (c.if-is_body.ensures {u = tt}))

pub returns : goal.returns
returns c =
    let all : c.nodes.number ≡ length c.args.tree.now = omega arith in
    body_of-none c.args.tree.now (subst (λ (n : ℕ). NoneBefore c.args.tree.now n) all c.nodes.invariant)
