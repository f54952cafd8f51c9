use Rattle.std.proofs.Common.{◌≡◌, false, refl, rules}
use Rattle.es_expressions.specs.Standings.{is_chosen}
use Rattle.es_expressions.specs.declared.roles.Joint.TheVariants.{Colon}
use Rattle.es_expressions.proofs.JoinLemmas.{taken-if}
use Rattle.es_expressions.proofs.TakeLemmas.{chosen-opens, colon-taken, other-left, none-left, refuses-colon}
use Rattle.es_expressions.proofs.joining.colon.Goals as goal

pub returns-in_default-clause-joins : goal.returns-in_default-clause-joins
returns-in_default-clause-joins c = λ base t. none-left Colon c.args.nodes.now c.args.frames.now c.pop.new.self c.args.operand (λ _ _ _. refl) (c.in_default.ensures {u = tt}).0 (c.in_default.ensures {u = tt}).1 base t

pub returns-in_ok-chosen-in-Chosen-clause-joins : goal.returns-in_ok-chosen-in-Chosen-clause-joins
returns-in_ok-chosen-in-Chosen-clause-joins c = taken-if _ c.open.result _ c.open.ensures.place c.open.ensures.opened (λ o base t. colon-taken c.args.nodes.now c.single.new.nodes c.args.frames.now c.pop.new.self c.open.new.frames c.in-Some.frame _ c.args.operand c.in_ok-chosen-in-Chosen.chosen (c.in-Some.ensures {u = tt}) o c.in_ok-chosen-in-Chosen.ensures.grows c.in_ok-chosen-in-Chosen.ensures.single (chosen-opens c.in-Some.frame c.in-Chosen.test c.in_ok-chosen-in-Chosen.chosen c.in-Chosen.is) base t)

pub returns-in_ok-push-in_default-frame-clause-joins : goal.returns-in_ok-push-in_default-frame-clause-joins
returns-in_ok-push-in_default-frame-clause-joins c = λ base t.
    let plain : is_chosen c.in-Some.frame ≡ false = search rules in
    other-left Colon c.args.nodes.now c.args.frames.now c.pop.new.self c.push.new.self c.in-Some.frame c.args.operand (refuses-colon c.in-Some.frame plain) (c.in-Some.ensures {u = tt}) (c.in_ok-push-in_default-frame.ensures {u = tt}) base t
