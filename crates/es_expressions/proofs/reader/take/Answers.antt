use Rattle.std.proofs.Common.{◌≡◌, Option, Some, None, sym, ◌∙◌, subst}
use Rattle.es_expressions.specs.Standings.{held}
use Rattle.es_expressions.specs.declared.operands.Operand.{Operand}
use Rattle.es_expressions.specs.declared.places.Place.{Place}
use Rattle.es_expressions.specs.declared.places.Place.TheVariants.{Before, Behind, Naming}
use Rattle.es_expressions.specs.declared.places.Step.TheVariants.{Left, Taken}
use Rattle.es_expressions.proofs.FormLemmas.{if-one}
use Rattle.es_expressions.proofs.TakeLemmas.{Settling, moves-before, moves-behind, moves-none, moves-name, moves-nameless}
use Rattle.es_expressions.specs.Roles.{joint}
use Rattle.es_expressions.specs.Machine.{reach}
use Rattle.es_expressions.specs.Standings.{Moves}
use Rattle.es_expressions.specs.declared.roles.Joint.{Joint}
use Rattle.es_expressions.proofs.reader.take.Goals as goal

pub returns-then-not-is_name-clause-moves : goal.returns-then-not-is_name-clause-moves
returns-then-not-is_name-clause-moves c = subst (λ (p : Place). Moves c.args.base p c.args.token.now (held c.args.nodes.now c.args.frames.now) (held c.args.nodes.now c.args.frames.now) (Left (Naming c.in-Naming.base))) (sym c.in-Naming.is) (moves-nameless c.args.base c.args.token.now c.args.nodes.now c.args.frames.now c.in-Naming.base (sym c.is_name.ensures ∙ c.if-not-is_name.true))

pub returns-in-Before-clause-moves : goal.returns-in-Before-clause-moves
returns-in-Before-clause-moves c = if-one c.begin.result c.begin.ensures.begins (λ s b. subst (λ (p : Place). Moves c.args.base p c.args.token.now (held c.args.nodes.now c.args.frames.now) (held c.begin.new.nodes c.begin.new.frames) s) (sym c.in-Before.is) (moves-before c.args.base c.args.token.now (held c.args.nodes.now c.args.frames.now) (held c.begin.new.nodes c.begin.new.frames) s b))

pub returns-in-Some-clause-moves : goal.returns-in-Some-clause-moves
returns-in-Some-clause-moves c =
    let j : Joint = c.joint_of-joint.result in
    let there : joint c.args.token.now ≡ j = sym c.joint_of-joint.ensures in
    let settling : Settling (held c.args.nodes.now c.args.frames.now) (held c.settle.new.nodes c.settle.new.frames) c.in-Behind.operand (Some c.in-Some.operand) (reach j) = subst (λ r. Settling (held c.args.nodes.now c.args.frames.now) (held c.settle.new.nodes c.settle.new.frames) c.in-Behind.operand (Some c.in-Some.operand) r) c.reach.ensures (subst (λ (o : Option Operand). Settling (held c.args.nodes.now c.args.frames.now) (held c.settle.new.nodes c.settle.new.frames) c.in-Behind.operand o c.reach.result) c.in-Some.is (c.in_ok-operand-in-Behind.ensures {u = tt}).settled) in
    if-one c.join.result c.join.ensures.joins (λ s g. subst (λ (p : Place). Moves c.args.base p c.args.token.now (held c.args.nodes.now c.args.frames.now) (held c.join.new.nodes c.join.new.frames) s) (sym c.in-Behind.is) (moves-behind c.args.base c.args.token.now (held c.args.nodes.now c.args.frames.now) (held c.settle.new.nodes c.settle.new.frames) (held c.join.new.nodes c.join.new.frames) c.in-Behind.operand c.in-Some.operand s j there settling g))

pub returns-in-None-clause-moves : goal.returns-in-None-clause-moves
returns-in-None-clause-moves c =
    let j : Joint = c.joint_of-joint.result in
    let there : joint c.args.token.now ≡ j = sym c.joint_of-joint.ensures in
    let settling : Settling (held c.args.nodes.now c.args.frames.now) (held c.settle.new.nodes c.settle.new.frames) c.in-Behind.operand None (reach j) = subst (λ r. Settling (held c.args.nodes.now c.args.frames.now) (held c.settle.new.nodes c.settle.new.frames) c.in-Behind.operand None r) c.reach.ensures (subst (λ (o : Option Operand). Settling (held c.args.nodes.now c.args.frames.now) (held c.settle.new.nodes c.settle.new.frames) c.in-Behind.operand o c.reach.result) c.in-None.is (c.in_ok-operand-in-Behind.ensures {u = tt}).settled) in
    subst (λ (p : Place). Moves c.args.base p c.args.token.now (held c.args.nodes.now c.args.frames.now) (held c.settle.new.nodes c.settle.new.frames) (Left Before)) (sym c.in-Behind.is) (moves-none c.args.base c.args.token.now (held c.args.nodes.now c.args.frames.now) (held c.settle.new.nodes c.settle.new.frames) c.in-Behind.operand j there settling)

pub returns-in_ok-whole-in-Naming-clause-moves : goal.returns-in_ok-whole-in-Naming-clause-moves
returns-in_ok-whole-in-Naming-clause-moves c = subst (λ (p : Place). Moves c.args.base p c.args.token.now (held c.args.nodes.now c.args.frames.now) (held c.member.new.nodes c.args.frames.now) (Taken (Behind c.in_ok-whole-in-Naming.whole))) (sym c.in-Naming.is) (moves-name c.args.base c.args.token.now c.args.nodes.now c.member.new.nodes c.args.frames.now c.in-Naming.base c.in_ok-whole-in-Naming.whole (sym c.is_name.ensures ∙ c.if-not-is_name.false) (c.in_ok-whole-in-Naming.ensures {u = tt}).grows (λ b d h. (c.in_ok-whole-in-Naming.ensures {u = tt}).member b d h))
