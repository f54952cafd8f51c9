use Rattle.std.proofs.Common.{Option, Some, None, sym, subst}
use Rattle.es_expressions.specs.Standings.{held, IsSettledAs}
use Rattle.es_expressions.specs.declared.operands.Operand.{Operand}
use Rattle.es_expressions.specs.declared.places.Place.{Place}
use Rattle.es_expressions.specs.declared.expressions.Found.{Found}
use Rattle.es_expressions.proofs.StandLemmas.{grows-refl}
use Rattle.es_expressions.proofs.TakeLemmas.{finds-none, finds-behind, finds-failed, finds-open, finds-whole}
use Rattle.es_expressions.specs.Machine.{State, finish, settled}
use Rattle.es_expressions.specs.Standings.{PlaceStands, IsFoundAs}
use Rattle.es_expressions.proofs.reader.finish.Goals as goal

pub returns-in_default : goal.returns-in_default
returns-in_default c = record { grows = grows-refl c.args.nodes.now; found = finds-none c.args.place c.args.nodes.now c.args.frames.now c.in_default.not-Behind }

pub returns-in_default-2-clause-found : goal.returns-in_default-2-clause-found
returns-in_default-2-clause-found c = subst (λ (p : Place). (s : State) → PlaceStands p c.args.nodes.now c.args.frames.now s → IsFoundAs c.settle.new.nodes None (finish s)) (sym c.in-Behind.is) (finds-behind (held c.args.nodes.now c.args.frames.now) c.in-Behind.operand c.settle.new.nodes None (λ fs e a k. finds-failed c.settle.new.nodes c.settle.new.frames (settled fs 0 e) (subst (λ (o : Option Operand). IsSettledAs c.settle.new.nodes o c.settle.new.frames (settled fs 0 e)) c.in_default-2.is (c.in_ok-whole.ensures.settled fs e a k))))

pub returns-then-not-is_empty-clause-found : goal.returns-then-not-is_empty-clause-found
returns-then-not-is_empty-clause-found c = subst (λ (p : Place). (s : State) → PlaceStands p c.args.nodes.now c.args.frames.now s → IsFoundAs c.settle.new.nodes None (finish s)) (sym c.in-Behind.is) (finds-behind (held c.args.nodes.now c.args.frames.now) c.in-Behind.operand c.settle.new.nodes None (λ fs e a k. finds-open c.settle.new.nodes c.in-Some.whole c.settle.new.frames (settled fs 0 e) (λ q. let t = c.is_empty.ensures.1 q in absurd (cc (t, c.if-not-is_empty.true))) (subst (λ (o : Option Operand). IsSettledAs c.settle.new.nodes o c.settle.new.frames (settled fs 0 e)) c.in-Some.is (c.in_ok-whole.ensures.settled fs e a k))))

pub returns-clause-found : goal.returns-clause-found
returns-clause-found c =
    let f : Found = record { node = c.in_ok-single.single.node; height = c.in_ok-single.single.height; is_target = c.in-Some.whole.is_target } in
    subst (λ (p : Place). (s : State) → PlaceStands p c.args.nodes.now c.args.frames.now s → IsFoundAs c.single.new.nodes (Some f) (finish s)) (sym c.in-Behind.is)
    (finds-behind (held c.args.nodes.now c.args.frames.now) c.in-Behind.operand c.single.new.nodes (Some f) (λ fs e a k.
    finds-whole c.settle.new.nodes c.single.new.nodes c.in-Some.whole c.settle.new.frames (settled fs 0 e) f (c.is_empty.ensures.0 c.if-not-is_empty.false)
    (λ w h. let g = c.in_ok-single.ensures.single w h in record { tree = g.tree; height = g.height; target = h.target })
    (subst (λ (o : Option Operand). IsSettledAs c.settle.new.nodes o c.settle.new.frames (settled fs 0 e)) c.in-Some.is (c.in_ok-whole.ensures.settled fs e a k))))
