use Rattle.std.proofs.Common.{◌≡◌, false, ◌∷◌, sym, ◌∙◌, ap, rules}
use Rattle.es_expressions.specs.declared.frames.Frame.TheVariants.{Call}
use Rattle.es_expressions.proofs.FormLemmas.{if-one}
use Rattle.es_expressions.proofs.JoinLemmas.{taken-if, call-left, call-taken, called, called-other, is_new}
use Rattle.es_expressions.proofs.joining.call.Goals as goal

pub returns-then-not-takes_links-clause-joins : goal.returns-then-not-takes_links-clause-joins
returns-then-not-takes_links-clause-joins c = λ base t. call-left c.args.operand c.args.nodes.now c.args.frames.now (sym c.takes_links.ensures ∙ c.if-not-takes_links.true) base t

pub returns-in-New-clause-joins : goal.returns-in-New-clause-joins
returns-in-New-clause-joins c = taken-if _ c.open-in-New.result _ c.open-in-New.ensures.place c.open-in-New.ensures.opened
    (λ o base t. call-taken c.args.operand c.args.nodes.now c.single.new.nodes c.args.frames.now c.open-in-New.new.frames c.in_ok-callee.callee (sym c.takes_links.ensures ∙ c.if-not-takes_links.false) c.in_ok-callee.ensures.grows c.in_ok-callee.ensures.single
    (o ∙ sym (ap (called c.in_ok-callee.callee) ((c.in-Some.ensures {u = tt}) ∙ ap (λ x. x ∷ c.pop.new.self) c.in-New.is))) base t)

pub returns-in_ok-push-in_default-frame : goal.returns-in_ok-push-in_default-frame
returns-in_ok-push-in_default-frame c = record {
  grows = if-one c.open-in_default-frame.result c.open-in_default-frame.ensures.place (λ a b. c.in_ok-callee.ensures.grows);
  joins = taken-if _ c.open-in_default-frame.result _ c.open-in_default-frame.ensures.place c.open-in_default-frame.ensures.opened
      (λ o base t. let plain : is_new c.in-Some.frame ≡ false = search rules in
      call-taken c.args.operand c.args.nodes.now c.single.new.nodes c.args.frames.now _ c.in_ok-callee.callee (sym c.takes_links.ensures ∙ c.if-not-takes_links.false) c.in_ok-callee.ensures.grows c.in_ok-callee.ensures.single
      (o ∙ (ap (λ z. Call c.in_ok-callee.callee ∷ z) (c.in_ok-push-in_default-frame.ensures {u = tt}) ∙ sym (ap (called c.in_ok-callee.callee) (c.in-Some.ensures {u = tt}) ∙ called-other c.in_ok-callee.callee c.in-Some.frame c.pop.new.self plain))) base t);
}
