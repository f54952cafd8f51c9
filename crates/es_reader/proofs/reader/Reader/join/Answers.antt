use Rattle.std.proofs.Common.{refl, arith, ap, ◌∙◌, ◌+◌, min}
use Rattle.es_reader.proofs.PartLemmas.{fails}
use Rattle.es_reader.proofs.LoopLemmas.{in-block, else-opened, head-ended, else-ended}
use Rattle.es_reader.proofs.reader.Reader.join.Goals as goal

pub returns-in_ok-push-in-Block : goal.returns-in_ok-push-in-Block
returns-in_ok-push-in-Block c = (omega arith, in-block c.args.tokens.now c.args.stated _ _ c.args.form _ c.args.self.now.forms c.requires refl c.in-Block.is (c.in_ok-push-in-Block.ensures {u = tt}) refl refl refl (c.in_ok-push.ensures {u = tt}).items c.higher-height.ensures refl refl refl refl refl refl refl)

pub returns-then-has_else : goal.returns-then-has_else
returns-then-has_else c =
    let e = c.has_else.ensures.0 c.if-has_else.true in
    (omega arith, else-opened c.args.tokens.now c.args.stated _ _ c.args.form _ c.args.self.now.forms c.requires refl c.in-Head.is e.0 e.1 (c.in_ok-push-in-Head.ensures {u = tt}) refl refl refl (c.in_ok-push.ensures {u = tt}).items (c.deeper.ensures ∙ ap (λ x. min 65 (x + 1)) c.higher-height.ensures) refl refl refl refl refl refl refl)

pub returns-in_ok-whole-in-Head : goal.returns-in_ok-whole-in-Head
returns-in_ok-whole-in-Head c =
    head-ended c.args.tokens.now c.args.stated c.in_ok-whole-in-Head.whole _ c.args.self.now c.end_form.new.self c.args.form _ c.args.self.now.forms c.requires refl c.in-Head.is
    (λ i t. fails _ c.has_else.result c.has_else.ensures.1 c.if-has_else.false (i, t)) refl refl (c.in_ok-push.ensures {u = tt}).items (c.deeper.ensures ∙ ap (λ x. min 65 (x + 1)) c.higher-height.ensures)
    (c.in_ok-whole-in-Head.ensures {u = tt}) refl refl refl refl refl refl refl

pub returns-in_ok-whole-in-Else : goal.returns-in_ok-whole-in-Else
returns-in_ok-whole-in-Else c =
    else-ended c.args.tokens.now c.args.stated c.in_ok-whole-in-Else.whole _ c.args.self.now c.end_form-in-Else.new.self c.args.form _ c.args.self.now.forms c.requires refl c.in-Else.is
    refl refl (c.in_ok-push.ensures {u = tt}).items c.higher-height.ensures
    (c.in_ok-whole-in-Else.ensures {u = tt}) refl refl refl refl refl refl refl
