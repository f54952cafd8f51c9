use Rattle.std.proofs.Common.{Some, None}
use Rattle.style_reader.proofs.SelectorLemmas.{before-without, before-with}
use Rattle.style_reader.proofs.selectors.split_pseudo_class.Goals as goal

pub returns-in_err-pseudo_class-in-Some : goal.returns-in_err-pseudo_class-in-Some
returns-in_err-pseudo_class-in-Some c =
    rw c.from_residual.ensures (before-with c.args.text.now c.in-Some.subject.now c.in-Some.word.now None (c.in-Some.ensures {u = tt}).pieces c.in_err-pseudo_class-in-Some.ensures)

pub returns-in-None : goal.returns-in-None
returns-in-None c = before-without c.args.text.now (c.in-None.ensures {u = tt}).pieces

pub returns-in_ok-pseudo_class-in-Some : goal.returns-in_ok-pseudo_class-in-Some
returns-in_ok-pseudo_class-in-Some c =
    before-with c.args.text.now c.in-Some.subject.now c.in-Some.word.now (Some c.in_ok-pseudo_class-in-Some.pseudo_class) (c.in-Some.ensures {u = tt}).pieces c.in_ok-pseudo_class-in-Some.ensures
