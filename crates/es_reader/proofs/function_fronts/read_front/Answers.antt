use Rattle.es_reader.proofs.BadLemmas.{handed, if-bad}
use Rattle.es_reader.proofs.FrontBadLemmas.{front-no-name-at, front-no-open-at, front-parameters-at, front-no-body-at}
use Rattle.es_reader.proofs.HeadLemmas.{if-ok}
use Rattle.es_reader.proofs.LoopBadLemmas.{never-bad}
use Rattle.std.proofs.Common.{refl, ◌∙◌}
use Rattle.es_reader.proofs.FrontLemmas.{front-at}
use Rattle.es_reader.proofs.function_fronts.read_front.Goals as goal

pub expect_body-requires : goal.expect_body-requires
expect_body-requires c = (c.in_ok-read.ensures {u = tt}).parameters.1.within

pub returns-clause-front : goal.returns-clause-front
returns-clause-front c =
    let opens = (c.in_ok-behind.ensures {u = tt}).opens in
    let marks = opens.1 in
    if-ok c.front_of.result _ _
    (λ read is. front-at c.args.tokens.now c.args.place c.in_ok-name.name.now c.in_ok-name.name.now c.in_ok-expect_mark.field-0.now marks.close_mark.0 marks.open_mark.0 c.in_ok-read.read read
    c.requires (c.in_ok-name.ensures {u = tt}).name refl (c.in_ok-expect_mark.ensures {u = tt}).there (c.in_ok-expect_mark.ensures {u = tt}).mark
    (let x = (c.in_ok-read.ensures {u = tt}).parameters in (x.0, x.1)) marks.close_mark.1 marks.close_mark.2 marks.open_mark.1 marks.open_mark.2
    is.name_is is.names is.count (is.behind_is ∙ opens.0))
    c.front_of.ensures.front

pub returns-clause-bad : goal.returns-clause-bad
returns-clause-bad c = never-bad c.front_of.result _ c.front_of.ensures.never

pub returns-in_err-name-clause-bad : goal.returns-in_err-name-clause-bad
returns-in_err-name-clause-bad c = handed c.from_residual.result c.in_err-name.field-0.0 _ c.from_residual.ensures.1 (if-bad c.in_err-name.field-0.0 _ _ (front-no-name-at c.args.tokens.now c.args.place c.requires) (c.in_err-name.ensures {u = tt}).lacks)

pub returns-in_err-expect_mark-clause-bad : goal.returns-in_err-expect_mark-clause-bad
returns-in_err-expect_mark-clause-bad c = handed c.from_residual-in_err-expect_mark.result c.in_err-expect_mark.field-0.0 _ c.from_residual-in_err-expect_mark.ensures.1 (if-bad c.in_err-expect_mark.field-0.0 _ _ (front-no-open-at c.args.tokens.now c.args.place c.in_ok-name.name.now c.requires (c.in_ok-name.ensures {u = tt}).name) (c.in_err-expect_mark.ensures {u = tt}).lacks)

pub returns-in_err-read-clause-bad : goal.returns-in_err-read-clause-bad
returns-in_err-read-clause-bad c = handed c.from_residual-in_err-read.result c.in_err-read.field-0.0 _ c.from_residual-in_err-read.ensures.1 (if-bad c.in_err-read.field-0.0 _ _ (front-parameters-at c.args.tokens.now c.args.place c.in_ok-name.name.now c.in_ok-expect_mark.field-0.now c.requires (c.in_ok-name.ensures {u = tt}).name (c.in_ok-expect_mark.ensures {u = tt}).there (c.in_ok-expect_mark.ensures {u = tt}).mark) (c.in_err-read.ensures {u = tt}).bad)

pub returns-in_err-behind-clause-bad : goal.returns-in_err-behind-clause-bad
returns-in_err-behind-clause-bad c = handed c.from_residual-in_err-behind.result c.in_err-behind.field-0.0 _ c.from_residual-in_err-behind.ensures.1 (if-bad c.in_err-behind.field-0.0 _ _ (front-no-body-at c.args.tokens.now c.args.place c.in_ok-name.name.now c.in_ok-expect_mark.field-0.now c.in_ok-read.read c.requires (c.in_ok-name.ensures {u = tt}).name (c.in_ok-expect_mark.ensures {u = tt}).there (c.in_ok-expect_mark.ensures {u = tt}).mark (c.in_ok-read.ensures {u = tt}).parameters) (c.in_err-behind.ensures {u = tt}).bad)
