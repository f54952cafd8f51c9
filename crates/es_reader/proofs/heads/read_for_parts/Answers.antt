use Rattle.std.proofs.Common.{refl, arith, ap, ◌∙◌, max}
use Rattle.es_reader.proofs.TreeLemmas.{grows-trans}
use Rattle.std.proofs.lemmas.Option.{slice_get_within}
use Rattle.es_reader.proofs.BadLemmas.{handed, if-bad}
use Rattle.es_reader.proofs.HeadBadLemmas.{for-no-semicolon-at, for-test-stops-at, for-no-second-at, for-step-stops-at, for-no-close-at}
use Rattle.es_reader.proofs.HeadLemmas.{parts-at}
use Rattle.es_reader.proofs.heads.read_for_parts.Goals as goal

pub returns-clause-head : goal.returns-clause-head
returns-clause-head c =
    let g = grows-trans c.args.nodes.now c.read_part.new.nodes c.read_part-2.new.nodes (c.in_ok-test.ensures {u = tt}).grows (c.in_ok-step.ensures {u = tt}).grows in
    parts-at c.args.tokens.now c.args.place c.args.nodes.now c.read_part.new.nodes c.read_part-2.new.nodes c.args.first c.in_ok-test.test c.in_ok-step.step c.index-tokens-place.result c.in_ok-expect_mark.field-0.now c.in_ok-expect_mark-2.field-0.now c.in_ok-expect_mark-3.field-0.now _
    c.requires.word c.requires.open (c.in_ok-expect_mark.ensures {u = tt}).there (c.in_ok-expect_mark.ensures {u = tt}).mark (c.in_ok-test.ensures {u = tt}).part
    (c.in_ok-expect_mark-2.ensures {u = tt}).there (c.in_ok-expect_mark-2.ensures {u = tt}).mark (c.in_ok-step.ensures {u = tt}).part
    (c.in_ok-expect_mark-3.ensures {u = tt}).there (c.in_ok-expect_mark-3.ensures {u = tt}).mark (c.in_ok-test.ensures {u = tt}).grows (c.in_ok-step.ensures {u = tt}).grows g
    refl refl (c.in_ok-vec.ensures {u = tt}).items (c.higher-2.ensures ∙ ap (λ x. max c.args.first.height x) c.higher.ensures) refl

pub read_part-requires : goal.read_part-requires
read_part-requires c = let l = slice_get_within c.args.tokens.now c.args.first.behind c.in_ok-expect_mark.field-0.now (c.in_ok-expect_mark.ensures {u = tt}).there in omega (arith, l)

pub read_part-requires-2 : goal.read_part-requires-2
read_part-requires-2 c = let l = slice_get_within c.args.tokens.now c.in_ok-test.test.behind c.in_ok-expect_mark-2.field-0.now (c.in_ok-expect_mark-2.ensures {u = tt}).there in omega (arith, l)

pub returns-in_err-expect_mark-clause-bad : goal.returns-in_err-expect_mark-clause-bad
returns-in_err-expect_mark-clause-bad c = handed c.from_residual.result c.in_err-expect_mark.field-0.0 _ c.from_residual.ensures.1 (if-bad c.in_err-expect_mark.field-0.0 _ _ (for-no-semicolon-at c.args.tokens.now c.args.place c.args.nodes.now c.args.first c.requires.word c.requires.open c.requires.first) (c.in_err-expect_mark.ensures {u = tt}).lacks)

pub returns-in_err-test-clause-bad : goal.returns-in_err-test-clause-bad
returns-in_err-test-clause-bad c = handed c.from_residual-in_err-test.result c.in_err-test.field-0.0 _ c.from_residual-in_err-test.ensures.1 (if-bad c.in_err-test.field-0.0 _ _ (for-test-stops-at c.args.tokens.now c.args.place c.args.nodes.now c.args.first c.in_ok-expect_mark.field-0.now c.requires.word c.requires.open c.requires.first (c.in_ok-expect_mark.ensures {u = tt}).there (c.in_ok-expect_mark.ensures {u = tt}).mark) (c.in_err-test.ensures {u = tt}).bad)

pub returns-in_err-expect_mark-2-clause-bad : goal.returns-in_err-expect_mark-2-clause-bad
returns-in_err-expect_mark-2-clause-bad c = handed c.from_residual-in_err-expect_mark-2.result c.in_err-expect_mark-2.field-0.0 _ c.from_residual-in_err-expect_mark-2.ensures.1 (if-bad c.in_err-expect_mark-2.field-0.0 _ _ (for-no-second-at c.args.tokens.now c.args.place c.args.nodes.now c.read_part.new.nodes c.args.first c.in_ok-test.test c.in_ok-expect_mark.field-0.now c.requires.word c.requires.open c.requires.first (c.in_ok-expect_mark.ensures {u = tt}).there (c.in_ok-expect_mark.ensures {u = tt}).mark (c.in_ok-test.ensures {u = tt}).part) (c.in_err-expect_mark-2.ensures {u = tt}).lacks)

pub returns-in_err-step-clause-bad : goal.returns-in_err-step-clause-bad
returns-in_err-step-clause-bad c = handed c.from_residual-in_err-step.result c.in_err-step.field-0.0 _ c.from_residual-in_err-step.ensures.1 (if-bad c.in_err-step.field-0.0 _ _ (for-step-stops-at c.args.tokens.now c.args.place c.args.nodes.now c.read_part.new.nodes c.args.first c.in_ok-test.test c.in_ok-expect_mark.field-0.now c.in_ok-expect_mark-2.field-0.now c.requires.word c.requires.open c.requires.first (c.in_ok-expect_mark.ensures {u = tt}).there (c.in_ok-expect_mark.ensures {u = tt}).mark (c.in_ok-test.ensures {u = tt}).part (c.in_ok-expect_mark-2.ensures {u = tt}).there (c.in_ok-expect_mark-2.ensures {u = tt}).mark) (c.in_err-step.ensures {u = tt}).bad)

pub returns-in_err-expect_mark-3-clause-bad : goal.returns-in_err-expect_mark-3-clause-bad
returns-in_err-expect_mark-3-clause-bad c = handed c.from_residual-in_err-expect_mark-3.result c.in_err-expect_mark-3.field-0.0 _ c.from_residual-in_err-expect_mark-3.ensures.1 (if-bad c.in_err-expect_mark-3.field-0.0 _ _ (for-no-close-at c.args.tokens.now c.args.place c.args.nodes.now c.read_part.new.nodes c.read_part-2.new.nodes c.args.first c.in_ok-test.test c.in_ok-step.step c.in_ok-expect_mark.field-0.now c.in_ok-expect_mark-2.field-0.now c.requires.word c.requires.open c.requires.first (c.in_ok-expect_mark.ensures {u = tt}).there (c.in_ok-expect_mark.ensures {u = tt}).mark (c.in_ok-test.ensures {u = tt}).part (c.in_ok-expect_mark-2.ensures {u = tt}).there (c.in_ok-expect_mark-2.ensures {u = tt}).mark (c.in_ok-step.ensures {u = tt}).part) (c.in_err-expect_mark-3.ensures {u = tt}).lacks)
