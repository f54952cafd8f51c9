use Rattle.std.proofs.Common.{refl, arith, ◌+◌}
use Rattle.std.proofs.lemmas.Option.{slice_get_within}
use Rattle.es_reader.proofs.BadLemmas.{handed, if-bad}
use Rattle.es_reader.proofs.HeadBadLemmas.{test-no-open-at, test-stops-at, test-no-close-at}
use Rattle.es_reader.proofs.HeadLemmas.{test-at}
use Rattle.es_reader.proofs.heads.read_test.Goals as goal

pub returns-clause-head : goal.returns-clause-head
returns-clause-head c =
    test-at c.args.tokens.now c.args.place c.read_whole.new.nodes c.args.form c.in_ok-test.test c.index-tokens-place.result c.in_ok-expect_mark.field-0.now c.in_ok-expect_mark-2.field-0.now _
    c.requires (c.in_ok-expect_mark.ensures {u = tt}).there (c.in_ok-expect_mark.ensures {u = tt}).mark (c.in_ok-test.ensures {u = tt}).whole (c.in_ok-expect_mark-2.ensures {u = tt}).there (c.in_ok-expect_mark-2.ensures {u = tt}).mark
    refl refl (c.in_ok-vec.ensures {u = tt}).items refl refl

pub read_whole-requires : goal.read_whole-requires
read_whole-requires c = let l = slice_get_within c.args.tokens.now (c.args.place + 1) c.in_ok-expect_mark.field-0.now (c.in_ok-expect_mark.ensures {u = tt}).there in omega (arith, l)

pub returns-in_err-expect_mark-clause-bad : goal.returns-in_err-expect_mark-clause-bad
returns-in_err-expect_mark-clause-bad c = handed c.from_residual.result c.in_err-expect_mark.field-0.0 _ c.from_residual.ensures.1 (if-bad c.in_err-expect_mark.field-0.0 _ _ (test-no-open-at c.args.tokens.now c.args.place c.args.form c.requires) (c.in_err-expect_mark.ensures {u = tt}).lacks)

pub returns-in_err-test-clause-bad : goal.returns-in_err-test-clause-bad
returns-in_err-test-clause-bad c = handed c.from_residual-in_err-test.result c.in_err-test.field-0.0 _ c.from_residual-in_err-test.ensures.1 (if-bad c.in_err-test.field-0.0 _ _ (test-stops-at c.args.tokens.now c.args.place c.args.form c.in_ok-expect_mark.field-0.now c.requires (c.in_ok-expect_mark.ensures {u = tt}).there (c.in_ok-expect_mark.ensures {u = tt}).mark) (c.in_err-test.ensures {u = tt}).stops)

pub returns-in_err-expect_mark-2-clause-bad : goal.returns-in_err-expect_mark-2-clause-bad
returns-in_err-expect_mark-2-clause-bad c = handed c.from_residual-in_err-expect_mark-2.result c.in_err-expect_mark-2.field-0.0 _ c.from_residual-in_err-expect_mark-2.ensures.1 (if-bad c.in_err-expect_mark-2.field-0.0 _ _ (test-no-close-at c.args.tokens.now c.args.place c.args.form c.read_whole.new.nodes c.in_ok-expect_mark.field-0.now c.in_ok-test.test c.requires (c.in_ok-expect_mark.ensures {u = tt}).there (c.in_ok-expect_mark.ensures {u = tt}).mark (c.in_ok-test.ensures {u = tt}).whole) (c.in_err-expect_mark-2.ensures {u = tt}).lacks)
