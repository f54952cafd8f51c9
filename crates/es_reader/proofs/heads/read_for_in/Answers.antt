use Rattle.std.proofs.Common.{refl}
use Rattle.es_reader.proofs.BadLemmas.{handed, if-bad}
use Rattle.es_reader.proofs.HeadBadLemmas.{for-object-stops-at, for-object-no-close-at}
use Rattle.es_reader.proofs.HeadLemmas.{in-at}
use Rattle.es_reader.proofs.heads.read_for_in.Goals as goal

pub returns-clause-head : goal.returns-clause-head
returns-clause-head c =
    in-at c.args.tokens.now c.args.place c.args.nodes.now c.read_whole.new.nodes c.args.visitor c.in_ok-object.object c.index-tokens-place.result c.in_ok-expect_mark.field-0.now _
    c.requires.word c.requires.open c.requires.in_word (c.in_ok-object.ensures {u = tt}).whole (c.in_ok-expect_mark.ensures {u = tt}).there (c.in_ok-expect_mark.ensures {u = tt}).mark (c.in_ok-object.ensures {u = tt}).grows
    refl refl (c.in_ok-vec.ensures {u = tt}).items c.higher.ensures refl

pub returns-in_err-object-clause-bad : goal.returns-in_err-object-clause-bad
returns-in_err-object-clause-bad c = handed c.from_residual.result c.in_err-object.field-0.0 _ c.from_residual.ensures.1 (if-bad c.in_err-object.field-0.0 _ _ (for-object-stops-at c.args.tokens.now c.args.place c.args.nodes.now c.args.visitor c.requires.word c.requires.open c.requires.visitor c.requires.in_word) (c.in_err-object.ensures {u = tt}).stops)

pub returns-in_err-expect_mark-clause-bad : goal.returns-in_err-expect_mark-clause-bad
returns-in_err-expect_mark-clause-bad c = handed c.from_residual-in_err-expect_mark.result c.in_err-expect_mark.field-0.0 _ c.from_residual-in_err-expect_mark.ensures.1 (if-bad c.in_err-expect_mark.field-0.0 _ _ (for-object-no-close-at c.args.tokens.now c.args.place c.args.nodes.now c.read_whole.new.nodes c.args.visitor c.in_ok-object.object c.requires.word c.requires.open c.requires.visitor c.requires.in_word (c.in_ok-object.ensures {u = tt}).whole) (c.in_err-expect_mark.ensures {u = tt}).lacks)
