use Rattle.std.proofs.Common.{arith, ◌+◌, refl}
use Rattle.std.proofs.lemmas.Option.{slice_get_within}
use Rattle.es_reader.specs.Statements.First.{NoFirst, FirstExpression}
use Rattle.es_reader.specs.Statements.Visitor.{Target}
use Rattle.es_reader.proofs.PartLemmas.{fails}
use Rattle.es_reader.proofs.BadLemmas.{handed, if-bad}
use Rattle.es_reader.proofs.HeadBadLemmas.{for-no-open-at, for-expression-stops-at}
use Rattle.es_reader.proofs.HeadLemmas.{if-ok, no-first-at, first-at, target-at}
use Rattle.es_reader.proofs.TreeLemmas.{grows-trans}
use Rattle.es_reader.proofs.heads.read_for.Goals as goal

pub returns-then-is_mark_at-clause-head : goal.returns-then-is_mark_at-clause-head
returns-then-is_mark_at-clause-head c =
    let m = c.is_mark_at.ensures.0 c.if-is_mark_at.true in
    let l = slice_get_within c.args.tokens.now (c.args.place + 2) m.0 m.1 in
    let f = no-first-at c.args.tokens.now (c.args.place + 2) c.absent.new.nodes c.in_ok-first.first m (omega (arith, l)) (c.in_ok-first.ensures {u = tt}).absent in
    if-ok c.read_for_parts.result _ _ (λ read h. h NoFirst c.args.names.now c.args.names.now f refl) c.read_for_parts.ensures.head

pub read_whole-requires : goal.read_whole-requires
read_whole-requires c = let l = slice_get_within c.args.tokens.now (c.args.place + 1) c.in_ok-expect_mark.field-0.now (c.in_ok-expect_mark.ensures {u = tt}).there in omega (arith, l)

pub read_for_in-requires-clause-visitor : goal.read_for_in-requires-clause-visitor
read_for_in-requires-clause-visitor c =
    let w = (c.in_ok-first-2.ensures {u = tt}).whole in
    (Target w.0, target-at c.args.tokens.now (c.args.place + 2) c.read_whole.new.nodes w.0 c.in_ok-first-2.first w.1 (c.is_in_behind.ensures.0 c.if-is_in_behind.true).0)

pub returns-then-is_in_behind-clause-grows : goal.returns-then-is_in_behind-clause-grows
returns-then-is_in_behind-clause-grows c = if-ok c.read_for_in.result _ _ (λ x g. grows-trans c.args.nodes.now c.read_whole.new.nodes c.read_for_in.new.nodes (c.in_ok-first-2.ensures {u = tt}).grows g) c.read_for_in.ensures.grows

pub returns-then-is_in_behind-clause-head : goal.returns-then-is_in_behind-clause-head
returns-then-is_in_behind-clause-head c =
    let w = (c.in_ok-first-2.ensures {u = tt}).whole in
    if-ok c.read_for_in.result _ _ (λ read h. h (Target w.0) c.args.names.now c.args.names.now (target-at c.args.tokens.now (c.args.place + 2) c.read_whole.new.nodes w.0 c.in_ok-first-2.first w.1 (c.is_in_behind.ensures.0 c.if-is_in_behind.true).0) refl) c.read_for_in.ensures.head

pub read_for_parts-requires-2-clause-first : goal.read_for_parts-requires-2-clause-first
read_for_parts-requires-2-clause-first c =
    let w = (c.in_ok-first-2.ensures {u = tt}).whole in
    (FirstExpression w.0, first-at c.args.tokens.now (c.args.place + 2) c.read_whole.new.nodes w.0 c.in_ok-first-2.first w.1 (fails _ c.is_mark_at.result c.is_mark_at.ensures.1 c.if-is_mark_at.false) (fails _ c.is_word_at.result c.is_word_at.ensures.1 c.if-is_word_at.false) (λ b i. fails _ c.is_in_behind.result c.is_in_behind.ensures.1 c.if-is_in_behind.false (b, i)))

pub returns-clause-grows : goal.returns-clause-grows
returns-clause-grows c = if-ok c.read_for_parts-2.result _ _ (λ x g. grows-trans c.args.nodes.now c.read_whole.new.nodes c.read_for_parts-2.new.nodes (c.in_ok-first-2.ensures {u = tt}).grows g) c.read_for_parts-2.ensures.grows

pub returns-clause-head : goal.returns-clause-head
returns-clause-head c =
    let w = (c.in_ok-first-2.ensures {u = tt}).whole in
    if-ok c.read_for_parts-2.result _ _ (λ read h. h (FirstExpression w.0) c.args.names.now c.args.names.now (first-at c.args.tokens.now (c.args.place + 2) c.read_whole.new.nodes w.0 c.in_ok-first-2.first w.1 (fails _ c.is_mark_at.result c.is_mark_at.ensures.1 c.if-is_mark_at.false) (fails _ c.is_word_at.result c.is_word_at.ensures.1 c.if-is_word_at.false) (λ b i. fails _ c.is_in_behind.result c.is_in_behind.ensures.1 c.if-is_in_behind.false (b, i))) refl) c.read_for_parts-2.ensures.head

pub returns-in_err-expect_mark-clause-bad : goal.returns-in_err-expect_mark-clause-bad
returns-in_err-expect_mark-clause-bad c = handed c.from_residual.result c.in_err-expect_mark.field-0.0 _ c.from_residual.ensures.1 (if-bad c.in_err-expect_mark.field-0.0 _ _ (for-no-open-at c.args.tokens.now c.args.place c.requires) (c.in_err-expect_mark.ensures {u = tt}).lacks)

pub returns-in_err-first-2-clause-bad : goal.returns-in_err-first-2-clause-bad
returns-in_err-first-2-clause-bad c = handed c.from_residual-in_err-first-2.result c.in_err-first-2.field-0.0 _ c.from_residual-in_err-first-2.ensures.1 (if-bad c.in_err-first-2.field-0.0 _ _ (for-expression-stops-at c.args.tokens.now c.args.place c.requires (c.in_ok-expect_mark.field-0.now, (c.in_ok-expect_mark.ensures {u = tt}).there, (c.in_ok-expect_mark.ensures {u = tt}).mark) (fails _ c.is_mark_at.result c.is_mark_at.ensures.1 c.if-is_mark_at.false) (fails _ c.is_word_at.result c.is_word_at.ensures.1 c.if-is_word_at.false)) (c.in_err-first-2.ensures {u = tt}).stops)
