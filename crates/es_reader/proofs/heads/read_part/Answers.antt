use Rattle.es_reader.proofs.PartLemmas.{fails}
use Rattle.es_reader.proofs.BadLemmas.{handed, if-bad}
use Rattle.es_reader.proofs.HeadLemmas.{part-at}
use Rattle.es_reader.proofs.heads.read_part.Goals as goal

pub returns-clause-part : goal.returns-clause-part
returns-clause-part c = part-at c.args.mark c.args.tokens.now c.args.place c.read_whole.new.nodes c.in_ok-whole.whole (fails _ c.is_mark_at.result c.is_mark_at.ensures.1 c.if-is_mark_at.false) (c.in_ok-whole.ensures {u = tt}).whole

pub returns-in_err-whole-clause-bad : goal.returns-in_err-whole-clause-bad
returns-in_err-whole-clause-bad c = handed c.from_residual-in_err-whole.result c.in_err-whole.field-0.0 _ c.from_residual-in_err-whole.ensures.1 (if-bad c.in_err-whole.field-0.0 _ _ (λ bad s. (s, fails _ c.is_mark_at.result c.is_mark_at.ensures.1 c.if-is_mark_at.false)) (c.in_err-whole.ensures {u = tt}).stops)
