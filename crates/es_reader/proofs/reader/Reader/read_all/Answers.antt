use Rattle.std.proofs.Common.{arith, rules, refl}
use Rattle.es_reader.proofs.PartLemmas.{fails}
use Rattle.es_reader.proofs.LoopLemmas.{kept-at}
use Rattle.es_reader.proofs.LoopBadLemmas.{end-in-form, end-in-function}
use Rattle.es_reader.proofs.reader.Reader.read_all.Goals as goal

pub returns-then-not-is_empty-clause-bad : goal.returns-then-not-is_empty-clause-bad
returns-then-not-is_empty-clause-bad c = end-in-form c.args.tokens.now c.statements.place c.statements.self c.statements.invariant (omega arith) (fails _ c.is_empty.result c.is_empty.ensures.1 c.if-not-is_empty.true)

pub returns-then-is_some-clause-bad : goal.returns-then-is_some-clause-bad
returns-then-is_some-clause-bad c = end-in-function c.args.tokens.now c.statements.place c.statements.self c.statements.invariant (omega arith) (search rules)

pub returns-clause-kept : goal.returns-clause-kept
returns-clause-kept c = kept-at c.args.tokens.now c.statements.place c.statements.self _ c.statements.invariant (omega arith) (c.is_empty.ensures.0 (search rules)) (search rules) refl refl refl refl refl refl refl
