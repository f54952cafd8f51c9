use Rattle.es_reader.proofs.PartLemmas.{fails}
use Rattle.es_reader.proofs.BadLemmas.{handed, if-bad}
use Rattle.es_reader.proofs.LoopBadLemmas.{function-in-function, function-in-form, front-bad-at}
use Rattle.std.proofs.Common.{refl, rules}
use Rattle.es_reader.proofs.LoopLemmas.{function-opened}
use Rattle.es_reader.proofs.reader.Reader.open_function.Goals as goal

pub returns-clause-goes : goal.returns-clause-goes
returns-clause-goes c =
    function-opened c.args.tokens.now c.args.place c.args.self.now _ _ c.in_ok-front.front c.requires.reads (c.is_empty.ensures.0 (search rules)) (search rules)
    (c.in_ok-front.ensures {u = tt}).front refl refl refl c.new.ensures.items c.replace.ensures.value c.replace.ensures.after refl refl refl refl refl

pub returns-then-is_some-clause-bad : goal.returns-then-is_some-clause-bad
returns-then-is_some-clause-bad c = function-in-function c.args.tokens.now c.args.place c.args.self.now c.requires.reads c.requires.there (search rules)

pub returns-then-not-is_empty-clause-bad : goal.returns-then-not-is_empty-clause-bad
returns-then-not-is_empty-clause-bad c = function-in-form c.args.tokens.now c.args.place c.args.self.now c.requires.reads c.requires.there (fails _ c.is_empty.result c.is_empty.ensures.1 c.if-not-is_empty.true)

pub returns-in_err-front-clause-bad : goal.returns-in_err-front-clause-bad
returns-in_err-front-clause-bad c = handed c.from_residual.result c.in_err-front.field-0.0 _ c.from_residual.ensures.1 (if-bad c.in_err-front.field-0.0 _ _ (front-bad-at c.args.tokens.now c.args.place c.args.self.now c.requires.reads (c.is_empty.ensures.0 (search rules)) (search rules)) (c.in_err-front.ensures {u = tt}).bad)
