use Rattle.es_reader.proofs.LoopBadLemmas.{no-function-bad}
use Rattle.std.proofs.Common.{refl, rules}
use Rattle.es_reader.proofs.LoopLemmas.{function-closed}
use Rattle.es_reader.proofs.reader.Reader.close_function.Goals as goal

pub returns-clause-goes : goal.returns-clause-goes
returns-clause-goes c =
    function-closed c.args.tokens.now c.args.place c.args.self.now _ c.in-Some.function _ c.requires.reads c.requires.there c.requires.outside (search rules)
    (search rules) (c.in_ok-push.ensures {u = tt}).items refl (c.in_ok-locals.ensures {u = tt}) refl refl refl refl refl refl refl

pub returns-in_default-clause-bad : goal.returns-in_default-clause-bad
returns-in_default-clause-bad c = no-function-bad c.args.tokens.now c.args.place c.args.self.now c.requires.reads c.requires.there c.requires.outside (search rules)
