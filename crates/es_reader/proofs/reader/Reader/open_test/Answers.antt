use Rattle.es_reader.proofs.BadLemmas.{handed, if-bad}
use Rattle.es_reader.proofs.LoopBadLemmas.{test-bad}
use Rattle.std.proofs.Common.{refl}
use Rattle.es_reader.proofs.LoopLemmas.{head-opened}
use Rattle.es_reader.proofs.reader.Reader.open_test.Goals as goal

pub returns-clause-goes : goal.returns-clause-goes
returns-clause-goes c =
    head-opened c.args.tokens.now c.args.place c.args.self.now _ c.open_head.new.self c.in_ok-head.head c.requires.reads
    ((c.in_ok-head.ensures {u = tt}).head c.args.self.now.names) (c.in_ok-head.ensures {u = tt}).grows refl refl refl refl refl (c.in_ok-open_head.ensures {u = tt})

pub returns-in_err-head-clause-bad : goal.returns-in_err-head-clause-bad
returns-in_err-head-clause-bad c = handed c.from_residual.result c.in_err-head.field-0.0 _ c.from_residual.ensures.1 (if-bad c.in_err-head.field-0.0 _ _ (test-bad c.args.tokens.now c.args.place c.args.self.now c.args.form c.requires.reads) (c.in_err-head.ensures {u = tt}).bad)
