use Rattle.std.proofs.Common.{rules}
use Rattle.page.proofs.PendingLaws.{is_read, loads_read}
use Rattle.page.proofs.loading.load_read.Goals as goal

pub returns-in-Ok-clause-loads : goal.returns-in-Ok-clause-loads
returns-in-Ok-clause-loads c =
    loads_read c.load.result c.args.modules.now c.args.is_start c.args.path c.new.result c.args.memory.now c.load.new.memory c.args.out.now.items c.load.new.out.items c.new.ensures.is_start c.new.ensures.path
    (λ modules stands start. is_read modules c.args.is_start c.args.path c.args.bytes.now c.in-Ok.draft c.new.result c.new.ensures.is_start c.new.ensures.path c.new.ensures.draft start (search rules) (search rules)
    (c.requires modules stands) c.in-Ok.ensures.reading)
    c.load.ensures.loads
