use Rattle.page.proofs.PendingLaws.{start_loads}
use Rattle.page.proofs.loading.load_start.Goals as goal

pub returns-clause-loads : goal.returns-clause-loads
returns-clause-loads c =
    start_loads c.load_unread.result c.args.modules.now c.in_ok-path.path c.args.memory.now c.load_unread.new.memory c.args.out.now.items c.load_unread.new.out.items c.in_ok-path.ensures c.load_unread.ensures.loads
