use Rattle.page.proofs.PendingLaws.{at_loads}
use Rattle.page.proofs.loading.Loading.load.Goals as goal

pub returns-in-At-clause-loads : goal.returns-in-At-clause-loads
returns-in-At-clause-loads c =
    rw c.in-At.is (at_loads c.load_unread.result c.args.modules.now c.in-At.path c.args.memory.now c.load_unread.new.memory c.args.out.now.items c.load_unread.new.out.items c.load_unread.ensures.loads)
