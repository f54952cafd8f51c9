use Rattle.std.proofs.Common.{subst}
use Rattle.page.specs.devices.Memories.{FindsUsable}
use Rattle.page.proofs.MemoryLaws.{recalls_used}
use Rattle.page.proofs.memory.Memory.recall.Goals as goal

pub returns-in-Some-clause-recalls : goal.returns-in-Some-clause-recalls
returns-in-Some-clause-recalls c =
    recalls_used c.use_again.result c.args.modules.now c.args.path.now c.in-Some.key c.args.self.now c.use_again.new.self
    (subst (λ o. FindsUsable c.args.modules.now c.args.path.now o c.args.self.now.entries) c.in-Some.is c.in_ok-key.ensures) c.use_again.ensures.used
