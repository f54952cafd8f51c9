use Rattle.std.proofs.Common.{refl}
use Rattle.document_stages.proofs.CallLemmas.{launch-done}
use Rattle.document_stages.proofs.script_hosts.ScriptHost.do_effect.Goals as goal

pub returns-in-Launch-clause-replies : goal.returns-in-Launch-clause-replies
returns-in-Launch-clause-replies c =
    launch-done c.launch.result c.args.self.now (record { stage = c.launch.new.self; modules = c.args.self.now.modules }) c.args.effect c.args.value c.in-Launch.path c.args.heap.now c.in-Launch.is (c.launch.ensures.answer c.args.heap.now) (c.launch.ensures.acting c.args.heap.now) refl

pub returns-in-Launch-clause-safe : goal.returns-in-Launch-clause-safe
returns-in-Launch-clause-safe c = c.launch.ensures.safe c.args.heap.now
