use Rattle.std.proofs.Common.{refl}
use Rattle.document_stages.proofs.CallLemmas.{node-called}
use Rattle.document_stages.proofs.script_hosts.ScriptHostHost.call.Goals as goal

pub returns-in-Node-clause-called : goal.returns-in-Node-clause-called
returns-in-Node-clause-called c =
    node-called c.call_node.result c.args.self.now (record { stage = c.call_node.new.self; modules = c.args.self.now.modules }) c.args.base c.in-Node.number c.args.name.now c.args.args.now c.args.heap.now c.in-Node.is (c.call_node.ensures.answer c.args.heap.now) (c.call_node.ensures.acting c.args.heap.now) refl

pub returns-in-Node-clause-answer : goal.returns-in-Node-clause-answer
returns-in-Node-clause-answer c = c.call_node.ensures.safe c.args.heap.now
