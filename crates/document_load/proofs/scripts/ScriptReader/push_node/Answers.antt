use Rattle.std.proofs.Common.{◌++◌, []}
use Rattle.std.specs.Option.{option_copied, unwrap_or}
use Rattle.std.proofs.lemmas.Result.{on_ok_weaker}
use Rattle.document_load.specs.ScriptSteps.{handlers_at, script_at}
use Rattle.document_load.proofs.ScriptLemmas.{Adds-both, Adds-same, sources_at-parts}
use Rattle.document_load.proofs.scripts.ScriptReader.push_node.Goals as goal

pub returns : goal.returns
returns c =
    let items = c.args.tree.now in
    let node = c.args.node.0 in
    let gift = unwrap_or (option_copied c.args.gift) [] in
    let old = c.args.self.now in
    let new = c.push_handlers.new.self in
    on_ok_weaker c.push_handlers.result
    (λ handlers. Adds-same old new (script_at items node gift ++ handlers_at items node) _ (sources_at-parts items node gift)
    (Adds-both old c.push_script.new.self new (script_at items node gift) (handlers_at items node) (c.in_ok-push_script.ensures {u = tt}) handlers))
    c.push_handlers.ensures
