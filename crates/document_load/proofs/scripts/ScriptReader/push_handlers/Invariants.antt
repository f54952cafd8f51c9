use Rattle.std.proofs.Common.{◌≡◌, length}
use Rattle.dom_tree.specs.Items.{attributes_of}
use Rattle.document_load.specs.ScriptSteps.{Adds}
use Rattle.document_load.proofs.ScriptLemmas.{handlers_before}
use Rattle.document_load.proofs.scripts.ScriptReader.push_handlers.Given as goal

abbrev pub invariant-attributes : goal.invariant-attributes
invariant-attributes l = record { adds : Adds (handlers_before l.tree l.node.0 l.place) l.fn.self l.self; all : l.place-end ≡ length (attributes_of l.tree l.node.0) }
