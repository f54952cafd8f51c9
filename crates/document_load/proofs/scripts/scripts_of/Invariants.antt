use Rattle.std.proofs.Common.{◌≡◌, length}
use Rattle.document_load.specs.GiftViews.{Reaches}
use Rattle.document_load.specs.ScriptSteps.{HasRead}
use Rattle.document_load.proofs.ScriptLemmas.{sources_below}
use Rattle.document_load.proofs.scripts.scripts_of.Given as goal

abbrev pub invariant-nodes : goal.invariant-nodes
invariant-nodes l = record { read : HasRead (sources_below l.tree l.named l.given l.number) l.reader; reaches : Reaches l.named l.given l.place l.number; all : l.number-end ≡ length l.tree }
