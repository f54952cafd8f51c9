use Rattle.std.proofs.Common.{◌≡◌, length}
use Rattle.document_load.specs.GiftViews.{Reaches}
use Rattle.document_load.proofs.StyleLemmas.{rules_below}
use Rattle.document_load.proofs.style_texts.rules_of_styles.Given as goal

abbrev pub invariant-nodes : goal.invariant-nodes
invariant-nodes l = record { rules : l.rules ≡ rules_below l.tree l.named l.given l.number; reaches : Reaches l.named l.given l.place l.number; all : l.number-end ≡ length l.tree }
