use Rattle.std.proofs.Common.{◌≡◌, ℕ, List, length, take}
use Rattle.dom_tree.specs.Items.{Item}
use Rattle.multipart_entities.specs.declared.paths.Path.{Path}
use Rattle.document_load.specs.Needs.{named_by, needs_of}
use Rattle.document_load.specs.NeedViews.{AreNames}
use Rattle.document_load.proofs.needs.needs_of.Given as goal

-- the needs of these items
pub record AreNeeds (base : Path) (items : List Item) (needs : List Path) (named : List ℕ) : Type 0 where
  pub paths : needs ≡ needs_of base items
  pub nodes : named ≡ named_by base items

abbrev pub invariant-nodes : goal.invariant-nodes
invariant-nodes l = record { found : AreNeeds l.base (take l.number l.tree) l.paths.items l.named.items; names : AreNames l.names; all : l.number-end ≡ length l.tree }
