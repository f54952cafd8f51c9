use Rattle.std.proofs.Common.{ℕ, ◌-◌, length}
use Rattle.std.specs.Option.{option_map_or}
use Rattle.dom_tree.specs.NodeNumbers.{number_of}
use Rattle.document_load.proofs.StyleLemmas.{JoinsChildren}
use Rattle.document_load.proofs.node_texts.own_text.Given as goal

abbrev pub invariant-children : goal.invariant-children
invariant-children l = JoinsChildren l.tree l.fn.node.0 (number_of l.next) l.codes.items

abbrev pub decreases-children : goal.decreases-children
decreases-children l = option_map_or (λ (n : ℕ). length l.tree - n) (number_of l.next) 0
