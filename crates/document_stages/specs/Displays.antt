-- The display list of a document as it is now. (This project's own.)
use Rattle.std.specs.Prelude.{ℕ, List}
use Rattle.dom_tree.specs.NodeNumbers.{number_of}
use Rattle.style_cascade.specs.StyledTrees.{StyledTree}
use Rattle.display_list.specs.Show.{display_lines}
use Rattle.display_list.specs.Shown.{shown_by}

-- its boxes, texts and pictures, and the focus
abbrev pub tree_lines : StyledTree → List ℕ
tree_lines tree =
    display_lines (shown_by tree.items tree.sources tree.focus) (number_of tree.focus.focus)
