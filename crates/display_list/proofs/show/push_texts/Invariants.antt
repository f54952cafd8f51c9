use Rattle.std.proofs.Common.{◌≡◌, ◌++◌}
use Rattle.display_list.specs.Show.{held_lines}
use Rattle.display_list.specs.devices.Views.{shown_of}
use Rattle.display_list.proofs.TextLemmas.{lines_below}
use Rattle.display_list.proofs.show.push_texts.Given as goal

abbrev pub invariant-inside : goal.invariant-inside
invariant-inside l = l.out.items ≡ l.fn.out.items ++ lines_below (held_lines (shown_of l.scene) l.node.0) l.number
