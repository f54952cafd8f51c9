use Rattle.std.proofs.Common.{◌≡◌, take}
use Rattle.std.specs.List.{filter_map}
use Rattle.carousel_blocks.specs.Modules.{kept_at}
use Rattle.carousel_blocks.specs.Steps.{entry_change_at}
use Rattle.carousel_blocks.proofs.changes.changes_at.Given as goal

abbrev pub invariant-numbers : goal.invariant-numbers
invariant-numbers l = l.changes.items ≡ filter_map (entry_change_at (kept_at l.old l.buffers) (kept_at l.new l.buffers)) (take l.number-index l.numbers)
