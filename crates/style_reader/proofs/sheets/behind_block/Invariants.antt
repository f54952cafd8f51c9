use Rattle.std.proofs.Common.{◌≡◌, ◌+◌, ◌≤◌, length}
use Rattle.style_reader.specs.Readings.{behind_block}
use Rattle.style_reader.proofs.sheets.behind_block.Given as goal

abbrev pub invariant-block : goal.invariant-block
invariant-block l = (behind_block l.depth l.rest ≡ behind_block 0 l.text) × (l.depth + length l.rest ≤ length l.text)

abbrev pub decreases-block : goal.decreases-block
decreases-block l = length l.rest
