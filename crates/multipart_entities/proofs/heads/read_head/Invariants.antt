use Rattle.std.proofs.Common.{◌≡◌, ◌-◌, ◌≤◌, length}
use Rattle.std.specs.Prelude.{option_map}
use Rattle.multipart_entities.specs.HeadViews.{good_head, seen_head}
use Rattle.multipart_entities.proofs.HeadLemmas.{of_size, onto}
use Rattle.multipart_entities.proofs.heads.read_head.Given as goal

-- the head of all bytes is what is kept so far, and then the head of the rest
abbrev pub invariant-lines : goal.invariant-lines
invariant-lines l = (good_head l.bytes ≡ option_map (onto (of_size (length l.bytes - length l.rest) (seen_head l.head))) (good_head l.rest)) × (length l.rest ≤ length l.bytes)

abbrev pub decreases-lines : goal.decreases-lines
decreases-lines l = length l.rest
