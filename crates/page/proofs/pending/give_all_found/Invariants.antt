use Rattle.std.proofs.Common.{◌≡◌, length}
use Rattle.page.proofs.GiftLaws.{GivesBelow}
use Rattle.page.proofs.pending.give_all_found.Given as goal

abbrev pub invariant-gifts : goal.invariant-gifts
invariant-gifts l = record { gives : GivesBelow l.modules l.number l.fn.draft l.draft; all : l.count ≡ length l.fn.draft.needs }
