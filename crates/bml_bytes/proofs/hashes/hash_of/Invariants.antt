use Rattle.std.proofs.Common.{◌≡◌, ◌<◌, length}
use Rattle.bml_bytes.specs.devices.Hashes.{text_hash, with_codes}
use Rattle.bml_bytes.proofs.hashes.hash_of.Given as goal

-- the codes that are left, behind those that are mixed in
abbrev pub invariant-fours : goal.invariant-fours
invariant-fours l = text_hash l.codes ≡ with_codes l.hash l.rest

abbrev pub decreases-fours : goal.decreases-fours
decreases-fours l = length l.rest

abbrev pub invariant-ones : goal.invariant-ones
invariant-ones l = (text_hash l.codes ≡ with_codes l.hash l.rest) × (length l.rest < 4)

abbrev pub decreases-ones : goal.decreases-ones
decreases-ones l = length l.rest
