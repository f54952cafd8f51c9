use Rattle.std.proofs.Common.{◌≡◌, ℕ, true, length}
use Rattle.style_cascade.specs.devices.Keys.{is_among}
use Rattle.style_cascade.proofs.chains.is_given.Given as goal

abbrev pub invariant-rules : goal.invariant-rules
invariant-rules l = (number : ℕ) → is_among number l.rest ≡ true → is_among number l.fn.rules ≡ true

abbrev pub decreases-rules : goal.decreases-rules
decreases-rules l = length l.rest
