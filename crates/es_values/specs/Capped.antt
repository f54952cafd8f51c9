-- A device of the proofs: charges and counts as far as they matter. A budget has fewer than 2 ^ 32 steps, so
-- two charges from there on are as good as each other.
use Rattle.std.specs.Prelude.{ℕ, ◌-◌, ◌^◌, min}

abbrev pub capped : ℕ → ℕ
capped charge = min charge (2 ^ 32)

-- a count in 64 bits
abbrev pub saturated : ℕ → ℕ
saturated count = min count (2 ^ 64 - 1)
