-- How the steps of a call are taken, one charge after the other. (A device of the proofs.)
use Rattle.std.specs.Prelude.{◌≡◌, ℕ, ◌-◌, ◌<◌, ◌≤◌, Bool, MatchBool}

-- of these steps a charge was taken, or they are fewer
abbrev pub Takes : ℕ → ℕ → Bool → ℕ → Type 0
Takes charge old taken new =
    MatchBool taken ((charge ≤ old) × (new ≡ old - charge)) (old < charge)
