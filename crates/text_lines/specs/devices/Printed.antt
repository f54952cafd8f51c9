-- Lines that are appended one after another (a device of the proofs).
use Rattle.std.specs.Prelude.{ℕ, List, ◌∷◌}
use Rattle.std.specs.List.{flat_map}

-- lines, a line feed before each
abbrev pub ended_before : List (List ℕ) → List ℕ
ended_before lines = flat_map (λ line. 10 ∷ line) lines
