-- How far the front of a text stands at a place of another, which a search remembers, so that its
-- time is linear. (A device of the proofs.)
use Rattle.std.specs.Prelude.{◌≡◌, ℕ, ◌-◌, ◌<◌, ◌≤◌, nat_eq, List, length, drop, slice_index}
use Rattle.std.specs.List.{prefix_len, zip}

-- how many codes two texts have in common at their fronts
abbrev pub common_front : List ℕ → List ℕ → ℕ
common_front text other = prefix_len (λ pair. nat_eq pair.0 pair.1) (zip text other)

-- how many codes of the front of the wanted text stand at a place of the text
abbrev pub front_at : List ℕ → List ℕ → ℕ → ℕ
front_at wanted text place = common_front wanted (drop place text)

-- for the first places of the wanted text, how far its own front stands there
pub record AreFronts (wanted fronts : List ℕ) : Type 0 where
  pub each : (place : ℕ) → place < length fronts
      → slice_index fronts place ≡ front_at wanted wanted place

-- what stands between two places of the text is a front of the wanted text
pub record IsWindow (wanted text : List ℕ) (start end : ℕ) : Type 0 where
  pub ordered : start ≤ end
  pub within : end ≤ length text
  pub front : end - start ≤ front_at wanted text start
