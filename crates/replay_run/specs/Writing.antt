-- A device of the proofs: what writes leave of a piece, where a sink tells what was written.
use Rattle.std.specs.Prelude.{◌≡◌, ◌≢◌, ℕ, List, [], ◌++◌, Option, Some}

-- bytes were written behind those that the sink tells
abbrev pub WritesOn : Option (List ℕ) → Option (List ℕ) → List ℕ → Type 0
WritesOn old new bytes = (start : List ℕ) → old ≡ Some start → new ≡ Some (start ++ bytes)

-- bytes, perhaps none, were written behind those that the sink tells
abbrev pub Grows : Option (List ℕ) → Option (List ℕ) → Type 0
Grows old new =
    (start : List ℕ) → old ≡ Some start → (more : List ℕ) × (new ≡ Some (start ++ more))

-- a proper front of the bytes was written
pub record WritesShort (old new : Option (List ℕ)) (bytes : List ℕ) : Type 0 where
  pub front : List ℕ
  pub rest : List ℕ
  pub whole : bytes ≡ front ++ rest
  pub wanting : rest ≢ []
  pub written : WritesOn old new front
