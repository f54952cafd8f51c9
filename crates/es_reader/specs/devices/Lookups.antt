-- Names by which places are found. (A device of the proofs.)
use Rattle.std.specs.Prelude.{◌≡◌, ℕ, List, drop}
use Rattle.std.specs.List.{position, position_from}
use Rattle.std.specs.Map.{lookup}
use Rattle.bml_bytes.specs.Words.{is_same}

-- each name is found with its first place among these
abbrev pub FindsPlaces : List (List ℕ × ℕ) → List (List ℕ) → Type 0
FindsPlaces entries names =
    (name : List ℕ) → lookup (is_same name) entries ≡ position (is_same name) names

-- the same of the places from one on
abbrev pub FindsPlacesFrom : List (List ℕ × ℕ) → ℕ → List (List ℕ) → Type 0
FindsPlacesFrom entries place names =
    (name : List ℕ) → lookup (is_same name) entries
    ≡ position_from (is_same name) place (drop place names)
