-- A device of the proofs: what stands at the front of some codes, and what it leaves.
use Rattle.std.specs.Prelude.{ℕ, ◌==◌, Bool, if◌then◌else◌, List, [], ◌∷◌, Option, Some, None, option_map}

-- something at the front of some codes, and what stands behind it
pub record Found (A : Type 0) : Type 0 where
  pub it : A
  pub rest : List ℕ

abbrev pub found : {A : Type 0} → A → List ℕ → Found A
found it rest = record { it = it; rest = rest }

-- what was found, changed, and what it leaves
abbrev pub changed : {A B : Type 0} → (A → B) → Found A → Found B
changed f p = found (f p.it) p.rest

-- the codes from the front on that pass the test, and those behind them
abbrev pub front : (ℕ → Bool) → List ℕ → List ℕ
front test [] = []
front test (code ∷ codes) = if test code then code ∷ front test codes else []

abbrev pub behind : (ℕ → Bool) → List ℕ → List ℕ
behind test [] = []
behind test (code ∷ codes) = if test code then behind test codes else code ∷ codes

-- what stands behind the mark at the front, and none where it isn't there
abbrev pub stripped : List ℕ → List ℕ → Option (List ℕ)
stripped [] codes = Some codes
stripped (m ∷ mark) [] = None
stripped (m ∷ mark) (code ∷ codes) = if code == m then stripped mark codes else None

-- the codes up to the first place of the mark, and what stands behind the mark
unfoldable pub up_to : List ℕ → List ℕ → Option (Found (List ℕ))
up_to mark [] = elim (stripped mark []) [ Some rest ↦ Some (found [] rest) | None ↦ None ]
up_to mark (code ∷ codes) = elim (stripped mark (code ∷ codes)) [ Some rest ↦ Some (found [] rest) | None ↦ option_map (changed (λ inside. code ∷ inside)) (up_to mark codes) ]
