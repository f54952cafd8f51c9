-- Items laid end to end, as the loops of a table are (ISO/IEC 13818-1, 2.4.4).
use Rattle.std.specs.Prelude.{◌≡◌, ℕ, List, [], ◌∷◌, ◌++◌}

-- The bytes are these items, one behind the other, and nothing else. `Is item text` says that the text is the item.
abbrev pub AreLaid : {A : Type 0} → (A → List ℕ → Type 0) → List ℕ → List A → Type 0
AreLaid Is bytes [] = bytes ≡ []
AreLaid Is bytes (item ∷ items) = (text rest : List ℕ) × (bytes ≡ text ++ rest) × Is item text × AreLaid Is rest items
