-- Comments in the text of a style (CSS level 1, 1.7). Each is taken as one space, before anything
-- else is read. That a comment which isn't closed runs to the end of the text is this project's own
-- rule.
use Rattle.std.specs.Prelude.{◌≡◌, ℕ, false, List, [], ◌∷◌, ◌++◌, codes as ascii}
use Rattle.style_reader.specs.Characters.{begins_with}

-- what a text is: codes and comments, each with what follows it; the last comment may be open
pub data Commented : Type 0 where
  Nothing : Commented
  Code : (code : ℕ) → (following : Commented) → Commented
  Comment : (inside : List ℕ) → (following : Commented) → Commented
  OpenComment : (inside : List ℕ) → Commented

-- `*/` stands behind these codes for the first time
abbrev pub IsClosedAtFirst : List ℕ → Type 0
IsClosedAtFirst [] = Unit {0}
IsClosedAtFirst (code ∷ inside) =
    (begins_with (ascii "*/") (code ∷ (inside ++ ascii "*/")) ≡ false) × IsClosedAtFirst inside

-- `*/` stands nowhere in these codes
abbrev pub IsNeverClosed : List ℕ → Type 0
IsNeverClosed [] = Unit {0}
IsNeverClosed (code ∷ inside) =
    (begins_with (ascii "*/") (code ∷ inside) ≡ false) × IsNeverClosed inside

-- The text is spelled so. A code that stands for itself is one at which no `/*` stands; between the
-- marks of a comment `*/` stands nowhere, and so `/*/` is still open.
abbrev pub SpellsComments : Commented → List ℕ → Type 0
SpellsComments Nothing text = text ≡ []
SpellsComments (Code code following) text =
    (rest : List ℕ) × (text ≡ code ∷ rest) × (begins_with (ascii "/*") text ≡ false)
    × SpellsComments following rest
SpellsComments (Comment inside following) text =
    (rest : List ℕ) × (text ≡ ascii "/*" ++ (inside ++ (ascii "*/" ++ rest)))
    × IsClosedAtFirst inside × SpellsComments following rest
SpellsComments (OpenComment inside) text = (text ≡ ascii "/*" ++ inside) × IsNeverClosed inside

-- the text with each comment as one space
abbrev pub uncommented : Commented → List ℕ
uncommented Nothing = []
uncommented (Code code following) = code ∷ uncommented following
uncommented (Comment inside following) = 32 ∷ uncommented following
uncommented (OpenComment inside) = 32 ∷ []
