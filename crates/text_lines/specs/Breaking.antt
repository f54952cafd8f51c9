-- The rows that a text is broken into (this project's own).
use Rattle.std.specs.Prelude.{◌≡◌, ◌≢◌, ◌<◌, ◌≤◌, ◌⊎◌, ◌+◌, ◌++◌, ◌==◌, ℕ, ⊤, List, [], ◌∷◌, length, take, All}
use Rattle.std.specs.List.{concat, slice_split, AllZip}
use Rattle.text_lines.specs.declared.rows.Row.{Row}
use Rattle.text_lines.specs.Measures.{Measures, used}

-- a text is cut into pieces at its codes 10
abbrev pub pieces_of : List ℕ → List (List ℕ)
pieces_of text = slice_split (λ code. code == 10) text

-- a row has at least one code, and uses at most the width or is one code
abbrev pub IsRow : Measures → List ℕ → Type 0
IsRow m row = (1 ≤ length row) × ((used m row ≤ m.width) ⊎ (length row ≡ 1))

-- no row could take the next code of its piece as well
abbrev pub NoneTakesMore : Measures → List (List ℕ) → Type 0
NoneTakesMore m [] = ⊤
NoneTakesMore m (row ∷ []) = ⊤
NoneTakesMore m (row ∷ next ∷ rows) =
    (m.width < used m (row ++ take 1 next)) × NoneTakesMore m (next ∷ rows)

-- the rows of a piece: joined they are the piece, and an empty piece is one empty row
pub record AreRowsOf (m : Measures) (piece : List ℕ) (rows : List (List ℕ)) : Type 0 where
  pub joined : concat rows ≡ piece
  pub empty : piece ≡ [] → rows ≡ [] ∷ []
  pub filled : piece ≢ [] → All (IsRow m) rows
  pub full : NoneTakesMore m rows

-- the rows of a piece with their places among the text's codes, from a place on
abbrev pub placed : Measures → ℕ → List (List ℕ) → List Row
placed m start [] = []
placed m start (row ∷ rows) =
    record { start = start; end = start + length row; used = used m row }
    ∷ placed m (start + length row) rows

-- and those of all pieces, where one code 10 stands between two pieces
abbrev pub all_placed : Measures → ℕ → List (List (List ℕ)) → List Row
all_placed m start [] = []
all_placed m start (rows ∷ pieces) =
    placed m start rows ++ all_placed m (start + length (concat rows) + 1) pieces

-- these are the rows of the text: those of each piece, one piece after another
pub record AreRows (m : Measures) (text : List ℕ) (rows : List Row) : Type 0 where
  pub broken : List (List (List ℕ))
  pub pieces : AllZip (AreRowsOf m) (pieces_of text) broken
  pub places : rows ≡ all_placed m 0 broken

-- the row's codes stand within a text of so many codes
abbrev pub IsWithin : ℕ → Row → Type 0
IsWithin count row = (row.start ≤ row.end) × (row.end ≤ count)
