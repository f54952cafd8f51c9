-- A device of the proofs: what noting deliveries makes of the numbers of a component's modules. (This project's own.)
use Rattle.std.specs.Prelude.{◌≡◌, ◌⊎◌, ℕ, ◌+◌, ◌==◌, if◌then◌else◌, List, [], ◌∷◌, length}
use Rattle.carousel_blocks.specs.Changes.{number_bound}
use Rattle.module_store.specs.Store.{number_at}

-- a number for each module, or none yet
abbrev pub IsTable : List ℕ → Type 0
IsTable table = (length table ≡ 0) ⊎ (length table ≡ number_bound)

-- there is room for the number of each module
abbrev pub HasRoom : List (ℕ × ℕ) → Type 0
HasRoom numbers = length numbers ≡ number_bound

-- with that number for a module
abbrev pub with_number : ℕ → ℕ → (ℕ → ℕ) → ℕ → ℕ
with_number number delivery number_of other = if other == number then delivery else number_of other

-- with the next numbers behind a count for these modules, one after the other
abbrev pub noted : ℕ → List ℕ → (ℕ → ℕ) → ℕ → ℕ
noted count [] number_of other = number_of other
noted count (number ∷ numbers) number_of other = noted (number_at (count + 1)) numbers (with_number number (number_at (count + 1)) number_of) other

-- the count behind them
abbrev pub noted_count : ℕ → List ℕ → ℕ
noted_count count [] = count
noted_count count (number ∷ numbers) = noted_count (number_at (count + 1)) numbers
