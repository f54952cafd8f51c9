-- A device of the proofs: the walk over the nodes, with the needs that they name.
use Rattle.std.specs.Prelude.{◌≡◌, ℕ, ◌+◌, ◌≤◌, List, [], ◌∷◌, length, drop, Option}
use Rattle.multipart_entities.specs.declared.paths.Path.{Path}
use Rattle.document_load.specs.StyleTexts.{given_for}

-- each of the numbers is greater than the one before it, and the first is at least the low one
abbrev pub AscendsFrom : ℕ → List ℕ → Type 0
AscendsFrom low [] = Unit {0}
AscendsFrom low (number ∷ numbers) = (low ≤ number) × AscendsFrom (number + 1) numbers

-- the needs from this place on are those that the nodes from this number on name
pub record Reaches (named : List ℕ) (given : List (Option (List ℕ))) (place number : ℕ)
    : Type 0 where
  pub rises : AscendsFrom number (drop place named)
  pub rest : (node : ℕ) → number ≤ node
      → given_for named given node ≡ given_for (drop place named) (drop place given) node

-- each need has one node that names it, in their order, and one place for a gift
pub record HasOneEach (needs : List Path) (named : List ℕ) (given : List (Option (List ℕ)))
    : Type 0 where
  pub gifts : length given ≡ length needs
  pub nodes : length named ≡ length needs
  pub rises : AscendsFrom 0 named
