-- What is told of a module. As long as nothing is, what was found in it stays. (This project's own.)
use Rattle.std.specs.Prelude.{ℕ, ◌==◌, Bool, ◌&&◌, List}
use Rattle.std.specs.List.{list_any}
use Rattle.carousel_blocks.specs.declared.changes.Change.{Change}
use Rattle.module_store.specs.Store.{deliveries_of}

-- one of the changes in its component is of the module
abbrev pub tells_of : ℕ → List Change → Bool
tells_of number changes = list_any (λ change. change.«module» == number) changes

-- one of them delivers the module
abbrev pub is_delivered : ℕ → List Change → Bool
is_delivered number changes = list_any (λ delivered. delivered == number) (deliveries_of changes)

-- the module is one of those that went with their components
abbrev pub is_gone : ℕ → ℕ → List (ℕ × Change) → Bool
is_gone tag number gone = list_any (λ change. (change.0 == tag) && (change.1.«module» == number)) gone
