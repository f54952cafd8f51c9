-- What passes a test of values. (This project's own.)
use Rattle.std.specs.Prelude.{◌≡◌, ℕ, nat_lt, Bool, true, false, List, All}
use Rattle.es_values.specs.declared.values.HostRef.{HostRef}
use Rattle.es_values.specs.declared.values.HostRef.TheVariants.{Document, Browser}
use Rattle.es_values.specs.declared.values.Value.{Value}
use Rattle.es_values.specs.declared.values.Value.TheVariants.{Function, Host}
use Rattle.es_values.specs.Objects.{ObjectState}
use Rattle.es_builtins.specs.Rows.{Row}
use Rattle.es_builtins.specs.Rows.Row.{NoRow, Gives}

-- the references that built-in names mean
abbrev pub is_named : HostRef → Bool
is_named Document = true
is_named Browser = true
is_named _ = false

-- What scripts make by themselves: every value but functions whose number isn't below the limit,
-- and references that no built-in name means.
abbrev pub is_own : ℕ → Value → Bool
is_own limit (Function number) = nat_lt number limit
is_own limit (Host reference) = is_named reference
is_own limit _ = true

-- all that passes
abbrev pub PassesOwn : ℕ → (Value → Bool) → Type 0
PassesOwn limit good = (value : Value) → is_own limit value ≡ true → good value ≡ true

-- each value of a list passes
abbrev pub AllPass : (Value → Bool) → List Value → Type 0
AllPass good values = All (λ value. good value ≡ true) values

-- each property of an object does
abbrev pub ObjectPasses : (Value → Bool) → ObjectState → Type 0
ObjectPasses good object = All (λ property. good property.1 ≡ true) object.properties

-- those of all objects do
abbrev pub HeapPasses : (Value → Bool) → List ObjectState → Type 0
HeapPasses good heap = All (ObjectPasses good) heap

-- what a row gives does, and the heap that it leaves
abbrev pub RowPasses : (Value → Bool) → Row → Type 0
RowPasses good NoRow = Unit {0}
RowPasses good (Gives charge value heap) = (good value ≡ true) × HeapPasses good heap
