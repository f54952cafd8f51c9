-- What a row keeps of the heap, and of the numbers that name objects and functions. (This project's own.)
use Rattle.std.specs.Prelude.{◌≡◌, ℕ, true, ◌||◌, List}
use Rattle.std.specs.List.{list_any}
use Rattle.es_values.specs.declared.values.Value.{Value}
use Rattle.es_values.specs.Heaps.{IsLive, IsSound, holds_function}
use Rattle.es_values.specs.Hosts.{KeepsHeap}
use Rattle.es_values.specs.Objects.{ObjectState}
use Rattle.es_values.specs.Values.{is_function}
use Rattle.es_builtins.specs.Rows.{Row}
use Rattle.es_builtins.specs.Rows.Row.{NoRow, Gives}

-- of what was handed in, a function number came from there or from the heap
pub record GivesKept (heap : List ObjectState) (handed : List Value) (value : Value)
    (given : List ObjectState) : Type 0 where
  pub keeps : KeepsHeap heap handed given
  pub sound : IsSound given
  pub live : IsLive given value
  pub known : (number : ℕ) → is_function number value ≡ true
      → (holds_function number heap || list_any (is_function number) handed) ≡ true

abbrev pub RowKeeps : List ObjectState → List Value → Row → Type 0
RowKeeps heap handed NoRow = Unit {0}
RowKeeps heap handed (Gives charge value given) = GivesKept heap handed value given
