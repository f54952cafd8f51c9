-- What a call of a built-in function or method comes to. (This project's own.)
use Rattle.std.specs.Prelude.{◌≡◌, ℕ, ◌-◌, ◌<◌, ◌≤◌, List, slice_get, unwrap_or}
use Rattle.es_values.specs.declared.budgets.Budget.{Budget}
use Rattle.es_values.specs.declared.values.Value.{Value}
use Rattle.es_values.specs.declared.values.Value.TheVariants.{Undefined}
use Rattle.es_values.specs.Charges.{conversion_charge}
use Rattle.es_values.specs.Conversions.{number_of, text_of}
use Rattle.es_values.specs.Objects.{ObjectState}
use Rattle.es_values.specs.declared.numbers.Num.{Num}
use Rattle.es_builtins.specs.declared.built.Built.{Built}
use Rattle.es_builtins.specs.declared.built.Built.TheVariants.{Value as Gave, NotCallable, OverBudget}

-- nothing can be called; or these steps are charged, and then the value is given and the heap left
pub data Row : Type 0 where
  NoRow : Row
  Gives : (charge : ℕ) → (value : Value) → (heap : List ObjectState) → Row

-- the steps are taken before anything is done, and where fewer are left, none is taken and nothing done
pub record AnswersWithin (charge : ℕ) (value : Value) (given : List ObjectState)
    (old_heap : List ObjectState) (old : Budget) (built : Built)
    (new_heap : List ObjectState) (new : Budget) : Type 0 where
  pub enough : charge ≤ old.left
      → (built ≡ Gave value) × (new_heap ≡ given) × (new.left ≡ old.left - charge)
  pub short : old.left < charge → (built ≡ OverBudget) × (new_heap ≡ old_heap) × (new ≡ old)

abbrev pub Answers : Row → List ObjectState → Budget → Built → List ObjectState → Budget → Type 0
Answers NoRow old_heap old built new_heap new =
    (built ≡ NotCallable) × (new_heap ≡ old_heap) × (new ≡ old)
Answers (Gives charge value given) old_heap old built new_heap new =
    AnswersWithin charge value given old_heap old built new_heap new

-- an argument, which is Undefined where it is absent, as a text and as a number; and what that is
-- charged
abbrev pub argument : List Value → ℕ → Value
argument arguments place = unwrap_or (slice_get arguments place) Undefined

abbrev pub text_argument : List ObjectState → List Value → ℕ → List ℕ
text_argument heap arguments place = text_of heap (argument arguments place)

abbrev pub number_argument : List ObjectState → List Value → ℕ → Num
number_argument heap arguments place = number_of heap (argument arguments place)

abbrev pub argument_charge : List ObjectState → List Value → ℕ → ℕ
argument_charge heap arguments place = conversion_charge heap (argument arguments place)
