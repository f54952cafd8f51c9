-- Operators of values as actions, with their charges (ECMA-262 second edition, 11.3 to 11.10).
use Rattle.std.specs.Prelude.{not}
use Rattle.es_values.specs.declared.values.Value.{Value}
use Rattle.es_values.specs.declared.values.Value.TheVariants.{Bool as Boolean}
use Rattle.es_values.specs.Values.{truth_of}
use Rattle.es_shapes.specs.declared.operators.Operator.{Operator}
use Rattle.es_shapes.specs.declared.operators.Sign.{Sign}
use Rattle.es_shapes.specs.declared.operators.Sign.TheVariants as sign
use Rattle.es_shapes.specs.Operators.{operated, operation_charge, signed_number}
use Rattle.es_eval.specs.Actions.{Action, as_number, behind, charged, gives}

unfoldable pub operates : Operator → Value → Value → Action Value
operates operator left right =
    charged (λ heap. operation_charge heap operator left right)
    (λ w next. next (operated w.heap operator left right) w)

-- `!` asks for no number
abbrev pub signs : Sign → Value → Action Value
signs sign.Not value = gives (Boolean (not (truth_of value)))
signs other value = behind (as_number value) (λ number. gives (signed_number other number))
