-- The rows of expressions, by alike parts, are alike.
use Rattle.std.proofs.Common.{ℕ, false, List, [], ◌∷◌, refl}
use Rattle.es_values.specs.declared.numbers.Num.TheVariants.{Whole}
use Rattle.es_values.specs.declared.values.Value.{Value}
use Rattle.es_values.specs.declared.values.Value.TheVariants.{Undefined, Null, Bool as Boolean, Number, Str}
use Rattle.es_values.specs.Values.{truth_of}
use Rattle.es_eval.specs.declared.outcomes.StopCause.TheVariants.{NotObject}
use Rattle.es_eval.specs.Actions.{Action}
use Rattle.es_eval.specs.Calls.{Body}
use Rattle.es_eval.specs.Members.Place.{NamePlace, MemberPlace}
use Rattle.es_shapes.specs.Operators.{type_text}
use Rattle.es_eval.specs.Rows.{Evaluation, call_row, delete_row, entered_place, expression_row, last_value, place_row, values, with_members}
use Rattle.es_shapes.specs.Syntax.{Expression, Expressions, Target, Function as Declared, Statements}
use Rattle.es_shapes.specs.Syntax.Expression.{This, Null as NullWord, Truth, Number as Numeral, Text, Name, Index, Member, Call, New, Signed, Typeof, Void, Delete, Stepped, Binary, And, Or, Choice, Assign, Update, Comma}
use Rattle.es_shapes.specs.Syntax.Expressions.{NoExpressions, OneMore}
use Rattle.es_shapes.specs.Syntax.Target.{NameTarget, IndexTarget, MemberTarget}
use Rattle.es_eval.proofs.AlikeLemmas.{Alike, as_text-alike, behind-alike, gives-alike, gives-in-alike, if-alike, step-alike, stops-alike}
use Rattle.es_eval.proofs.CallLemmas.{call_member-alike, call_value-alike, new_value-alike}
use Rattle.es_eval.proofs.MemberLemmas.{delete_index-alike, delete_member-alike, operates-alike, read_member-alike, read_name-alike, read_place-alike, signs-alike, step_row-alike, typeof_name-alike, write_place-alike}

with_members-alike : {left : ℕ} (base : Value) {more others : Action Value} → Alike left more others
    → Alike left (with_members base more) (with_members base others)
with_members-alike Undefined alike = stops-alike NotObject
with_members-alike Null alike = stops-alike NotObject
with_members-alike _ alike = alike

-- ---- operands, targets and arguments

module _ (left : ℕ) (ev by : Evaluation) (alike : (e : Expression) → Alike left (ev e) (by e)) where
  place_row-alike : (target : Target) → Alike left (place_row ev target) (place_row by target)
  place_row-alike (NameTarget name) = gives-alike (NamePlace name)
  place_row-alike (IndexTarget base key) =
      behind-alike (alike base) (λ base. behind-alike (alike key) (λ key.
      behind-alike (as_text-alike key) (λ key. gives-alike (MemberPlace base key))))
  place_row-alike (MemberTarget base name) =
      behind-alike (alike base) (λ base. gives-alike (MemberPlace base name))

  pub entered_place-alike : (target : Target)
      → Alike left (entered_place ev target) (entered_place by target)
  entered_place-alike target = step-alike (place_row-alike target)

  values-alike : (arguments : Expressions) → Alike left (values ev arguments) (values by arguments)
  values-alike NoExpressions = gives-alike []
  values-alike (OneMore first rest) =
      behind-alike (alike first) (λ value. behind-alike (values-alike rest) (λ others.
      gives-alike (value ∷ others)))

  last_value-alike : (value : Value) (parts : Expressions)
      → Alike left (last_value ev value parts) (last_value by value parts)
  last_value-alike value NoExpressions = gives-alike value
  last_value-alike value (OneMore first rest) =
      behind-alike (alike first) (λ value. last_value-alike value rest)

  delete_row-alike : (operand : Expression)
      → Alike left (delete_row ev operand) (delete_row by operand)
  delete_row-alike (Name name) = step-alike (gives-alike (Boolean false))
  delete_row-alike (Index base key) =
      step-alike (behind-alike (alike base) (λ base. behind-alike (alike key) (λ key.
      delete_index-alike base key)))
  delete_row-alike (Member base name) =
      step-alike (behind-alike (alike base) (λ base. delete_member-alike base name))
  delete_row-alike other = behind-alike (alike other) (λ value. gives-alike (Boolean false))

-- ---- expressions

module _ (functions : List Declared) (left : ℕ) (body other : Body)
    (bodies : (inner : Statements) → Alike left (body inner) (other inner))
    (ev by : Evaluation) (alike : (e : Expression) → Alike left (ev e) (by e)) where
  call_row-alike : (callee : Expression) (arguments : Expressions)
      → Alike left (call_row functions body ev callee arguments)
      (call_row functions other by callee arguments)
  call_row-alike (Index base key) arguments =
      step-alike (behind-alike (alike base) (λ base. behind-alike (alike key) (λ key.
      with_members-alike base (behind-alike (as_text-alike key) (λ key.
      behind-alike (values-alike left ev by alike arguments) (λ given.
      call_member-alike functions left body other bodies base key given))))))
  call_row-alike (Member base name) arguments =
      step-alike (behind-alike (alike base) (λ base. with_members-alike base
      (behind-alike (values-alike left ev by alike arguments) (λ given.
      call_member-alike functions left body other bodies base name given))))
  call_row-alike callee arguments =
      behind-alike (alike callee) (λ callee.
      behind-alike (values-alike left ev by alike arguments) (λ given.
      call_value-alike functions left body other bodies callee given))

  pub expression_row-alike : (e : Expression)
      → Alike left (expression_row functions body ev e) (expression_row functions other by e)
  expression_row-alike This = gives-in-alike (λ w. w.this) (λ w. w) (λ w. refl) (λ more w. refl) (λ more w. refl)
  expression_row-alike NullWord = gives-alike Null
  expression_row-alike (Truth truth) = gives-alike (Boolean truth)
  expression_row-alike (Numeral number) = gives-alike (Number (Whole number))
  expression_row-alike (Text text) = gives-alike (Str text)
  expression_row-alike (Name name) = read_name-alike name
  expression_row-alike (Index base key) =
      behind-alike (alike base) (λ base. behind-alike (alike key) (λ key.
      with_members-alike base (behind-alike (as_text-alike key) (λ key.
      read_member-alike base key))))
  expression_row-alike (Member base name) =
      behind-alike (alike base) (λ base. read_member-alike base name)
  expression_row-alike (Call callee arguments) = call_row-alike callee arguments
  expression_row-alike (New callee arguments) =
      behind-alike (alike callee) (λ callee.
      behind-alike (values-alike left ev by alike arguments) (λ given.
      new_value-alike functions left body other bodies callee given))
  expression_row-alike (Signed sign operand) = behind-alike (alike operand) (signs-alike sign)
  expression_row-alike (Typeof (Name name)) = step-alike (typeof_name-alike name)
  expression_row-alike (Typeof operand) =
      behind-alike (alike operand) (λ value. gives-alike (type_text value))
  expression_row-alike (Void operand) =
      behind-alike (alike operand) (λ value. gives-alike Undefined)
  expression_row-alike (Delete operand) = delete_row-alike left ev by alike operand
  expression_row-alike (Stepped in_front down target) =
      behind-alike (entered_place-alike left ev by alike target) (step_row-alike in_front down)
  expression_row-alike (Binary operator first second) =
      behind-alike (alike first) (λ first. behind-alike (alike second) (λ second.
      operates-alike operator first second))
  expression_row-alike (And first second) =
      behind-alike (alike first) (λ value.
      if-alike (truth_of value) (alike second) (gives-alike value))
  expression_row-alike (Or first second) =
      behind-alike (alike first) (λ value.
      if-alike (truth_of value) (gives-alike value) (alike second))
  expression_row-alike (Choice test first second) =
      behind-alike (alike test) (λ value. if-alike (truth_of value) (alike first) (alike second))
  expression_row-alike (Assign target value) =
      behind-alike (entered_place-alike left ev by alike target) (λ place.
      behind-alike (alike value) (write_place-alike place))
  expression_row-alike (Update operator target value) =
      behind-alike (entered_place-alike left ev by alike target) (λ place.
      behind-alike (read_place-alike place) (λ before. behind-alike (alike value) (λ value.
      behind-alike (operates-alike operator before value) (write_place-alike place))))
  expression_row-alike (Comma parts) = last_value-alike left ev by alike Undefined parts
