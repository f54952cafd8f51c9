-- The rows of expressions keep that all values are known, and hand over only such ones, where their
-- parts do.
use Rattle.std.proofs.Common.{ℕ, false, List, [], ◌∷◌, refl, arith}
use Rattle.std.proofs.lemmas.List.Elements.{All-cons, All-nil}
use Rattle.es_values.specs.declared.numbers.Num.TheVariants.{Whole}
use Rattle.es_values.specs.declared.values.Value.{Value}
use Rattle.es_values.specs.declared.values.Value.TheVariants.{Undefined, Null, Bool as Boolean, Number, Str}
use Rattle.es_values.specs.Values.{truth_of}
use Rattle.es_eval.specs.declared.outcomes.StopCause.TheVariants.{NotObject}
use Rattle.es_eval.specs.Actions.{Action}
use Rattle.es_eval.specs.Calls.{Body}
use Rattle.es_eval.specs.Members.Place.{NamePlace, MemberPlace}
use Rattle.es_shapes.specs.Operators.{type_text}
use Rattle.es_eval.specs.Rows.{Evaluation, call_row, delete_row, entered_place, expression_row, last_value, place_row, values, with_members}
use Rattle.es_shapes.specs.Syntax.{Expression, Expressions, Target, Function as Declared, Statements}
use Rattle.es_shapes.specs.Syntax.Expression.{This, Null as NullWord, Truth, Number as Numeral, Text, Name, Index, Member, Call, New, Signed, Typeof, Void, Delete, Stepped, Binary, And, Or, Choice, Assign, Update, Comma}
use Rattle.es_shapes.specs.Syntax.Expressions.{NoExpressions, OneMore}
use Rattle.es_shapes.specs.Syntax.Target.{NameTarget, IndexTarget, MemberTarget}
use Rattle.script_laws.proofs.StateLemmas.{AllKnown, Keeps, Known, Setting, all_more, as_text-keeps, behind-keeps, gives-keeps, if-keeps, keeps_more, known_more, simple-keeps, simple-known, reads-keeps, step-keeps, stops-keeps, value-keeps}
use Rattle.script_laws.proofs.CallLemmas.{call_member-keeps, call_value-keeps, new_value-keeps}
use Rattle.script_laws.proofs.MemberLemmas.{PlaceKnown, delete_index-keeps, delete_member-keeps, operates-keeps, place_more, read_member-keeps, read_name-keeps, read_place-keeps, signs-keeps, step_row-keeps, typeof_name-keeps, write_place-keeps}

with_members-keeps : (s : Setting) {count : ℕ} (base : Value) {more : Action Value}
    → Keeps s count (Known s) more → Keeps s count (Known s) (with_members base more)
with_members-keeps s Undefined keeps = stops-keeps s NotObject
with_members-keeps s Null keeps = stops-keeps s NotObject
with_members-keeps s _ keeps = keeps

-- ---- operands, targets and arguments

module _ (s : Setting) (ev : Evaluation) (evs : (e : Expression) → Keeps s 0 (Known s) (ev e)) where
  pub value-at : {count : ℕ} (e : Expression) → Keeps s count (Known s) (ev e)
  value-at e = keeps_more s (omega arith) (evs e)

  place_row-keeps : {count : ℕ} (target : Target)
      → Keeps s count (PlaceKnown s) (place_row ev target)
  place_row-keeps (NameTarget name) = gives-keeps s (NamePlace name) (λ more h. tt)
  place_row-keeps (IndexTarget base key) =
      behind-keeps s (value-at base) (λ m h base known.
      behind-keeps s (value-at key) (λ n l key other.
      behind-keeps s (as_text-keeps s key) (λ o k key any.
      gives-keeps s (MemberPlace base key) (λ more j. known_more s base (omega arith) known))))
  place_row-keeps (MemberTarget base name) =
      behind-keeps s (value-at base) (λ m h base known.
      gives-keeps s (MemberPlace base name) (λ more j. known_more s base j known))

  pub entered_place-keeps : {count : ℕ} (target : Target)
      → Keeps s count (PlaceKnown s) (entered_place ev target)
  entered_place-keeps target = step-keeps s (place_row-keeps target)

  values-keeps : {count : ℕ} (arguments : Expressions)
      → Keeps s count (AllKnown s) (values ev arguments)
  values-keeps NoExpressions = gives-keeps s [] (λ more h. All-nil (Known s more))
  values-keeps (OneMore first rest) =
      behind-keeps s (value-at first) (λ m h value known. behind-keeps s (values-keeps rest)
      (λ n l others all. gives-keeps s (value ∷ others) (λ more j.
      All-cons (Known s more) value others (known_more s value (omega arith) known)
      (all_more s others j all))))

  last_value-keeps : {count : ℕ} (value : Value) (parts : Expressions) → Known s count value
      → Keeps s count (Known s) (last_value ev value parts)
  last_value-keeps value NoExpressions known = value-keeps s value known
  last_value-keeps value (OneMore first rest) known =
      behind-keeps s (value-at first) (λ m h value known. last_value-keeps value rest known)

  delete_row-keeps : {count : ℕ} (operand : Expression)
      → Keeps s count (Known s) (delete_row ev operand)
  delete_row-keeps (Name name) = step-keeps s (simple-keeps s (Boolean false) refl)
  delete_row-keeps (Index base key) =
      step-keeps s (behind-keeps s (value-at base) (λ m h base known.
      behind-keeps s (value-at key) (λ n l key other. delete_index-keeps s base key)))
  delete_row-keeps (Member base name) =
      step-keeps s (behind-keeps s (value-at base) (λ m h base known.
      delete_member-keeps s base name))
  delete_row-keeps other =
      behind-keeps s (value-at other) (λ m h value known. simple-keeps s (Boolean false) refl)

-- ---- expressions

module _ (s : Setting) (functions : List Declared) (body : Body)
    (bodies : (inner : Statements) → Keeps s 0 (Known s) (body inner))
    (ev : Evaluation) (evs : (e : Expression) → Keeps s 0 (Known s) (ev e)) where
  call_row-keeps : {count : ℕ} (callee : Expression) (arguments : Expressions)
      → Keeps s count (Known s) (call_row functions body ev callee arguments)
  call_row-keeps (Index base key) arguments =
      step-keeps s (behind-keeps s (value-at s ev evs base) (λ m h base known.
      behind-keeps s (value-at s ev evs key) (λ n l key other.
      with_members-keeps s base (behind-keeps s (as_text-keeps s key) (λ o k key any.
      behind-keeps s (values-keeps s ev evs arguments) (λ p j given all.
      call_member-keeps s functions body bodies base key given
      (known_more s base (omega arith) known) all))))))
  call_row-keeps (Member base name) arguments =
      step-keeps s (behind-keeps s (value-at s ev evs base) (λ m h base known.
      with_members-keeps s base (behind-keeps s (values-keeps s ev evs arguments) (λ p j given all.
      call_member-keeps s functions body bodies base name given
      (known_more s base j known) all))))
  call_row-keeps callee arguments =
      behind-keeps s (value-at s ev evs callee) (λ m h callee known.
      behind-keeps s (values-keeps s ev evs arguments) (λ p j given all.
      call_value-keeps s functions body bodies callee given all))

  pub expression_row-keeps : {count : ℕ} (e : Expression)
      → Keeps s count (Known s) (expression_row functions body ev e)
  expression_row-keeps This = reads-keeps s (λ w. w.this) (λ w fine h. fine.this)
  expression_row-keeps NullWord = simple-keeps s Null refl
  expression_row-keeps (Truth truth) = simple-keeps s (Boolean truth) refl
  expression_row-keeps (Numeral number) = simple-keeps s (Number (Whole number)) refl
  expression_row-keeps (Text text) = simple-keeps s (Str text) refl
  expression_row-keeps (Name name) = read_name-keeps s name
  expression_row-keeps (Index base key) =
      behind-keeps s (value-at s ev evs base) (λ m h base known.
      behind-keeps s (value-at s ev evs key) (λ n l key other.
      with_members-keeps s base (behind-keeps s (as_text-keeps s key) (λ o k key any.
      read_member-keeps s base key (known_more s base (omega arith) known)))))
  expression_row-keeps (Member base name) =
      behind-keeps s (value-at s ev evs base) (λ m h base known.
      read_member-keeps s base name known)
  expression_row-keeps (Call callee arguments) = call_row-keeps callee arguments
  expression_row-keeps (New callee arguments) =
      behind-keeps s (value-at s ev evs callee) (λ m h callee known.
      behind-keeps s (values-keeps s ev evs arguments) (λ p j given all.
      new_value-keeps s functions body bodies callee given all))
  expression_row-keeps (Signed sign operand) =
      behind-keeps s (value-at s ev evs operand) (λ m h value known. signs-keeps s sign value)
  expression_row-keeps (Typeof (Name name)) = step-keeps s (typeof_name-keeps s name)
  expression_row-keeps (Typeof operand) =
      behind-keeps s (value-at s ev evs operand) (λ m h value known.
      simple-keeps s (type_text value) refl)
  expression_row-keeps (Void operand) =
      behind-keeps s (value-at s ev evs operand) (λ m h value known. simple-keeps s Undefined refl)
  expression_row-keeps (Delete operand) = delete_row-keeps s ev evs operand
  expression_row-keeps (Stepped in_front down target) =
      behind-keeps s (entered_place-keeps s ev evs target) (λ m h place known.
      step_row-keeps s in_front down place known)
  expression_row-keeps (Binary operator left right) =
      behind-keeps s (value-at s ev evs left) (λ m h left known.
      behind-keeps s (value-at s ev evs right) (λ n l right other.
      operates-keeps s operator left right))
  expression_row-keeps (And left right) =
      behind-keeps s (value-at s ev evs left) (λ m h value known.
      if-keeps s (truth_of value) (value-at s ev evs right) (value-keeps s value known))
  expression_row-keeps (Or left right) =
      behind-keeps s (value-at s ev evs left) (λ m h value known.
      if-keeps s (truth_of value) (value-keeps s value known) (value-at s ev evs right))
  expression_row-keeps (Choice test first second) =
      behind-keeps s (value-at s ev evs test) (λ m h value known.
      if-keeps s (truth_of value) (value-at s ev evs first) (value-at s ev evs second))
  expression_row-keeps (Assign target value) =
      behind-keeps s (entered_place-keeps s ev evs target) (λ m h place known.
      behind-keeps s (value-at s ev evs value) (λ n l value given.
      write_place-keeps s place value (place_more s place l known) given))
  expression_row-keeps (Update operator target value) =
      behind-keeps s (entered_place-keeps s ev evs target) (λ m h place known.
      behind-keeps s (read_place-keeps s place known) (λ n l before old.
      behind-keeps s (value-at s ev evs value) (λ o k value given.
      behind-keeps s (operates-keeps s operator before value) (λ p j result new.
      write_place-keeps s place result (place_more s place (omega arith) known) new))))
  expression_row-keeps {count} (Comma parts) =
      last_value-keeps s ev evs Undefined parts (simple-known s count Undefined refl)
