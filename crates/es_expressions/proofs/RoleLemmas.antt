-- What the tables of roles say together.
use Rattle.std.proofs.Common.{◌≡◌, ℕ, ◌≤◌, Bool, true, false, refl, arith}
use Rattle.es_expressions.specs.Roles.{front, front_of, mark_front, joint, joint_of, mark_joint, unless_broken, strength, strength_of}
use Rattle.es_lexer.specs.declared.punctuators.Punctuator.{Punctuator}
use Rattle.es_lexer.specs.declared.punctuators.Punctuator.TheVariants.{CloseParenthesis, LogicalOr, LogicalAnd, BitOr, BitXor, BitAnd, Equal, NotEqual, StrictEqual, StrictNotEqual, Less, Greater, LessOrEqual, GreaterOrEqual, ShiftLeft, ShiftRight, UnsignedShiftRight, Plus, Minus, Times, Divide, Remainder}
use Rattle.es_expressions.specs.declared.lexemes.Symbol.TheVariants.{Mark}
use Rattle.es_expressions.specs.declared.lexemes.Lexeme.{Lexeme}
use Rattle.es_expressions.specs.declared.lexemes.Symbol.{Symbol}
use Rattle.es_expressions.specs.declared.roles.Front.TheVariants.{Nothing as NoFront}
use Rattle.es_expressions.specs.declared.roles.Joint.{Joint}
use Rattle.es_expressions.specs.declared.roles.Joint.TheVariants.{Step as StepJoint, Operator, Close}

abbrev pub IsStrength : ℕ → Type 0
IsStrength n = (4 ≤ n) × (n ≤ 13)

bounded : (k n : ℕ) → 4 ≤ k → k ≤ 13 → Operator k ≡ Operator n → IsStrength n
bounded k n a b h = let e : k ≡ n = cc in (omega arith, omega arith)

mark-bounds : (m : Punctuator) (n : ℕ) → mark_joint m ≡ Operator n → IsStrength n
unfolding mark_joint
mark-bounds LogicalOr n h = bounded 4 n (omega arith) (omega arith) h
mark-bounds LogicalAnd n h = bounded 5 n (omega arith) (omega arith) h
mark-bounds BitOr n h = bounded 6 n (omega arith) (omega arith) h
mark-bounds BitXor n h = bounded 7 n (omega arith) (omega arith) h
mark-bounds BitAnd n h = bounded 8 n (omega arith) (omega arith) h
mark-bounds Equal n h = bounded 9 n (omega arith) (omega arith) h
mark-bounds NotEqual n h = bounded 9 n (omega arith) (omega arith) h
mark-bounds StrictEqual n h = bounded 9 n (omega arith) (omega arith) h
mark-bounds StrictNotEqual n h = bounded 9 n (omega arith) (omega arith) h
mark-bounds Less n h = bounded 10 n (omega arith) (omega arith) h
mark-bounds Greater n h = bounded 10 n (omega arith) (omega arith) h
mark-bounds LessOrEqual n h = bounded 10 n (omega arith) (omega arith) h
mark-bounds GreaterOrEqual n h = bounded 10 n (omega arith) (omega arith) h
mark-bounds ShiftLeft n h = bounded 11 n (omega arith) (omega arith) h
mark-bounds ShiftRight n h = bounded 11 n (omega arith) (omega arith) h
mark-bounds UnsignedShiftRight n h = bounded 11 n (omega arith) (omega arith) h
mark-bounds Plus n h = bounded 12 n (omega arith) (omega arith) h
mark-bounds Minus n h = bounded 12 n (omega arith) (omega arith) h
mark-bounds Times n h = bounded 13 n (omega arith) (omega arith) h
mark-bounds Divide n h = bounded 13 n (omega arith) (omega arith) h
mark-bounds Remainder n h = bounded 13 n (omega arith) (omega arith) h
mark-bounds _ n h = absurd (cc)

symbol-bounds : (s : Symbol) (n : ℕ) → joint_of s ≡ Operator n → IsStrength n
unfolding joint_of
symbol-bounds (Mark m) n h = mark-bounds m n h
symbol-bounds _ n h = absurd (cc)

unbroken : (b : Bool) (j : Joint) (n : ℕ) → unless_broken b j ≡ Operator n → j ≡ Operator n
unbroken true StepJoint n h = absurd (cc)
unbroken true _ n h = h
unbroken false StepJoint n h = h
unbroken false _ n h = h

pub joint-bounds : (t : Lexeme) (n : ℕ) → joint t ≡ Operator n → IsStrength n
unfolding joint
joint-bounds t n h = symbol-bounds t.symbol n (unbroken t.after_break (joint_of t.symbol) n h)

within : (j : Joint) → ((n : ℕ) → j ≡ Operator n → IsStrength n) → strength_of j ≤ 13
within (Operator n) h = (h n refl).1
within _ h = omega arith

pub strength-bound : (t : Lexeme) → strength t ≤ 13
strength-bound t = within (joint t) (joint-bounds t)

mark-close : (m : Punctuator) → mark_joint m ≡ Close → mark_front m ≡ NoFront
unfolding mark_joint mark_front
mark-close CloseParenthesis h = refl
mark-close _ h = absurd (cc)

symbol-close : (s : Symbol) → joint_of s ≡ Close → front_of s ≡ NoFront
unfolding joint_of front_of
symbol-close (Mark m) h = mark-close m h
symbol-close _ h = absurd (cc)

unbroken-close : (b : Bool) (j : Joint) → unless_broken b j ≡ Close → j ≡ Close
unbroken-close true StepJoint h = absurd (cc)
unbroken-close true _ h = h
unbroken-close false StepJoint h = h
unbroken-close false _ h = h

pub close-front : (t : Lexeme) → joint t ≡ Close → front t ≡ NoFront
unfolding joint
close-front t h = symbol-close t.symbol (unbroken-close t.after_break (joint_of t.symbol) h)
