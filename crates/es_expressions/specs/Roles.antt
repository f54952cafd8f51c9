-- What tokens do in expressions (ECMA-262 second edition, 7.6 and section 11, in this profile): in front
-- of an operand and behind one. Binary operators have a strength, by rising order of 11.5 to 11.11; `===`
-- and `!==` stand beside `==` and `!=`, as in the third edition (11.9).
use Rattle.std.specs.Prelude.{ℕ, Bool, true, false}
use Rattle.es_lexer.specs.declared.words.ReservedWord.{ReservedWord}
use Rattle.es_lexer.specs.declared.words.ReservedWord.TheVariants.{This, Null, True, False, New, Delete, Void, Typeof}
use Rattle.es_lexer.specs.declared.punctuators.Punctuator.{Punctuator}
use Rattle.es_lexer.specs.declared.punctuators.Punctuator.TheVariants.{OpenParenthesis, CloseParenthesis, OpenBracket, CloseBracket, Comma as CommaMark, Dot as DotMark, Question, Colon as ColonMark, Complement, Not, Increment, Decrement, Assign, TimesAssign, DivideAssign, RemainderAssign, PlusAssign, MinusAssign, ShiftLeftAssign, ShiftRightAssign, UnsignedShiftRightAssign, AndAssign, XorAssign, OrAssign, LogicalOr, LogicalAnd, BitOr, BitXor, BitAnd, Equal, NotEqual, StrictEqual, StrictNotEqual, Less, Greater, LessOrEqual, GreaterOrEqual, ShiftLeft, ShiftRight, UnsignedShiftRight, Plus, Minus, Times, Divide, Remainder}
use Rattle.es_expressions.specs.declared.lexemes.Symbol.{Symbol}
use Rattle.es_expressions.specs.declared.lexemes.Symbol.TheVariants.{Name, Word, Mark, Number, Words}
use Rattle.es_expressions.specs.declared.lexemes.Lexeme.{Lexeme}
use Rattle.es_expressions.specs.declared.roles.Front.{Front}
use Rattle.es_expressions.specs.declared.roles.Front.TheVariants.{Whole, Group, Creation, Sign, Step as StepInFront, Nothing as NoFront}
use Rattle.es_expressions.specs.declared.roles.Joint.{Joint}
use Rattle.es_expressions.specs.declared.roles.Joint.TheVariants.{Dot, Key, Call, Step, Operator, Choice, Assignment, Comma, Close, KeyEnd, Colon, Nothing}

unfoldable pub word_front : ReservedWord → Front
word_front This = Whole
word_front Null = Whole
word_front True = Whole
word_front False = Whole
word_front New = Creation
word_front Delete = Sign
word_front Void = Sign
word_front Typeof = Sign
word_front _ = NoFront

unfoldable pub mark_front : Punctuator → Front
mark_front OpenParenthesis = Group
mark_front Plus = Sign
mark_front Minus = Sign
mark_front Complement = Sign
mark_front Not = Sign
mark_front Increment = StepInFront
mark_front Decrement = StepInFront
mark_front _ = NoFront

-- what a symbol is where an operand is to come
unfoldable pub front_of : Symbol → Front
front_of (Name name) = Whole
front_of (Word word) = word_front word
front_of (Mark mark) = mark_front mark
front_of (Number number) = Whole
front_of (Words words) = Whole

unfoldable pub mark_joint : Punctuator → Joint
mark_joint DotMark = Dot
mark_joint OpenBracket = Key
mark_joint OpenParenthesis = Call
mark_joint Increment = Step
mark_joint Decrement = Step
mark_joint LogicalOr = Operator 4
mark_joint LogicalAnd = Operator 5
mark_joint BitOr = Operator 6
mark_joint BitXor = Operator 7
mark_joint BitAnd = Operator 8
mark_joint Equal = Operator 9
mark_joint NotEqual = Operator 9
mark_joint StrictEqual = Operator 9
mark_joint StrictNotEqual = Operator 9
mark_joint Less = Operator 10
mark_joint Greater = Operator 10
mark_joint LessOrEqual = Operator 10
mark_joint GreaterOrEqual = Operator 10
mark_joint ShiftLeft = Operator 11
mark_joint ShiftRight = Operator 11
mark_joint UnsignedShiftRight = Operator 11
mark_joint Plus = Operator 12
mark_joint Minus = Operator 12
mark_joint Times = Operator 13
mark_joint Divide = Operator 13
mark_joint Remainder = Operator 13
mark_joint Question = Choice
mark_joint Assign = Assignment
mark_joint TimesAssign = Assignment
mark_joint DivideAssign = Assignment
mark_joint RemainderAssign = Assignment
mark_joint PlusAssign = Assignment
mark_joint MinusAssign = Assignment
mark_joint ShiftLeftAssign = Assignment
mark_joint ShiftRightAssign = Assignment
mark_joint UnsignedShiftRightAssign = Assignment
mark_joint AndAssign = Assignment
mark_joint XorAssign = Assignment
mark_joint OrAssign = Assignment
mark_joint CommaMark = Comma
mark_joint CloseParenthesis = Close
mark_joint CloseBracket = KeyEnd
mark_joint ColonMark = Colon
mark_joint _ = Nothing

-- what a symbol is behind an operand
unfoldable pub joint_of : Symbol → Joint
joint_of (Mark mark) = mark_joint mark
joint_of _ = Nothing

-- `++` and `--` go on with an expression only where no line break stands in front of them (7.8.1)
abbrev pub unless_broken : Bool → Joint → Joint
unless_broken true Step = Nothing
unless_broken _ joint = joint

-- what a token does behind an operand
unfoldable pub joint : Lexeme → Joint
joint lexeme = unless_broken lexeme.after_break (joint_of lexeme.symbol)

-- what a token does in front of an operand
abbrev pub front : Lexeme → Front
front lexeme = front_of lexeme.symbol

-- the strength of a binary operator, from 4 for `||` to 13 for `*`, `/` and `%`
abbrev pub strength_of : Joint → ℕ
strength_of (Operator strength) = strength
strength_of _ = 0

abbrev pub strength : Lexeme → ℕ
strength lexeme = strength_of (joint lexeme)

abbrev pub is_name : Symbol → Bool
is_name (Name name) = true
is_name _ = false
