-- What phrases mean as they are evaluated, phrase by phrase (ECMA-262 second edition, 11 to 14, in this profile).
-- Each token is asked for what it is, and what isn't named here means nothing. `Sources` has the same as a
-- function on trees; `law_of_sources` says that it gives what is meant here of each program by the grammar.
use Rattle.std.specs.Prelude.{◌≡◌, ℕ, Bool, true, false, List, [], ◌∷◌, ◌++◌, Option, Some, None, length}
use Rattle.es_lexer.specs.declared.punctuators.Punctuator.{Punctuator}
use Rattle.es_lexer.specs.declared.punctuators.Punctuator.TheVariants as mark
use Rattle.es_lexer.specs.declared.words.ReservedWord.{ReservedWord}
use Rattle.es_lexer.specs.declared.words.ReservedWord.TheVariants as word
use Rattle.es_expressions.specs.Phrases.{Phrase}
use Rattle.es_expressions.specs.Phrases.Phrase.{Leaf, Group, Index as IndexPhrase, Member as MemberPhrase, CallEmpty, CallWith, NewPlain, NewEmpty, NewWith, Postfix, Signed as SignedPhrase, Stepped as SteppedPhrase, Binary as BinaryPhrase, Choice as ChoicePhrase, Assign as AssignPhrase, Comma as CommaPhrase}
use Rattle.es_expressions.specs.declared.lexemes.Symbol.{Symbol}
use Rattle.es_expressions.specs.declared.lexemes.Symbol.TheVariants as symbol
use Rattle.es_reader.specs.Grammar.{parameter_names}
use Rattle.es_reader.specs.Programs.{all_var_names, functions_of, new_names, outer_names}
use Rattle.es_reader.specs.Statements as written
use Rattle.es_reader.specs.Statements.Declaration.{Bare, Valued}
use Rattle.es_reader.specs.Statements.First.{NoFirst as NoFirstWritten, FirstExpression as FirstExpressionWritten, FirstVar as FirstVarWritten}
use Rattle.es_reader.specs.Statements.Head.{If as IfWritten, While as WhileWritten, For as ForWritten, ForIn as ForInWritten}
use Rattle.es_reader.specs.Statements.Item.{Function as FunctionWritten, Single}
use Rattle.es_reader.specs.Statements.Simple.{Var as VarWritten, Empty as EmptyWritten, Expression as ExpressionWritten, Jump, Return as ReturnWritten}
use Rattle.es_reader.specs.Statements.Statement.{Alone, Block as BlockWritten, Headed, IfElse as IfElseWritten}
use Rattle.es_reader.specs.Statements.Statements.{NoStatements as NoStatementsWritten, OneMore as OneMoreWritten}
use Rattle.es_reader.specs.Statements.Visitor.{Target as TargetWritten, Variable}
use Rattle.es_shapes.specs.declared.operators.Operator.{Operator}
use Rattle.es_shapes.specs.declared.operators.Operator.TheVariants as the
use Rattle.es_shapes.specs.declared.operators.Sign.TheVariants as sign
use Rattle.es_shapes.specs.Syntax.{Expression, Expressions, Target, Declarator, First, Visitor, Statement, Statements, Function, Program}
use Rattle.es_shapes.specs.Syntax.Expression.{This, Null, Truth, Number, Text, Name, Index, Member, Call, New, Signed, Typeof, Void, Delete, Stepped, Binary, And, Or, Choice, Assign, Update, Comma}
use Rattle.es_shapes.specs.Syntax.Expressions.{NoExpressions, OneMore}
use Rattle.es_shapes.specs.Syntax.Target.{NameTarget, IndexTarget, MemberTarget}
use Rattle.es_shapes.specs.Syntax.First.{NoFirst, FirstExpression, FirstVar}
use Rattle.es_shapes.specs.Syntax.Visitor.{VisitTarget, VisitVar}
use Rattle.es_shapes.specs.Syntax.Statement.{Block, Var, Empty, Evaluate, If, IfElse, While, For, ForIn, Continue, Break, Return}
use Rattle.es_shapes.specs.Syntax.Statements.{NoStatements, OneMoreStatement}

-- ---- tokens

abbrev pub MeansWord : ReservedWord → Expression → Type 0
MeansWord word.This e = e ≡ This
MeansWord word.Null e = e ≡ Null
MeansWord word.True e = e ≡ Truth true
MeansWord word.False e = e ≡ Truth false
MeansWord _ e = ⊥

-- a token that is a whole operand
abbrev pub MeansLeaf : Symbol → Expression → Type 0
MeansLeaf (symbol.Name name) e = e ≡ Name name
MeansLeaf (symbol.Number number) e = e ≡ Number number
MeansLeaf (symbol.Words words) e = e ≡ Text words
MeansLeaf (symbol.Word word) e = MeansWord word e
MeansLeaf (symbol.Mark mark) e = ⊥

-- an operator between two operands
abbrev pub IsOperator : Punctuator → Operator → Type 0
IsOperator mark.Times o = o ≡ the.Times
IsOperator mark.Divide o = o ≡ the.Divide
IsOperator mark.Remainder o = o ≡ the.Remainder
IsOperator mark.Plus o = o ≡ the.Plus
IsOperator mark.Minus o = o ≡ the.Minus
IsOperator mark.ShiftLeft o = o ≡ the.ShiftLeft
IsOperator mark.ShiftRight o = o ≡ the.ShiftRight
IsOperator mark.UnsignedShiftRight o = o ≡ the.UnsignedShiftRight
IsOperator mark.Less o = o ≡ the.Less
IsOperator mark.Greater o = o ≡ the.Greater
IsOperator mark.LessOrEqual o = o ≡ the.LessOrEqual
IsOperator mark.GreaterOrEqual o = o ≡ the.GreaterOrEqual
IsOperator mark.Equal o = o ≡ the.Equal
IsOperator mark.NotEqual o = o ≡ the.NotEqual
IsOperator mark.StrictEqual o = o ≡ the.StrictEqual
IsOperator mark.StrictNotEqual o = o ≡ the.StrictNotEqual
IsOperator mark.BitAnd o = o ≡ the.BitAnd
IsOperator mark.BitXor o = o ≡ the.BitXor
IsOperator mark.BitOr o = o ≡ the.BitOr
IsOperator _ o = ⊥

abbrev pub MeansJoined : Symbol → Expression → Expression → Expression → Type 0
MeansJoined (symbol.Mark mark.LogicalAnd) left right e = e ≡ And left right
MeansJoined (symbol.Mark mark.LogicalOr) left right e = e ≡ Or left right
MeansJoined (symbol.Mark mark) left right e =
    (o : Operator) × IsOperator mark o × (e ≡ Binary o left right)
MeansJoined _ left right e = ⊥

-- the operator of an assignment with one
abbrev pub IsUpdate : Punctuator → Operator → Type 0
IsUpdate mark.TimesAssign o = o ≡ the.Times
IsUpdate mark.DivideAssign o = o ≡ the.Divide
IsUpdate mark.RemainderAssign o = o ≡ the.Remainder
IsUpdate mark.PlusAssign o = o ≡ the.Plus
IsUpdate mark.MinusAssign o = o ≡ the.Minus
IsUpdate mark.ShiftLeftAssign o = o ≡ the.ShiftLeft
IsUpdate mark.ShiftRightAssign o = o ≡ the.ShiftRight
IsUpdate mark.UnsignedShiftRightAssign o = o ≡ the.UnsignedShiftRight
IsUpdate mark.AndAssign o = o ≡ the.BitAnd
IsUpdate mark.XorAssign o = o ≡ the.BitXor
IsUpdate mark.OrAssign o = o ≡ the.BitOr
IsUpdate _ o = ⊥

abbrev pub MeansAssigned : Symbol → Target → Expression → Expression → Type 0
MeansAssigned (symbol.Mark mark.Assign) target value e = e ≡ Assign target value
MeansAssigned (symbol.Mark mark) target value e =
    (o : Operator) × IsUpdate mark o × (e ≡ Update o target value)
MeansAssigned _ target value e = ⊥

-- an operator in front that writes nothing
abbrev pub MeansSigned : Symbol → Expression → Expression → Type 0
MeansSigned (symbol.Mark mark.Plus) operand e = e ≡ Signed sign.Plus operand
MeansSigned (symbol.Mark mark.Minus) operand e = e ≡ Signed sign.Minus operand
MeansSigned (symbol.Mark mark.Complement) operand e = e ≡ Signed sign.Complement operand
MeansSigned (symbol.Mark mark.Not) operand e = e ≡ Signed sign.Not operand
MeansSigned (symbol.Word word.Delete) operand e = e ≡ Delete operand
MeansSigned (symbol.Word word.Typeof) operand e = e ≡ Typeof operand
MeansSigned (symbol.Word word.Void) operand e = e ≡ Void operand
MeansSigned _ operand e = ⊥

-- whether a `++` or `--` is `--`
abbrev pub IsStep : Symbol → Bool → Type 0
IsStep (symbol.Mark mark.Increment) down = down ≡ false
IsStep (symbol.Mark mark.Decrement) down = down ≡ true
IsStep _ down = ⊥

abbrev pub IsName : Symbol → List ℕ → Type 0
IsName (symbol.Name name) codes = codes ≡ name
IsName _ codes = ⊥

-- ---- expressions

-- what is written to
abbrev pub IsTarget : Expression → Target → Type 0
IsTarget (Name name) target = target ≡ NameTarget name
IsTarget (Index base key) target = target ≡ IndexTarget base key
IsTarget (Member base name) target = target ≡ MemberTarget base name
IsTarget _ target = ⊥

-- an expression, and the parts that it has where it stands for arguments: those of a list with commas, and
-- otherwise it alone
pub record Meant : Type 0 where
  pub expression : Expression
  pub parts : Expressions

abbrev pub one : Expression → Meant
one e = record { expression = e; parts = OneMore e NoExpressions }

abbrev pub with_last : Expressions → Expression → Expressions
with_last NoExpressions e = OneMore e NoExpressions
with_last (OneMore first rest) e = OneMore first (with_last rest e)

abbrev pub list_of : Expressions → Meant
list_of parts = record { expression = Comma parts; parts = parts }

unfoldable pub Means : Phrase → Meant → Type 0
Means (Leaf token) m = (e : Expression) × MeansLeaf token.symbol e × (m ≡ one e)
Means (Group open_mark inner close_mark) m =
    (x : Meant) × Means inner x × (m ≡ one x.expression)
Means (IndexPhrase base open_mark key close_mark) m =
    (b : Meant) × (k : Meant) × Means base b × Means key k
    × (m ≡ one (Index b.expression k.expression))
Means (MemberPhrase base dot name) m =
    (b : Meant) × (codes : List ℕ) × Means base b × IsName name.symbol codes
    × (m ≡ one (Member b.expression codes))
Means (CallEmpty callee open_mark close_mark) m =
    (f : Meant) × Means callee f × (m ≡ one (Call f.expression NoExpressions))
Means (CallWith callee open_mark arguments close_mark) m =
    (f : Meant) × (given : Meant) × Means callee f × Means arguments given
    × (m ≡ one (Call f.expression given.parts))
Means (NewPlain word callee) m =
    (f : Meant) × Means callee f × (m ≡ one (New f.expression NoExpressions))
Means (NewEmpty word callee open_mark close_mark) m =
    (f : Meant) × Means callee f × (m ≡ one (New f.expression NoExpressions))
Means (NewWith word callee open_mark arguments close_mark) m =
    (f : Meant) × (given : Meant) × Means callee f × Means arguments given
    × (m ≡ one (New f.expression given.parts))
Means (Postfix target operator) m =
    (x : Meant) × (to : Target) × (down : Bool) × Means target x × IsTarget x.expression to
    × IsStep operator.symbol down × (m ≡ one (Stepped false down to))
Means (SignedPhrase operator operand) m =
    (x : Meant) × (e : Expression) × Means operand x
    × MeansSigned operator.symbol x.expression e × (m ≡ one e)
Means (SteppedPhrase operator target) m =
    (x : Meant) × (to : Target) × (down : Bool) × Means target x × IsTarget x.expression to
    × IsStep operator.symbol down × (m ≡ one (Stepped true down to))
Means (BinaryPhrase left operator right) m =
    (a : Meant) × (b : Meant) × (e : Expression) × Means left a × Means right b
    × MeansJoined operator.symbol a.expression b.expression e × (m ≡ one e)
Means (ChoicePhrase test question chosen colon other) m =
    (a : Meant) × (b : Meant) × (c : Meant) × Means test a × Means chosen b × Means other c
    × (m ≡ one (Choice a.expression b.expression c.expression))
Means (AssignPhrase target operator value) m =
    (x : Meant) × (v : Meant) × (to : Target) × (e : Expression) × Means target x
    × Means value v × IsTarget x.expression to
    × MeansAssigned operator.symbol to v.expression e × (m ≡ one e)
Means (CommaPhrase front comma last) m =
    (f : Meant) × (l : Meant) × Means front f × Means last l
    × (m ≡ list_of (with_last f.parts l.expression))

-- ---- statements

abbrev pub MeansDeclaration : written.Declaration → Declarator → Type 0
MeansDeclaration (Bare name) d = IsName name.symbol d.name × (d.value ≡ None)
MeansDeclaration (Valued name operator value) d =
    (v : Meant) × IsName name.symbol d.name × Means value v × (d.value ≡ Some v.expression)

abbrev pub MeansFurther : List written.FurtherDeclaration → List Declarator → Type 0
MeansFurther [] ds = ds ≡ []
MeansFurther (further ∷ others) ds =
    (d : Declarator) × (rest : List Declarator) × MeansDeclaration further.declaration d
    × MeansFurther others rest × (ds ≡ d ∷ rest)

abbrev pub MeansDeclarations : written.Declarations → List Declarator → Type 0
MeansDeclarations declarations ds =
    (d : Declarator) × (rest : List Declarator) × MeansDeclaration declarations.first d
    × MeansFurther declarations.others rest × (ds ≡ d ∷ rest)

abbrev pub MeansJump : Symbol → Statement → Type 0
MeansJump (symbol.Word word.Break) s = s ≡ Break
MeansJump (symbol.Word word.Continue) s = s ≡ Continue
MeansJump _ s = ⊥

-- a part that may be absent
abbrev pub MeansPart : Option Phrase → Option Expression → Type 0
MeansPart None part = part ≡ None
MeansPart (Some phrase) part = (x : Meant) × Means phrase x × (part ≡ Some x.expression)

abbrev pub MeansSimple : written.Simple → Statement → Type 0
MeansSimple (VarWritten word declarations semicolon) s =
    (ds : List Declarator) × MeansDeclarations declarations ds × (s ≡ Var ds)
MeansSimple (EmptyWritten semicolon) s = s ≡ Empty
MeansSimple (ExpressionWritten phrase semicolon) s =
    (x : Meant) × Means phrase x × (s ≡ Evaluate x.expression)
MeansSimple (Jump word semicolon) s = MeansJump word.symbol s
MeansSimple (ReturnWritten word value semicolon) s =
    (part : Option Expression) × MeansPart value part × (s ≡ Return part)

abbrev pub MeansFirst : written.First → First → Type 0
MeansFirst NoFirstWritten first = first ≡ NoFirst
MeansFirst (FirstExpressionWritten phrase) first =
    (x : Meant) × Means phrase x × (first ≡ FirstExpression x.expression)
MeansFirst (FirstVarWritten word declarations) first =
    (ds : List Declarator) × MeansDeclarations declarations ds × (first ≡ FirstVar ds)

abbrev pub MeansVisitor : written.Visitor → Visitor → Type 0
MeansVisitor (TargetWritten phrase) v =
    (x : Meant) × (to : Target) × Means phrase x × IsTarget x.expression to
    × (v ≡ VisitTarget to)
MeansVisitor (Variable word name) v =
    (codes : List ℕ) × IsName name.symbol codes × (v ≡ VisitVar codes)

-- a head with what its statement means
abbrev pub MeansHeaded : written.Head → Statement → Statement → Type 0
MeansHeaded (IfWritten word open_mark test close_mark) body s =
    (x : Meant) × Means test x × (s ≡ If x.expression body)
MeansHeaded (WhileWritten word open_mark test close_mark) body s =
    (x : Meant) × Means test x × (s ≡ While x.expression body)
MeansHeaded (ForWritten word open_mark first semicolon test second_semicolon update close_mark) body
    s =
    (f : First) × (t : Option Expression) × (u : Option Expression) × MeansFirst first f
    × MeansPart test t × MeansPart update u × (s ≡ For f t u body)
MeansHeaded (ForInWritten word open_mark visitor in_word object close_mark) body s =
    (v : Visitor) × (x : Meant) × MeansVisitor visitor v × Means object x
    × (s ≡ ForIn v x.expression body)

-- and with what the one behind `else` means
abbrev pub MeansElse : written.Head → Statement → Statement → Statement → Type 0
MeansElse (IfWritten word open_mark test close_mark) body other s =
    (x : Meant) × Means test x × (s ≡ IfElse x.expression body other)
MeansElse _ body other s = ⊥

unfoldable mutual
  pub MeansStatement : written.Statement → Statement → Type 0
  MeansStatement (Alone simple) s = MeansSimple simple s
  MeansStatement (BlockWritten open_mark inner close_mark) s =
      (all : Statements) × MeansAll inner all × (s ≡ Block all)
  MeansStatement (Headed head body) s =
      (b : Statement) × MeansStatement body b × MeansHeaded head b s
  MeansStatement (IfElseWritten head body else_word other) s =
      (b : Statement) × (o : Statement) × MeansStatement body b × MeansStatement other o
      × MeansElse head b o s

  pub MeansAll : written.Statements → Statements → Type 0
  MeansAll NoStatementsWritten all = all ≡ NoStatements
  MeansAll (OneMoreWritten first others) all =
      (s : Statement) × (rest : Statements) × MeansStatement first s × MeansAll others rest
      × (all ≡ OneMoreStatement s rest)

-- ---- programs

pub record MeansFunction (declared : written.Declared) (function : Function) : Type 0 where
  pub name : IsName declared.name.symbol function.name
  pub locals : function.locals
      ≡ new_names [] (parameter_names declared.parameters ++ all_var_names declared.body)
  pub parameters : function.parameters ≡ length (parameter_names declared.parameters)
  pub body : MeansAll declared.body function.body

abbrev pub MeansFunctions : List written.Declared → List Function → Type 0
MeansFunctions [] functions = functions ≡ []
MeansFunctions (declared ∷ others) functions =
    (f : Function) × (rest : List Function) × MeansFunction declared f
    × MeansFunctions others rest × (functions ≡ f ∷ rest)

-- the statements that stand in no function
abbrev pub MeansTop : List written.Item → Statements → Type 0
MeansTop [] all = all ≡ NoStatements
MeansTop (FunctionWritten declared ∷ items) all = MeansTop items all
MeansTop (Single statement ∷ items) all =
    (s : Statement) × (rest : Statements) × MeansStatement statement s × MeansTop items rest
    × (all ≡ OneMoreStatement s rest)

pub record MeansProgram (items : List written.Item) (program : Program) : Type 0 where
  pub variables : program.variables ≡ new_names [] (outer_names items)
  pub functions : MeansFunctions (functions_of items) program.functions
  pub body : MeansTop items program.body
