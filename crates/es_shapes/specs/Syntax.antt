-- Programs as they are evaluated: their expressions, statements and functions, without tokens (ECMA-262
-- second edition, 11 to 14, in this profile).
use Rattle.std.specs.Prelude.{ℕ, Bool, ℤ, List, Option}
use Rattle.es_shapes.specs.declared.operators.Operator.{Operator}
use Rattle.es_shapes.specs.declared.operators.Sign.{Sign}

mutual
  -- `this`; `null`; `true`; `1`; `"t"`; `x`; `b[k]`; `b.x`; `f(a, b)`; `new f(a, b)`; `-a`; `typeof a`;
  -- `void a`; `delete a`; `++x` and `x--`; `a + b`; `a && b`; `a || b`; a choice of two by a test; `x = a`;
  -- `x += a`; `a, b, c`
  pub data Expression : Type 0 where
    This : Expression
    Null : Expression
    Truth : (truth : Bool) → Expression
    Number : (number : ℤ) → Expression
    Text : (text : List ℕ) → Expression
    Name : (name : List ℕ) → Expression
    Index : (base : Expression) → (key : Expression) → Expression
    Member : (base : Expression) → (name : List ℕ) → Expression
    Call : (callee : Expression) → (arguments : Expressions) → Expression
    New : (callee : Expression) → (arguments : Expressions) → Expression
    Signed : (sign : Sign) → (operand : Expression) → Expression
    Typeof : (operand : Expression) → Expression
    Void : (operand : Expression) → Expression
    Delete : (operand : Expression) → Expression
    Stepped : (in_front : Bool) → (down : Bool) → (target : Target) → Expression
    Binary : (operator : Operator) → (left : Expression) → (right : Expression) → Expression
    And : (left : Expression) → (right : Expression) → Expression
    Or : (left : Expression) → (right : Expression) → Expression
    Choice : (test : Expression) → (first : Expression) → (second : Expression) → Expression
    Assign : (target : Target) → (value : Expression) → Expression
    Update : (operator : Operator) → (target : Target) → (value : Expression) → Expression
    Comma : (parts : Expressions) → Expression

  pub data Expressions : Type 0 where
    NoExpressions : Expressions
    OneMore : (first : Expression) → (rest : Expressions) → Expressions

  -- what is written to
  pub data Target : Type 0 where
    NameTarget : (name : List ℕ) → Target
    IndexTarget : (base : Expression) → (key : Expression) → Target
    MemberTarget : (base : Expression) → (name : List ℕ) → Target

-- `x`; `x = e`
pub record Declarator : Type 0 where
  pub name : List ℕ
  pub value : Option Expression

-- what stands first in the head of a `for`
pub data First : Type 0 where
  NoFirst : First
  FirstExpression : (expression : Expression) → First
  FirstVar : (declarators : List Declarator) → First

-- what stands before the `in` of a `for`
pub data Visitor : Type 0 where
  VisitTarget : (target : Target) → Visitor
  VisitVar : (name : List ℕ) → Visitor

mutual
  pub data Statement : Type 0 where
    Block : (inner : Statements) → Statement
    Var : (declarators : List Declarator) → Statement
    Empty : Statement
    Evaluate : (expression : Expression) → Statement
    If : (test : Expression) → (body : Statement) → Statement
    IfElse : (test : Expression) → (body : Statement) → (other : Statement) → Statement
    While : (test : Expression) → (body : Statement) → Statement
    For : (first : First) → (test : Option Expression) → (update : Option Expression)
        → (body : Statement) → Statement
    ForIn : (visitor : Visitor) → (object : Expression) → (body : Statement) → Statement
    Continue : Statement
    Break : Statement
    Return : (value : Option Expression) → Statement

  pub data Statements : Type 0 where
    NoStatements : Statements
    OneMoreStatement : (first : Statement) → (rest : Statements) → Statements

-- a function: its locals are its parameters and then the names of its `var`s, each once
pub record Function : Type 0 where
  pub name : List ℕ
  pub locals : List (List ℕ)
  pub parameters : ℕ
  pub body : Statements

-- a program: the names of its `var`s that stand in no function, its functions, and its statements
pub record Program : Type 0 where
  pub variables : List (List ℕ)
  pub functions : List Function
  pub body : Statements
