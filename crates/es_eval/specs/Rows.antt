-- Evaluation, row by row: what each form enters, in which order, what is charged, and what stops (ECMA-262
-- second edition, 11 to 13). That each statement and each node of an expression takes one step where it
-- is entered, and before anything else of it, is said in `Evaluation`.
use Rattle.std.specs.Prelude.{ℕ, Bool, false, if◌then◌else◌, List, [], ◌∷◌, length, Option, Some, None}
use Rattle.std.specs.Option.{option_map_or}
use Rattle.es_values.specs.declared.numbers.Num.TheVariants.{Whole}
use Rattle.es_values.specs.declared.values.Value.{Value}
use Rattle.es_values.specs.declared.values.Value.TheVariants.{Undefined, Null, Bool as Boolean, Number, Str, Object}
use Rattle.es_values.specs.Charges.{begun_sixteens}
use Rattle.es_values.specs.Heaps.{has_property, names_of, object_at}
use Rattle.es_values.specs.Values.{truth_of}
use Rattle.es_eval.specs.Actions.{Action, and_then, as_number, as_text, behind, charged, gives, step, stops}
use Rattle.es_eval.specs.declared.outcomes.StopCause.TheVariants.{NotObject}
use Rattle.es_eval.specs.Calls.{Body, call_member, call_value, new_value}
use Rattle.es_eval.specs.Members.{Place, delete_index, delete_member, named, read_member, read_name, read_place, write_name, write_place}
use Rattle.es_eval.specs.Members.Place.{NamePlace, MemberPlace}
use Rattle.es_eval.specs.Operations.{operates, signs}
use Rattle.es_shapes.specs.Operators.{stepped, type_text}
use Rattle.es_shapes.specs.Syntax.{Expression, Expressions, Target, Declarator, First, Visitor, Statement, Statements, Function as Declared}
use Rattle.es_shapes.specs.Syntax.Expression.{This, Null as NullWord, Truth, Number as Numeral, Text, Name, Index, Member, Call, New, Signed, Typeof, Void, Delete, Stepped, Binary, And, Or, Choice, Assign, Update, Comma}
use Rattle.es_shapes.specs.Syntax.Expressions.{NoExpressions, OneMore}
use Rattle.es_shapes.specs.Syntax.Target.{NameTarget, IndexTarget, MemberTarget}
use Rattle.es_shapes.specs.Syntax.First.{NoFirst, FirstExpression, FirstVar}
use Rattle.es_shapes.specs.Syntax.Visitor.{VisitTarget, VisitVar}
use Rattle.es_shapes.specs.Syntax.Statement.{Block, Var, Empty, Evaluate, If, IfElse, While, For, ForIn, Continue, Break, Return}
use Rattle.es_shapes.specs.Syntax.Statements.{NoStatements, OneMoreStatement}

-- how an expression is evaluated, with its step
abbrev pub Evaluation : Type 0
Evaluation = Expression → Action Value

-- ---- operands, targets and arguments

-- a base that is Undefined or Null has no member
abbrev pub with_members : Value → Action Value → Action Value
with_members Undefined more = stops NotObject
with_members Null more = stops NotObject
with_members other more = more

-- what a target names; a key becomes a text as soon as it is there. The target's own step is taken
-- where it is entered.
abbrev pub place_row : Evaluation → Target → Action Place
place_row ev (NameTarget name) = gives (NamePlace name)
place_row ev (IndexTarget base key) =
    behind (ev base) (λ base. behind (ev key) (λ key. behind (as_text key) (λ key.
    gives (MemberPlace base key))))
place_row ev (MemberTarget base name) = behind (ev base) (λ base. gives (MemberPlace base name))

-- the values of expressions, from left to right
abbrev pub values : Evaluation → Expressions → Action (List Value)
values ev NoExpressions = gives []
values ev (OneMore first rest) =
    behind (ev first) (λ value. behind (values ev rest) (λ others. gives (value ∷ others)))

-- those of a list with commas, whose value is the last one's
abbrev pub last_value : Evaluation → Value → Expressions → Action Value
last_value ev value NoExpressions = gives value
last_value ev value (OneMore first rest) = behind (ev first) (λ value. last_value ev value rest)

-- A call: first the callee. Of a member the base and the key, where a base without members stops; then
-- its key becomes a text, the arguments follow, and then the property is looked up. The member's own
-- step is taken where it is entered.
abbrev pub call_row : List Declared → Body → Evaluation → Expression → Expressions
    → Action Value
call_row functions body ev (Index base key) arguments =
    step (behind (ev base) (λ base. behind (ev key) (λ key.
    with_members base (behind (as_text key) (λ key. behind (values ev arguments) (λ given.
    call_member functions body base key given))))))
call_row functions body ev (Member base name) arguments =
    step (behind (ev base) (λ base. with_members base (behind (values ev arguments) (λ given.
    call_member functions body base name given))))
call_row functions body ev callee arguments =
    behind (ev callee) (λ callee. behind (values ev arguments) (λ given.
    call_value functions body callee given))

-- `typeof` of a name that nothing has
abbrev pub typeof_name : List ℕ → Action Value
typeof_name name = λ w next.
    next (option_map_or type_text (named w name) (type_text Undefined)) w

-- `++` and `--`: to number, one more or less, written; the value is the one before or the one behind
abbrev pub step_row : Bool → Bool → Place → Action Value
step_row in_front down place =
    behind (read_place place) (λ value. behind (as_number value) (λ number.
    and_then (write_place place (Number (stepped down number)))
    (gives (Number (if in_front then stepped down number else number)))))

-- a target with its own step
abbrev pub entered_place : Evaluation → Target → Action Place
entered_place ev target = step (place_row ev target)

-- `delete`: of a member whether it was there; of anything else false. The operand takes its steps also
-- where it isn't read.
abbrev pub delete_row : Evaluation → Expression → Action Value
delete_row ev (Name name) = step (gives (Boolean false))
delete_row ev (Index base key) =
    step (behind (ev base) (λ base. behind (ev key) (λ key. delete_index base key)))
delete_row ev (Member base name) = step (behind (ev base) (λ base. delete_member base name))
delete_row ev other = behind (ev other) (λ value. gives (Boolean false))

-- ---- expressions

abbrev pub expression_row : List Declared → Body → Evaluation → Expression → Action Value
expression_row functions body ev This = λ w next. next w.this w
expression_row functions body ev NullWord = gives Null
expression_row functions body ev (Truth truth) = gives (Boolean truth)
expression_row functions body ev (Numeral number) = gives (Number (Whole number))
expression_row functions body ev (Text text) = gives (Str text)
expression_row functions body ev (Name name) = read_name name
expression_row functions body ev (Index base key) =
    behind (ev base) (λ base. behind (ev key) (λ key. with_members base (behind (as_text key)
    (λ key. read_member base key))))
expression_row functions body ev (Member base name) =
    behind (ev base) (λ base. read_member base name)
expression_row functions body ev (Call callee arguments) =
    call_row functions body ev callee arguments
expression_row functions body ev (New callee arguments) =
    behind (ev callee) (λ callee. behind (values ev arguments) (λ given.
    new_value functions body callee given))
expression_row functions body ev (Signed sign operand) = behind (ev operand) (signs sign)
expression_row functions body ev (Typeof (Name name)) = step (typeof_name name)
expression_row functions body ev (Typeof operand) =
    behind (ev operand) (λ value. gives (type_text value))
expression_row functions body ev (Void operand) = behind (ev operand) (λ value. gives Undefined)
expression_row functions body ev (Delete operand) = delete_row ev operand
expression_row functions body ev (Stepped in_front down target) =
    behind (entered_place ev target) (step_row in_front down)
expression_row functions body ev (Binary operator left right) =
    behind (ev left) (λ left. behind (ev right) (λ right. operates operator left right))
expression_row functions body ev (And left right) =
    behind (ev left) (λ value. if truth_of value then ev right else gives value)
expression_row functions body ev (Or left right) =
    behind (ev left) (λ value. if truth_of value then gives value else ev right)
expression_row functions body ev (Choice test first second) =
    behind (ev test) (λ value. if truth_of value then ev first else ev second)
expression_row functions body ev (Assign target value) =
    behind (entered_place ev target) (λ place. behind (ev value) (write_place place))
expression_row functions body ev (Update operator target value) =
    behind (entered_place ev target) (λ place. behind (read_place place) (λ before.
    behind (ev value) (λ value. behind (operates operator before value) (write_place place))))
expression_row functions body ev (Comma parts) = last_value ev Undefined parts

-- ---- statements

-- how a statement is completed
pub data Completion : Type 0 where
  Normal : Completion
  Broke : Completion
  Continued : Completion
  Returned : (value : Value) → Completion

-- what there is to be done: a statement; a turn of a `while` or `for`, which has a test or none and a part
-- behind each turn or none; the turns of a `for .. in` over an object's names that are left
pub data Task : Type 0 where
  Do : (statement : Statement) → Task
  Turn : (test : Option Expression) → (update : Option Expression) → (body : Statement) → Task
  Visit : (visitor : Visitor) → (object : ℕ) → (names : List (List ℕ)) → (body : Statement) → Task

-- how a statement is run, with its step; and how the turns that are left are made
abbrev pub Execution : Type 0
Execution = Statement → Action Completion

abbrev pub Turns : Type 0
Turns = Task → Action Completion

abbrev pub gives_normal : Value → Action Completion
gives_normal value = gives Normal

-- what comes behind a statement that is completed normally
abbrev pub where_normal : Action Completion → Completion → Action Completion
where_normal more Normal = more
where_normal more other = gives other

-- what comes behind a loop's body: a `break` ends the loop, and a `return` what is round it
abbrev pub behind_body : Action Completion → Completion → Action Completion
behind_body again Normal = again
behind_body again Continued = again
behind_body again Broke = gives Normal
behind_body again (Returned value) = gives (Returned value)

abbrev pub statements : Execution → Statements → Action Completion
statements ex NoStatements = gives Normal
statements ex (OneMoreStatement first rest) =
    behind (ex first) (where_normal (statements ex rest))

-- a declarator with a value writes it; it takes no step of its own
abbrev pub declarator_row : Evaluation → Declarator → Action Completion
declarator_row ev declarator =
    option_map_or
    (λ value. behind (ev value) (λ value. behind (write_name declarator.name value) gives_normal))
    declarator.value (gives Normal)

abbrev pub declarators : Evaluation → List Declarator → Action Completion
declarators ev [] = gives Normal
declarators ev (first ∷ rest) = and_then (declarator_row ev first) (declarators ev rest)

-- a `var` in the head of a `for` takes a step as the statement does
abbrev pub first_row : Evaluation → First → Action Completion
first_row ev NoFirst = gives Normal
first_row ev (FirstExpression expression) = behind (ev expression) gives_normal
first_row ev (FirstVar given) = step (declarators ev given)

abbrev pub update_row : Evaluation → Option Expression → Action Completion
update_row ev update =
    option_map_or (λ update. behind (ev update) gives_normal) update (gives Normal)

-- a turn: the test, where there is one; the body; the part behind it; and the next turn
abbrev pub turn_body : Evaluation → Execution → Turns → Option Expression → Option Expression
    → Statement → Action Completion
turn_body ev ex turns test update body =
    behind (ex body) (behind_body (and_then (update_row ev update) (turns (Turn test update body))))

abbrev pub turn_row : Evaluation → Execution → Turns → Option Expression → Option Expression
    → Statement → Action Completion
turn_row ev ex turns None update body = turn_body ev ex turns None update body
turn_row ev ex turns (Some test) update body =
    behind (ev test) (λ value.
    if truth_of value then turn_body ev ex turns (Some test) update body else gives Normal)

-- the place that a `for .. in` writes to, with its steps
abbrev pub visited_place : Evaluation → Visitor → Action Place
visited_place ev (VisitTarget target) = entered_place ev target
visited_place ev (VisitVar name) = step (gives (NamePlace name))

-- the names that are left: one that was removed meanwhile is left out
abbrev pub visit_row : Evaluation → Execution → Turns → Visitor → ℕ → List (List ℕ) → Statement
    → Action Completion
visit_row ev ex turns visitor object [] body = gives Normal
visit_row ev ex turns visitor object (name ∷ names) body = λ w next.
    if has_property (object_at w.heap object) name
    then behind (visited_place ev visitor) (λ place. and_then (write_place place (Str name))
    (behind (ex body) (behind_body (turns (Visit visitor object names body))))) w next
    else visit_row ev ex turns visitor object names body w next

-- the names of an object at the start, in order of insertion, charged by their number; of no object there
-- is none
abbrev pub visit_all : Turns → Visitor → Statement → Value → Action Completion
visit_all turns visitor body (Object object) =
    charged (λ heap. begun_sixteens (length (names_of (object_at heap object))))
    (λ w next. turns (Visit visitor object (names_of (object_at w.heap object)) body) w next)
visit_all turns visitor body other = gives Normal

abbrev pub return_row : Evaluation → Option Expression → Action Completion
return_row ev None = gives (Returned Undefined)
return_row ev (Some value) = behind (ev value) (λ value. gives (Returned value))

abbrev pub statement_row : Evaluation → Execution → Turns → Statement → Action Completion
statement_row ev ex turns (Block inner) = statements ex inner
statement_row ev ex turns (Var given) = declarators ev given
statement_row ev ex turns Empty = gives Normal
statement_row ev ex turns (Evaluate expression) = behind (ev expression) gives_normal
statement_row ev ex turns (If test body) =
    behind (ev test) (λ value. if truth_of value then ex body else gives Normal)
statement_row ev ex turns (IfElse test body other) =
    behind (ev test) (λ value. if truth_of value then ex body else ex other)
statement_row ev ex turns (While test body) = turns (Turn (Some test) None body)
statement_row ev ex turns (For first test update body) =
    and_then (first_row ev first) (turns (Turn test update body))
statement_row ev ex turns (ForIn visitor object body) =
    behind (ev object) (visit_all turns visitor body)
statement_row ev ex turns Continue = gives Continued
statement_row ev ex turns Break = gives Broke
statement_row ev ex turns (Return value) = return_row ev value

abbrev pub task_row : Evaluation → Execution → Turns → Task → Action Completion
task_row ev ex turns (Do statement) = statement_row ev ex turns statement
task_row ev ex turns (Turn test update body) = turn_row ev ex turns test update body
task_row ev ex turns (Visit visitor object names body) =
    visit_row ev ex turns visitor object names body
