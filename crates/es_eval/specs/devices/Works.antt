-- What each item of the control stack does with what it is given, in the words of the rows.
-- (A device of the proofs.)
use Rattle.std.specs.Prelude.{ℕ, Bool, true, false, if◌then◌else◌, List, [], ◌∷◌, ◌++◌, drop}
use Rattle.std.specs.Option.{option_map}
use Rattle.es_reader.specs.Programs.{ToldProgram}
use Rattle.es_values.specs.declared.values.Value.{Value}
use Rattle.es_values.specs.declared.values.Value.TheVariants.{Undefined, Null, Bool as Boolean, Number, Str}
use Rattle.es_values.specs.Values.{truth_of}
use Rattle.es_shapes.specs.declared.codes.Code.{Code}
use Rattle.es_shapes.specs.declared.shapes.FirstShape.{FirstShape}
use Rattle.es_eval.specs.declared.works.Callee.{Callee}
use Rattle.es_eval.specs.declared.works.Callee.TheVariants as callee
use Rattle.es_eval.specs.declared.works.CallWork.{CallWork}
use Rattle.es_eval.specs.declared.works.CallWork.TheVariants as call
use Rattle.es_eval.specs.declared.works.Given.{Given}
use Rattle.es_eval.specs.declared.works.Given.TheVariants as given
use Rattle.es_eval.specs.declared.works.Loop.{Loop}
use Rattle.es_eval.specs.declared.works.MemberWork.{MemberWork}
use Rattle.es_eval.specs.declared.works.MemberWork.TheVariants as member
use Rattle.es_eval.specs.declared.works.OperandWork.{OperandWork}
use Rattle.es_eval.specs.declared.works.OperandWork.TheVariants as operand
use Rattle.es_eval.specs.declared.works.Place.{Place as Placed}
use Rattle.es_eval.specs.declared.works.Place.TheVariants as placed
use Rattle.es_eval.specs.declared.works.StatementWork.{StatementWork}
use Rattle.es_eval.specs.declared.works.StatementWork.TheVariants as statement
use Rattle.es_eval.specs.declared.works.TargetWork.{TargetWork}
use Rattle.es_eval.specs.declared.works.TargetWork.TheVariants as target
use Rattle.es_eval.specs.declared.works.Use.{Use}
use Rattle.es_eval.specs.declared.works.Use.TheVariants as use_of
use Rattle.es_eval.specs.declared.works.Visit.{Visit}
use Rattle.es_eval.specs.declared.works.Work.{Work}
use Rattle.es_eval.specs.declared.works.Work.TheVariants as work
use Rattle.es_eval.specs.Actions.{Action, and_then, as_number, as_text, behind, gives}
use Rattle.es_eval.specs.Calls.{call_member, call_value, new_value, object_or}
use Rattle.es_shapes.specs.Codes.{declared_by}
use Rattle.es_shapes.specs.devices.Parts.{expression_at, parts_from, statement_at, statements_from, trees_from}
use Rattle.es_eval.specs.Members.{Place, delete_index, delete_member, read_member, read_place, write_name, write_place}
use Rattle.es_eval.specs.Members.Place.{NamePlace, MemberPlace}
use Rattle.es_eval.specs.Operations.{operates, signs}
use Rattle.es_shapes.specs.Operators.{stepped, type_text}
use Rattle.es_eval.specs.Rows.{Completion, Task, behind_body, declarators, first_row, last_value, statements, turn_body, update_row, values, visit_all, with_members}
use Rattle.es_eval.specs.Rows.Completion.{Normal, Broke, Continued, Returned}
use Rattle.es_eval.specs.Rows.Task.{Turn, Visit as VisitTurn}
use Rattle.es_shapes.specs.devices.Shapes.{first_shaped, visitor_shaped}
use Rattle.es_shapes.specs.Sources.{declarators_of}
use Rattle.es_shapes.specs.Syntax.{Expression, Statement}
use Rattle.es_eval.specs.Unbounded.{called, done, entered, run_statement}

-- ---- what is given

abbrev pub as_value : Action Value → Action Given
as_value action = λ w next. action w (λ value after. next (given.Value value) after)

abbrev pub completed : Completion → Given
completed Normal = given.Normal
completed Broke = given.Broke
completed Continued = given.Continued
completed (Returned value) = given.Returned value

abbrev pub as_completion : Action Completion → Action Given
as_completion action = λ w next. action w (λ completion after. next (completed completion) after)

-- ---- what is entered of the nodes of programs

abbrev pub evaluates : List ToldProgram → Code → Action Value
evaluates programs code = entered (declared_by programs) (expression_at programs code)

abbrev pub executes : List ToldProgram → Code → Action Completion
executes programs code = run_statement (declared_by programs) (statement_at programs code)

abbrev pub enters : List ToldProgram → Expression → Action Value
enters programs expression = entered (declared_by programs) expression

abbrev pub runs : List ToldProgram → Statement → Action Completion
runs programs statement = run_statement (declared_by programs) statement

abbrev pub turns : List ToldProgram → Task → Action Completion
turns programs task = done (declared_by programs) task

-- ---- operands

abbrev pub operand_row : List ToldProgram → OperandWork → Value → Action Value
operand_row programs (operand.Left operator right) value =
    behind (evaluates programs right) (operates operator value)
operand_row programs (operand.Right operator left) value = operates operator left value
operand_row programs (operand.And right) value =
    if truth_of value then evaluates programs right else gives value
operand_row programs (operand.Or right) value =
    if truth_of value then gives value else evaluates programs right
operand_row programs (operand.Choice first second) value =
    if truth_of value then evaluates programs first else evaluates programs second
operand_row programs (operand.Comma code next) value =
    last_value (enters programs) value (parts_from programs code next)
operand_row programs (operand.Sign sign) value = signs sign value
operand_row programs operand.Typeof value = gives (type_text value)
operand_row programs operand.Void value = gives Undefined
operand_row programs (operand.Instead other) value = gives other

-- ---- members

abbrev pub member_row : List ToldProgram → MemberWork → Value → Action Value
member_row programs (member.IndexBase key) base =
    behind (evaluates programs key) (λ key. with_members base (behind (as_text key)
    (λ key. read_member base key)))
member_row programs (member.IndexKey base) key =
    with_members base (behind (as_text key) (λ key. read_member base key))
member_row programs (member.MemberBase name) base = read_member base name
member_row programs (member.DeleteIndexBase key) base =
    behind (evaluates programs key) (λ key. delete_index base key)
member_row programs (member.DeleteIndexKey base) key = delete_index base key
member_row programs (member.DeleteMember name) base = delete_member base name
member_row programs member.DeleteOther value = gives (Boolean false)

-- ---- calls

abbrev pub calls_callee : List ToldProgram → Callee → List Value → Action Value
calls_callee programs (callee.Value function) arguments =
    call_value (declared_by programs) (called (declared_by programs)) function arguments
calls_callee programs (callee.Constructor function) arguments =
    new_value (declared_by programs) (called (declared_by programs)) function arguments
calls_callee programs (callee.Member base key) arguments =
    call_member (declared_by programs) (called (declared_by programs)) base key arguments

-- the arguments from a place on, behind those that are there, and then the call
abbrev pub calls_with : List ToldProgram → Callee → List Value → Code → ℕ → Action Value
calls_with programs callee there code next =
    behind (values (enters programs) (parts_from programs code next))
    (λ others. calls_callee programs callee (there ++ others))

abbrev pub call_work_row : List ToldProgram → CallWork → Value → Action Value
call_work_row programs (call.IndexBase key code) base =
    behind (evaluates programs key) (λ key. with_members base (behind (as_text key)
    (λ key. calls_with programs (callee.Member base key) [] code 1)))
call_work_row programs (call.IndexKey base code) key =
    with_members base (behind (as_text key)
    (λ key. calls_with programs (callee.Member base key) [] code 1))
call_work_row programs (call.MemberBase name code) base =
    with_members base (calls_with programs (callee.Member base name) [] code 1)
call_work_row programs (call.Callee code) value =
    calls_with programs (callee.Value value) [] code 1
call_work_row programs (call.Constructor code) value =
    calls_with programs (callee.Constructor value) [] code 1
call_work_row programs (call.Argument open_call) value =
    calls_with programs open_call.callee (open_call.given.items ++ value ∷ []) open_call.call
    open_call.next
call_work_row programs (call.Constructed new) value = gives (object_or new value)

-- ---- targets

abbrev pub place_of : Placed → Place
place_of (placed.Name name code) = NamePlace name
place_of (placed.Member base key) = MemberPlace base key

abbrev pub visit_task : List ToldProgram → Visit → Task
visit_task programs visit =
    VisitTurn (visitor_shaped programs visit.visitor) visit.object
    (drop visit.next visit.names.items) (statement_at programs visit.body)

abbrev pub visit_body : List ToldProgram → Visit → Action Completion
visit_body programs visit =
    behind (executes programs visit.body) (behind_body (turns programs (visit_task programs visit)))

-- `++` and `--`, once the value before is there
abbrev pub steps_from : Bool → Bool → Place → Value → Action Value
steps_from in_front down place value =
    behind (as_number value) (λ number.
    and_then (write_place place (Number (stepped down number)))
    (gives (Number (if in_front then stepped down number else number))))

abbrev pub use_row : List ToldProgram → Use → Place → Action Given
use_row programs (use_of.Assign value) place =
    as_value (behind (evaluates programs value) (write_place place))
use_row programs (use_of.Update operator right) place =
    as_value (behind (read_place place) (λ before. behind (evaluates programs right) (λ value.
    behind (operates operator before value) (write_place place))))
use_row programs (use_of.Step in_front down) place =
    as_value (behind (read_place place) (steps_from in_front down place))
use_row programs (use_of.Visit name visit) place =
    as_completion (and_then (write_place place (Str name))
    (visit_body programs visit))

abbrev pub target_row : List ToldProgram → TargetWork → Value → Action Given
target_row programs (target.IndexBase key purpose) base =
    behind (evaluates programs key) (λ key. behind (as_text key)
    (λ key. use_row programs purpose (MemberPlace base key)))
target_row programs (target.IndexKey base purpose) key =
    behind (as_text key) (λ key. use_row programs purpose (MemberPlace base key))
target_row programs (target.MemberBase name purpose) base =
    use_row programs purpose (MemberPlace base name)
target_row programs (target.Write place) value = as_value (write_place (place_of place) value)
target_row programs (target.UpdateRead operator place right) before =
    as_value (behind (evaluates programs right) (λ value.
    behind (operates operator before value) (write_place (place_of place))))
target_row programs (target.UpdateRight operator place before) value =
    as_value (behind (operates operator before value) (write_place (place_of place)))
target_row programs (target.StepRead in_front down place) value =
    as_value (steps_from in_front down (place_of place) value)
target_row programs (target.Visited visit) value = as_completion (visit_body programs visit)

-- ---- statements

abbrev pub loop_task : List ToldProgram → Loop → Task
loop_task programs loop =
    Turn (option_map (expression_at programs) loop.test)
    (option_map (expression_at programs) loop.update) (statement_at programs loop.body)

abbrev pub loop_body : List ToldProgram → Loop → Action Completion
loop_body programs loop =
    turn_body (enters programs) (runs programs) (turns programs)
    (option_map (expression_at programs) loop.test)
    (option_map (expression_at programs) loop.update) (statement_at programs loop.body)

abbrev pub loop_again : List ToldProgram → Loop → Action Completion
loop_again programs loop =
    and_then (update_row (enters programs) (option_map (expression_at programs) loop.update))
    (turns programs (loop_task programs loop))

-- the first part of a `for`, and then its turns
abbrev pub starts_loop : List ToldProgram → FirstShape → Loop → Action Completion
starts_loop programs first loop =
    and_then (first_row (enters programs) (first_shaped programs first))
    (turns programs (loop_task programs loop))

abbrev pub declares : List ToldProgram → Code → ℕ → Action Completion
declares programs code next =
    declarators (enters programs) (declarators_of (trees_from programs code next))

abbrev pub statement_work_row : List ToldProgram → StatementWork → Given → Action Given
statement_work_row programs (statement.Statements listing next) given.Normal =
    as_completion (statements (runs programs) (statements_from programs listing next))
statement_work_row programs statement.Discard (given.Value value) = gives given.Normal
statement_work_row programs (statement.Declared name code next) (given.Value value) =
    as_completion (and_then (write_name name value) (declares programs code next))
statement_work_row programs (statement.If body) (given.Value value) =
    as_completion (if truth_of value then executes programs body else gives Normal)
statement_work_row programs (statement.IfElse body other) (given.Value value) =
    as_completion
    (if truth_of value then executes programs body else executes programs other)
statement_work_row programs (statement.Test loop) (given.Value value) =
    as_completion (if truth_of value then loop_body programs loop else gives Normal)
statement_work_row programs (statement.Body loop) given.Normal =
    as_completion (loop_again programs loop)
statement_work_row programs (statement.Body loop) given.Continued =
    as_completion (loop_again programs loop)
statement_work_row programs (statement.Body loop) given.Broke = gives given.Normal
statement_work_row programs (statement.NextTurn loop) (given.Value value) =
    as_completion (turns programs (loop_task programs loop))
statement_work_row programs (statement.NextTurn loop) given.Normal =
    as_completion (turns programs (loop_task programs loop))
statement_work_row programs (statement.Object visitor body) (given.Value value) =
    as_completion (visit_all (turns programs) (visitor_shaped programs visitor)
    (statement_at programs body) value)
statement_work_row programs (statement.Visiting visit) given.Normal =
    as_completion (turns programs (visit_task programs visit))
statement_work_row programs (statement.Visiting visit) given.Continued =
    as_completion (turns programs (visit_task programs visit))
statement_work_row programs (statement.Visiting visit) given.Broke = gives given.Normal
statement_work_row programs statement.Return (given.Value value) = gives (given.Returned value)
statement_work_row programs item other = gives other

-- ---- items

-- what is no value is handed on
abbrev pub with_value : (Value → Action Given) → Given → Action Given
with_value f (given.Value value) = f value
with_value f other = gives other

abbrev pub does : List ToldProgram → Work → Given → Action Given
does programs (work.Operand item) handed =
    with_value (λ value. as_value (operand_row programs item value)) handed
does programs (work.Member item) handed =
    with_value (λ value. as_value (member_row programs item value)) handed
does programs (work.Call item) handed =
    with_value (λ value. as_value (call_work_row programs item value)) handed
does programs (work.Target item) handed = with_value (target_row programs item) handed
does programs (work.Statement item) handed = statement_work_row programs item handed

-- ---- what is asked of a base

abbrev pub is_without_members : Value → Bool
is_without_members Undefined = true
is_without_members Null = true
is_without_members other = false
