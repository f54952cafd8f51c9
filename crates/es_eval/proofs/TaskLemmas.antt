-- The rows of statements and loops, by alike parts, are alike.
use Rattle.std.proofs.Common.{ℕ, suc, ◌+◌, ◌*◌, ◌<◌, ◌≤◌, List, [], ◌∷◌, arith}
use Rattle.std.specs.Prelude.{Option, Some, None}
use Rattle.es_values.specs.declared.values.Value.{Value}
use Rattle.es_values.specs.declared.values.Value.TheVariants.{Undefined, Str, Object}
use Rattle.es_values.specs.Heaps.{has_property, names_of, object_at}
use Rattle.es_values.specs.Values.{truth_of}
use Rattle.es_eval.specs.Actions.{Action, and_then, behind}
use Rattle.es_eval.specs.Members.{write_place}
use Rattle.es_eval.specs.Members.Place.{NamePlace}
use Rattle.es_eval.specs.Rows.{Completion, Evaluation, Execution, Task, Turns, behind_body, declarator_row, declarators, first_row, return_row, statement_row, statements, task_row, turn_body, turn_row, update_row, visit_all, visit_row, visited_place, where_normal}
use Rattle.es_eval.specs.Rows.Completion.{Normal, Broke, Continued, Returned}
use Rattle.es_eval.specs.Rows.Task.{Do, Turn, Visit}
use Rattle.es_shapes.specs.Syntax.{Expression, Declarator, First, Visitor, Statement, Statements}
use Rattle.es_shapes.specs.Syntax.First.{NoFirst, FirstExpression, FirstVar}
use Rattle.es_shapes.specs.Syntax.Visitor.{VisitTarget, VisitVar}
use Rattle.es_shapes.specs.Syntax.Statement.{Block, Var, Empty, Evaluate, If, IfElse, While, For, ForIn, Continue, Break, Return}
use Rattle.es_shapes.specs.Syntax.Statements.{NoStatements, OneMoreStatement}
use Rattle.es_eval.proofs.AlikeLemmas.{Alike, Sooner, alike_less, and_then-alike, behind-alike, charged-alike, gives-alike, if-alike, if-same, option-alike, sooner-alike, sooner-behind, step-alike, if-further}
use Rattle.es_eval.proofs.MemberLemmas.{write_name-alike, write_place-alike}
use Rattle.es_eval.proofs.RowLemmas.{entered_place-alike}

-- ---- completions

where_normal-alike : {left : ℕ} {more others : Action Completion} → Alike left more others
    → (completion : Completion)
    → Alike left (where_normal more completion) (where_normal others completion)
where_normal-alike alike Normal = alike
where_normal-alike alike Broke = gives-alike Broke
where_normal-alike alike Continued = gives-alike Continued
where_normal-alike alike (Returned value) = gives-alike (Returned value)

behind_body-alike : {left : ℕ} {more others : Action Completion} → Alike left more others
    → (completion : Completion)
    → Alike left (behind_body more completion) (behind_body others completion)
behind_body-alike alike Normal = alike
behind_body-alike alike Continued = alike
behind_body-alike alike Broke = gives-alike Normal
behind_body-alike alike (Returned value) = gives-alike (Returned value)

pub statements-alike : {left : ℕ} (ex by : Execution) → ((s : Statement) → Alike left (ex s) (by s))
    → (inner : Statements) → Alike left (statements ex inner) (statements by inner)
statements-alike ex by alike NoStatements = gives-alike Normal
statements-alike ex by alike (OneMoreStatement first rest) =
    behind-alike (alike first) (where_normal-alike (statements-alike ex by alike rest))

-- ---- declarators, the parts of a `for`, and `return`

module _ (left : ℕ) (ev by : Evaluation) (alike : (e : Expression) → Alike left (ev e) (by e)) where
  declarator_row-alike : (declarator : Declarator)
      → Alike left (declarator_row ev declarator) (declarator_row by declarator)
  declarator_row-alike declarator =
      option-alike declarator.value (λ value. behind-alike (alike value) (λ value.
      behind-alike (write_name-alike declarator.name value) (λ value. gives-alike Normal)))
      (gives-alike Normal)

  declarators-alike : (given : List Declarator)
      → Alike left (declarators ev given) (declarators by given)
  declarators-alike [] = gives-alike Normal
  declarators-alike (first ∷ rest) =
      and_then-alike (declarator_row-alike first) (declarators-alike rest)

  first_row-alike : (first : First) → Alike left (first_row ev first) (first_row by first)
  first_row-alike NoFirst = gives-alike Normal
  first_row-alike (FirstExpression expression) =
      behind-alike (alike expression) (λ value. gives-alike Normal)
  first_row-alike (FirstVar given) = step-alike (declarators-alike given)

  update_row-alike : (update : Option Expression)
      → Alike left (update_row ev update) (update_row by update)
  update_row-alike update =
      option-alike update (λ update. behind-alike (alike update) (λ value. gives-alike Normal))
      (gives-alike Normal)

  return_row-alike : (value : Option Expression)
      → Alike left (return_row ev value) (return_row by value)
  return_row-alike None = gives-alike (Returned Undefined)
  return_row-alike (Some value) =
      behind-alike (alike value) (λ value. gives-alike (Returned value))

  visited_place-alike : (visitor : Visitor)
      → Alike left (visited_place ev visitor) (visited_place by visitor)
  visited_place-alike (VisitTarget target) = entered_place-alike left ev by alike target
  visited_place-alike (VisitVar name) = step-alike (gives-alike (NamePlace name))

-- ---- statements and turns

-- the bound that a task needs with so many steps left: a statement one more than the turns of a
-- loop
abbrev pub need : ℕ → Task → ℕ
need left (Do statement) = 2 * left + 2
need left (Turn test update body) = 2 * left + 1
need left (Visit visitor object names body) = 2 * left + 1

-- those turns are alike that this bound is enough for
pub record TurnsAlike (bound : ℕ) (turns again : Turns) : Type 0 where
  pub within : (left : ℕ) (task : Task) → need left task ≤ bound
      → Alike left (turns task) (again task)

module _ (bound left : ℕ) (ev by : Evaluation) (ex run : Execution) (turns again : Turns)
    (values : (e : Expression) → Alike left (ev e) (by e))
    (sooner : (s : Statement) → Sooner left (ex s) (run s))
    (later : TurnsAlike bound turns again) where
  values_less : (less : ℕ) → less < left → (e : Expression) → Alike less (ev e) (by e)
  values_less less h e = alike_less (omega arith) (values e)

  turn_body-alike : (test update : Option Expression) (body : Statement) → 2 * left ≤ bound
      → Alike left (turn_body ev ex turns test update body)
      (turn_body by run again test update body)
  turn_body-alike test update body room =
      sooner-behind (sooner body) (λ less h. behind_body-alike (and_then-alike
      (update_row-alike less ev by (values_less less h) update)
      (later.within less (Turn test update body) (omega arith))))

  turn_row-alike : (test update : Option Expression) (body : Statement) → 2 * left ≤ bound
      → Alike left (turn_row ev ex turns test update body) (turn_row by run again test update body)
  turn_row-alike None update body room = turn_body-alike None update body room
  turn_row-alike (Some test) update body room =
      behind-alike (values test) (λ value. if-alike (truth_of value)
      (turn_body-alike (Some test) update body room) (gives-alike Normal))

  visit-alike : (visitor : Visitor) (object : ℕ) (name : List ℕ) (names : List (List ℕ))
      (body : Statement) → 2 * left ≤ bound
      → Alike left
      (behind (visited_place ev visitor) (λ place. and_then (write_place place (Str name))
      (behind (ex body) (behind_body (turns (Visit visitor object names body))))))
      (behind (visited_place by visitor) (λ place. and_then (write_place place (Str name))
      (behind (run body) (behind_body (again (Visit visitor object names body))))))
  visit-alike visitor object name names body room =
      behind-alike (visited_place-alike left ev by values visitor) (λ place.
      and_then-alike (write_place-alike place (Str name)) (sooner-behind (sooner body) (λ less l.
      behind_body-alike (later.within less (Visit visitor object names body) (omega arith)))))

  visit_row-alike : (visitor : Visitor) (object : ℕ) (names : List (List ℕ)) (body : Statement)
      → 2 * left ≤ bound → Alike left (visit_row ev ex turns visitor object names body)
      (visit_row by run again visitor object names body)
  visit_row-alike visitor object [] body room = gives-alike Normal
  visit_row-alike visitor object (name ∷ names) body room = record {
    same = λ counted w l next other onward.
        if-same (has_property (object_at w.heap object) name)
        ((visit-alike visitor object name names body room).same counted w l next other onward)
        ((visit_row-alike visitor object names body room).same counted w l next other onward);
    further = λ more w l next other on.
        if-further more (has_property (object_at w.heap object) name) _ _ _ _
        ((visit-alike visitor object name names body room).further more w l next other on)
        ((visit_row-alike visitor object names body room).further more w l next other on);
  }

  visit_all-alike : (visitor : Visitor) (body : Statement) (value : Value) → 2 * left < bound
      → Alike left (visit_all turns visitor body value) (visit_all again visitor body value)
  visit_all-alike visitor body (Object object) room = charged-alike _ (record {
    same = λ counted w l next other onward.
        (later.within left (Visit visitor object (names_of (object_at w.heap object)) body)
        (omega arith)).same counted w l next other onward;
    further = λ more w l next other on.
        (later.within left (Visit visitor object (names_of (object_at w.heap object)) body)
        (omega arith)).further more w l next other on;
  })
  visit_all-alike visitor body _ room = gives-alike Normal

  statement_row-alike : (statement : Statement) → 2 * left < bound
      → Alike left (statement_row ev ex turns statement) (statement_row by run again statement)
  statement_row-alike (Block inner) room = statements-alike ex run (λ s. sooner-alike (sooner s))
      inner
  statement_row-alike (Var given) room = declarators-alike left ev by values given
  statement_row-alike Empty room = gives-alike Normal
  statement_row-alike (Evaluate expression) room =
      behind-alike (values expression) (λ value. gives-alike Normal)
  statement_row-alike (If test body) room =
      behind-alike (values test) (λ value.
      if-alike (truth_of value) (sooner-alike (sooner body)) (gives-alike Normal))
  statement_row-alike (IfElse test body other) room =
      behind-alike (values test) (λ value.
      if-alike (truth_of value) (sooner-alike (sooner body)) (sooner-alike (sooner other)))
  statement_row-alike (While test body) room =
      later.within left (Turn (Some test) None body) (omega arith)
  statement_row-alike (For first test update body) room =
      and_then-alike (first_row-alike left ev by values first)
      (later.within left (Turn test update body) (omega arith))
  statement_row-alike (ForIn visitor object body) room =
      behind-alike (values object) (λ value. visit_all-alike visitor body value room)
  statement_row-alike Continue room = gives-alike Continued
  statement_row-alike Break room = gives-alike Broke
  statement_row-alike (Return value) room = return_row-alike left ev by values value

  pub task_row-alike : (task : Task) → need left task ≤ suc bound
      → Alike left (task_row ev ex turns task) (task_row by run again task)
  task_row-alike (Do statement) room = statement_row-alike statement (omega arith)
  task_row-alike (Turn test update body) room = turn_row-alike test update body (omega arith)
  task_row-alike (Visit visitor object names body) room =
      visit_row-alike visitor object names body (omega arith)
