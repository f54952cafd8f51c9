-- The rows of statements and loops keep that all values are known, and hand over only such ones,
-- where their parts do.
use Rattle.std.proofs.Common.{ℕ, List, [], ◌∷◌, refl, arith}
use Rattle.std.specs.Prelude.{Option, Some, None}
use Rattle.es_values.specs.declared.values.Value.{Value}
use Rattle.es_values.specs.declared.values.Value.TheVariants.{Undefined, Str, Object}
use Rattle.es_values.specs.Heaps.{has_property, names_of, object_at}
use Rattle.es_values.specs.Values.{truth_of}
use Rattle.es_eval.specs.Actions.{Action, and_then, behind, gives}
use Rattle.es_eval.specs.Members.{write_place}
use Rattle.es_eval.specs.Members.Place.{NamePlace}
use Rattle.es_eval.specs.Rows.{Completion, Evaluation, Execution, Task, Turns, behind_body, declarator_row, declarators, first_row, return_row, statement_row, statements, task_row, turn_body, turn_row, update_row, visit_all, visit_row, visited_place, where_normal}
use Rattle.es_eval.specs.Rows.Completion.{Normal, Broke, Continued, Returned}
use Rattle.es_eval.specs.Rows.Task.{Do, Turn, Visit}
use Rattle.es_shapes.specs.Syntax.{Expression, Declarator, First, Visitor, Statement, Statements}
use Rattle.es_shapes.specs.Syntax.First.{NoFirst, FirstExpression, FirstVar}
use Rattle.es_shapes.specs.Syntax.Visitor.{VisitTarget, VisitVar}
use Rattle.es_shapes.specs.Syntax.Statement.{Block, Var, Empty, Evaluate, If, IfElse, While, For, ForIn, Continue, Break, Return}
use Rattle.es_shapes.specs.Syntax.Statements.{NoStatements, OneMoreStatement}
use Rattle.script_laws.proofs.StateLemmas.{Keeps, Known, Setting, and_then-keeps, behind-keeps, charged-keeps, gives-keeps, if-stays, if-keeps, keeps_more, known_more, option-keeps, simple-known, step-keeps}
use Rattle.script_laws.proofs.MemberLemmas.{PlaceKnown, write_name-keeps, write_place-keeps}
use Rattle.script_laws.proofs.ExpressionLemmas.{entered_place-keeps, value-at}

-- ---- completions

-- what is returned is known
abbrev pub CompletionKnown : Setting → ℕ → Completion → Type 0
CompletionKnown s count Normal = Unit {0}
CompletionKnown s count Broke = Unit {0}
CompletionKnown s count Continued = Unit {0}
CompletionKnown s count (Returned value) = Known s count value

-- how a statement or a task is completed, from any world
abbrev pub Completes : Setting → Action Completion → Type 0
Completes s action = Keeps s 0 (CompletionKnown s) action

module _ (s : Setting) where
  normal-keeps : {count : ℕ} → Keeps s count (CompletionKnown s) (gives Normal)
  normal-keeps = gives-keeps s Normal (λ more h. tt)

  returned-keeps : {count : ℕ} (value : Value) → Known s count value
      → Keeps s count (CompletionKnown s) (gives (Returned value))
  returned-keeps value known = gives-keeps s (Returned value) (λ more h. known_more s value h known)

  where_normal-keeps : {count : ℕ} {more : Action Completion}
      → Keeps s count (CompletionKnown s) more → (completion : Completion)
      → CompletionKnown s count completion
      → Keeps s count (CompletionKnown s) (where_normal more completion)
  where_normal-keeps keeps Normal known = keeps
  where_normal-keeps keeps Broke known = gives-keeps s Broke (λ more h. tt)
  where_normal-keeps keeps Continued known = gives-keeps s Continued (λ more h. tt)
  where_normal-keeps keeps (Returned value) known = returned-keeps value known

  behind_body-keeps : {count : ℕ} {more : Action Completion}
      → Keeps s count (CompletionKnown s) more → (completion : Completion)
      → CompletionKnown s count completion
      → Keeps s count (CompletionKnown s) (behind_body more completion)
  behind_body-keeps keeps Normal known = keeps
  behind_body-keeps keeps Continued known = keeps
  behind_body-keeps keeps Broke known = normal-keeps
  behind_body-keeps keeps (Returned value) known = returned-keeps value known

  pub statements-keep : {count : ℕ} (ex : Execution)
      → ((statement : Statement) → Completes s (ex statement))
      → (inner : Statements) → Keeps s count (CompletionKnown s) (statements ex inner)
  statements-keep ex exs NoStatements = normal-keeps
  statements-keep ex exs (OneMoreStatement first rest) =
      behind-keeps s (keeps_more s (omega arith) (exs first)) (λ m h completion known.
      where_normal-keeps (statements-keep ex exs rest) completion known)

-- ---- declarators, the parts of a `for`, and `return`

module _ (s : Setting) (ev : Evaluation) (evs : (e : Expression) → Keeps s 0 (Known s) (ev e)) where
  declarator-keeps : {count : ℕ} (declarator : Declarator)
      → Keeps s count (CompletionKnown s) (declarator_row ev declarator)
  declarator-keeps declarator =
      option-keeps s declarator.value (λ value. behind-keeps s (value-at s ev evs value)
      (λ m h value known. behind-keeps s (write_name-keeps s declarator.name value known)
      (λ n l value written. normal-keeps s)))
      (normal-keeps s)

  declarators-keep : {count : ℕ} (given : List Declarator)
      → Keeps s count (CompletionKnown s) (declarators ev given)
  declarators-keep [] = normal-keeps s
  declarators-keep (first ∷ rest) =
      and_then-keeps s (declarator-keeps first) (declarators-keep rest)

  first-keeps : {count : ℕ} (first : First) → Keeps s count (CompletionKnown s) (first_row ev first)
  first-keeps NoFirst = normal-keeps s
  first-keeps (FirstExpression expression) =
      behind-keeps s (value-at s ev evs expression) (λ m h value known. normal-keeps s)
  first-keeps (FirstVar given) = step-keeps s (declarators-keep given)

  update-keeps : {count : ℕ} (update : Option Expression)
      → Keeps s count (CompletionKnown s) (update_row ev update)
  update-keeps update =
      option-keeps s update (λ update. behind-keeps s (value-at s ev evs update)
      (λ m h value known. normal-keeps s))
      (normal-keeps s)

  return-keeps : {count : ℕ} (value : Option Expression)
      → Keeps s count (CompletionKnown s) (return_row ev value)
  return-keeps {count} None = returned-keeps s Undefined (simple-known s count Undefined refl)
  return-keeps (Some value) =
      behind-keeps s (value-at s ev evs value) (λ m h value known. returned-keeps s value known)

  visited-keeps : {count : ℕ} (visitor : Visitor)
      → Keeps s count (PlaceKnown s) (visited_place ev visitor)
  visited-keeps (VisitTarget target) = entered_place-keeps s ev evs target
  visited-keeps (VisitVar name) = step-keeps s (gives-keeps s (NamePlace name) (λ more h. tt))

-- ---- statements and turns

module _ (s : Setting) (ev : Evaluation) (ex : Execution) (turns : Turns)
    (evs : (e : Expression) → Keeps s 0 (Known s) (ev e))
    (exs : (statement : Statement) → Completes s (ex statement))
    (later : (task : Task) → Completes s (turns task)) where
  statement-at : {count : ℕ} (statement : Statement)
      → Keeps s count (CompletionKnown s) (ex statement)
  statement-at statement = keeps_more s (omega arith) (exs statement)

  turns-at : {count : ℕ} (task : Task) → Keeps s count (CompletionKnown s) (turns task)
  turns-at task = keeps_more s (omega arith) (later task)

  turn_body-keeps : {count : ℕ} (test update : Option Expression) (body : Statement)
      → Keeps s count (CompletionKnown s) (turn_body ev ex turns test update body)
  turn_body-keeps test update body =
      behind-keeps s (statement-at body) (λ m h completion known. behind_body-keeps s
      (and_then-keeps s (update-keeps s ev evs update) (turns-at (Turn test update body)))
      completion known)

  turn-keeps : {count : ℕ} (test update : Option Expression) (body : Statement)
      → Keeps s count (CompletionKnown s) (turn_row ev ex turns test update body)
  turn-keeps None update body = turn_body-keeps None update body
  turn-keeps (Some test) update body =
      behind-keeps s (value-at s ev evs test) (λ m h value known. if-keeps s (truth_of value)
      (turn_body-keeps (Some test) update body) (normal-keeps s))

  one_visit-keeps : {count : ℕ} (visitor : Visitor) (object : ℕ) (name : List ℕ)
      (names : List (List ℕ)) (body : Statement) → Keeps s count (CompletionKnown s)
      (behind (visited_place ev visitor) (λ place. and_then (write_place place (Str name))
      (behind (ex body) (behind_body (turns (Visit visitor object names body))))))
  one_visit-keeps visitor object name names body =
      behind-keeps s (visited-keeps s ev evs visitor) (λ m h place known. and_then-keeps s
      (write_place-keeps s place (Str name) known (simple-known s m (Str name) refl))
      (behind-keeps s (statement-at body) (λ n l completion given.
      behind_body-keeps s (turns-at (Visit visitor object names body)) completion given)))

  visit-keeps : {count : ℕ} (visitor : Visitor) (object : ℕ) (names : List (List ℕ))
      (body : Statement)
      → Keeps s count (CompletionKnown s) (visit_row ev ex turns visitor object names body)
  visit-keeps visitor object [] body = normal-keeps s
  visit-keeps visitor object (name ∷ names) body = record {
    ends = λ w fine h next onward.
        if-stays s (has_property (object_at w.heap object) name) _ _
        ((one_visit-keeps visitor object name names body).ends w fine h next onward)
        ((visit-keeps visitor object names body).ends w fine h next onward);
  }

  names-keep : {count : ℕ} (visitor : Visitor) (object : ℕ) (body : Statement)
      → Keeps s count (CompletionKnown s)
      (λ w next. turns (Visit visitor object (names_of (object_at w.heap object)) body) w next)
  names-keep visitor object body = record {
    ends = λ w fine h next onward.
        (turns-at (Visit visitor object (names_of (object_at w.heap object)) body)).ends w fine h
        next onward;
  }

  visit_all-keeps : {count : ℕ} (visitor : Visitor) (body : Statement) (value : Value)
      → Keeps s count (CompletionKnown s) (visit_all turns visitor body value)
  visit_all-keeps visitor body (Object object) =
      charged-keeps s _ (names-keep visitor object body)
  visit_all-keeps visitor body _ = normal-keeps s

  statement-keeps : (statement : Statement) → Completes s (statement_row ev ex turns statement)
  statement-keeps (Block inner) = statements-keep s ex exs inner
  statement-keeps (Var given) = declarators-keep s ev evs given
  statement-keeps Empty = normal-keeps s
  statement-keeps (Evaluate expression) =
      behind-keeps s (value-at s ev evs expression) (λ m h value known. normal-keeps s)
  statement-keeps (If test body) =
      behind-keeps s (value-at s ev evs test) (λ m h value known.
      if-keeps s (truth_of value) (statement-at body) (normal-keeps s))
  statement-keeps (IfElse test body other) =
      behind-keeps s (value-at s ev evs test) (λ m h value known.
      if-keeps s (truth_of value) (statement-at body) (statement-at other))
  statement-keeps (While test body) = turns-at (Turn (Some test) None body)
  statement-keeps (For first test update body) =
      and_then-keeps s (first-keeps s ev evs first) (turns-at (Turn test update body))
  statement-keeps (ForIn visitor object body) =
      behind-keeps s (value-at s ev evs object) (λ m h value known.
      visit_all-keeps visitor body value)
  statement-keeps Continue = gives-keeps s Continued (λ more h. tt)
  statement-keeps Break = gives-keeps s Broke (λ more h. tt)
  statement-keeps (Return value) = return-keeps s ev evs value

  pub task_row-keeps : (task : Task) → Completes s (task_row ev ex turns task)
  task_row-keeps (Do statement) = statement-keeps statement
  task_row-keeps (Turn test update body) = turn-keeps test update body
  task_row-keeps (Visit visitor object names body) = visit-keeps visitor object names body
