-- How the arms of statements make the runs of their rows.
use Rattle.std.proofs.Common.{◌≡◌, ◌∙◌, ◌+◌, ◌<◌, ◌≤◌, ℕ, true, false, List, [], ◌∷◌, length, drop, get_or, ap, sym, subst, refl}
use Rattle.std.specs.Prelude.{Option, Some, None}
use Rattle.std.proofs.Math.Path.{fun_ext}
use Rattle.es_expressions.specs.Trees.Trees.{NoTrees, OneMore}
use Rattle.es_reader.specs.Programs.{ToldProgram}
use Rattle.es_values.specs.declared.values.Value.{Value}
use Rattle.es_values.specs.declared.values.Value.TheVariants.{Object}
use Rattle.es_values.specs.Heaps.{has_property, object_at}
use Rattle.es_shapes.specs.declared.codes.Code.{Code}
use Rattle.es_shapes.specs.declared.codes.Listing.{Listing}
use Rattle.es_eval.specs.declared.outcomes.Outcome.TheVariants.{Stopped}
use Rattle.es_eval.specs.declared.outcomes.StopCause.TheVariants.{Budget}
use Rattle.es_shapes.specs.declared.shapes.DeclaratorShape.{DeclaratorShape}
use Rattle.es_shapes.specs.declared.shapes.VisitorShape.{VisitorShape}
use Rattle.es_shapes.specs.declared.shapes.VisitorShape.TheVariants as seen
use Rattle.es_eval.specs.declared.works.Given.{Given}
use Rattle.es_eval.specs.declared.works.Given.TheVariants as given
use Rattle.es_eval.specs.declared.works.Loop.{Loop}
use Rattle.es_eval.specs.declared.works.Now.{Now}
use Rattle.es_eval.specs.declared.works.Now.TheVariants as now
use Rattle.es_eval.specs.declared.works.StatementWork.TheVariants as statement
use Rattle.es_eval.specs.declared.works.Use.TheVariants.{Visit as VisitUse}
use Rattle.es_eval.specs.declared.works.Visit.{Visit as Visiting}
use Rattle.es_eval.specs.Actions.{Action, Next, and_then, behind, step}
use Rattle.es_shapes.specs.devices.Parts.{declarator_at, expression_at, listed, statement_at, statements_from, tree_of, trees_from}
use Rattle.es_shapes.specs.Codes.{declared_by}
use Rattle.es_eval.specs.devices.Machines.{CarriesOn, GoesOn, MachineState, Stays, names_in, rest, run_from, world_of}
use Rattle.es_eval.specs.Rows.{Completion, Evaluation, behind_body, declarator_row, declarators, entered_place, statements, visit_all, visited_place, where_normal}
use Rattle.es_eval.specs.Rows.Completion.{Normal, Broke, Continued, Returned}
use Rattle.es_eval.specs.Rows.Task.{Visit as VisitTurn}
use Rattle.es_eval.specs.Members.{Place}
use Rattle.es_eval.specs.Members.Place.{NamePlace}
use Rattle.es_shapes.specs.devices.Shapes.{declared, visitor_shaped}
use Rattle.es_shapes.specs.Sources.{declarators_of, statements_of, target_of}
use Rattle.es_shapes.specs.Syntax.{Declarator}
use Rattle.es_eval.specs.Unbounded.{done}
use Rattle.es_eval.specs.devices.Works.{as_completion, completed, declares, enters, executes, loop_again, loop_body, loop_task, runs, statement_work_row, turns, use_row, visit_task}
use Rattle.es_eval.specs.Worlds.{World}
use Rattle.es_eval.proofs.TurnLemmas.{drop-at, drop-end, visit-skips, visit-turn, visited-none}

-- ---- statements in a row

pub behind_statement : (programs : List ToldProgram) (listing : Listing) (place : ℕ) (code : Code)
    (w : World) (next : Next Given)
    → listed programs listing place
    ≡ OneMore (tree_of programs code) (listed programs listing (place + 1))
    → executes programs code w (λ completion after. statement_work_row programs
    (statement.Statements listing (place + 1)) (completed completion) after next)
    ≡ as_completion (statements (runs programs) (statements_from programs listing place)) w next
unfolding statements_of
behind_statement programs listing place code w next is =
    ap (executes programs code w) (fun_ext (λ completion. fun_ext (λ after. by completion after)))
    ∙ sym (ap (λ trees. as_completion (statements (runs programs) (statements_of trees)) w next) is)
  where
    more : Action Completion
    more = statements (runs programs) (statements_from programs listing (place + 1))

    by : (completion : Completion) (after : World)
        → statement_work_row programs (statement.Statements listing (place + 1))
        (completed completion) after next
        ≡ where_normal more completion after (λ completion after. next (completed completion) after)
    by Normal after = refl
    by Broke after = refl
    by Continued after = refl
    by (Returned value) after = refl

pub behind_all : (programs : List ToldProgram) (listing : Listing) (place : ℕ) (w : World)
    (next : Next Given) → listed programs listing place ≡ NoTrees
    → next given.Normal w
    ≡ as_completion (statements (runs programs) (statements_from programs listing place)) w next
unfolding statements_of
behind_all programs listing place w next is =
    sym (ap (λ trees. as_completion (statements (runs programs) (statements_of trees)) w next) is)

-- ---- turns

pub behind_turn : (programs : List ToldProgram) (loop : Loop) (w : World) (next : Next Given)
    → executes programs loop.body w (λ completion after. statement_work_row programs
    (statement.Body loop) (completed completion) after next)
    ≡ as_completion (loop_body programs loop) w next
behind_turn programs loop w next =
    ap (executes programs loop.body w) (fun_ext (λ completion. fun_ext (λ after. by completion after)))
  where
    by : (completion : Completion) (after : World)
        → statement_work_row programs (statement.Body loop) (completed completion) after next
        ≡ behind_body (loop_again programs loop) completion after
        (λ completion after. next (completed completion) after)
    by Normal after = refl
    by Broke after = refl
    by Continued after = refl
    by (Returned value) after = refl

-- ---- declarators

-- whatever is declared, it is completed normally
declarators-normal : (ev : Evaluation) (names : List Declarator) (w : World)
    (next other : Next Completion) → ((after : World) → next Normal after ≡ other Normal after)
    → declarators ev names w next ≡ declarators ev names w other
declarators-normal ev [] w next other same = same w
declarators-normal ev (first ∷ others) w next other same =
    ap (declarator_row ev first w)
    (fun_ext (λ completion. fun_ext (λ after. declarators-normal ev others after next other same)))

pub declared-turns : (programs : List ToldProgram) (code : Code) (loop : Loop) (w : World)
    (next : Next Given)
    → as_completion (declares programs code 0) w
    (λ handed after. statement_work_row programs (statement.NextTurn loop) handed after next)
    ≡ as_completion (and_then (declares programs code 0) (turns programs (loop_task programs loop)))
    w next
declared-turns programs code loop w next =
    declarators-normal (enters programs) (declarators_of (trees_from programs code 0)) w
    (λ completion after. statement_work_row programs (statement.NextTurn loop)
    (completed completion) after next)
    (λ completion after. turns programs (loop_task programs loop) after
    (λ completion after. next (completed completion) after))
    (λ after. refl)

pub nothing-declared : (programs : List ToldProgram) (code : Code) (place : ℕ) (w : World)
    (next : Next Completion) → trees_from programs code place ≡ NoTrees
    → declares programs code place w next ≡ next Normal w
unfolding declarators_of
nothing-declared programs code place w next is =
    ap (λ trees. declarators (enters programs) (declarators_of trees) w next) is

-- the first that is declared, and those behind it
one-declared : (programs : List ToldProgram) (code declared_code : Code) (place : ℕ)
    (shape : DeclaratorShape) (w : World) (next : Next Completion)
    → trees_from programs code place
    ≡ OneMore (tree_of programs declared_code) (trees_from programs code (place + 1))
    → declarator_at programs declared_code ≡ declared programs shape
    → declares programs code place w next
    ≡ and_then (declarator_row (enters programs) (declared programs shape))
    (declares programs code (place + 1)) w next
unfolding declarators_of
one-declared programs code declared_code place shape w next is what =
    ap (λ trees. declarators (enters programs) (declarators_of trees) w next) is
    ∙ ap (λ named. and_then (declarator_row (enters programs) named)
    (declares programs code (place + 1)) w next) what

-- ---- names that are visited

module _ (programs : List ToldProgram) (m : MachineState) (visit : Visiting) (name : List ℕ)
    (inside : visit.next < length visit.names.items)
    (is : name ≡ get_or visit.names.items visit.next name) where
  pub visit-past : (next : Next Completion)
      → has_property (object_at m.heap visit.object) name ≡ false
      → turns programs (visit_task programs visit) (world_of programs m) next
      ≡ turns programs (visit_task programs (record visit { next = visit.next + 1 })) (world_of programs m)
      next
  visit-past next gone =
      ap (λ names. done (declared_by programs) (VisitTurn
      (visitor_shaped programs visit.visitor) visit.object names
      (statement_at programs visit.body)) (world_of programs m) next)
      (drop-at visit.names.items visit.next name inside is)
      ∙ visit-skips (declared_by programs) (visitor_shaped programs visit.visitor) visit.object name
      (drop (visit.next + 1) visit.names.items) (statement_at programs visit.body) (world_of programs m) next
      gone

  pub visit-on : (old new : MachineState) (first : Visiting) (next : Now) → m ≡ old
      → ((next : Next Completion) → turns programs (visit_task programs visit) (world_of programs m) next
      ≡ turns programs (visit_task programs first) (world_of programs m) next)
      → has_property (object_at m.heap visit.object) name ≡ true
      → GoesOn programs m (behind
      (visited_place (enters programs) (visitor_shaped programs visit.visitor))
      (use_row programs (VisitUse name (record visit { next = visit.next + 1 })))) new next
      → GoesOn programs old (as_completion (turns programs (visit_task programs first))) new next
  visit-on old new first next same begun there on =
      let onward : Next Completion =
      λ completion after. rest programs m.frames (completed completion) after in
      subst (λ (o : MachineState). GoesOn programs o
      (as_completion (turns programs (visit_task programs first))) new next) same
      (on
      ∙ sym (visit-turn (declared_by programs) (visitor_shaped programs visit.visitor) visit.object
      name (drop (visit.next + 1) visit.names.items) (statement_at programs visit.body) (world_of programs m)
      onward there)
      ∙ ap (λ names. done (declared_by programs) (VisitTurn
      (visitor_shaped programs visit.visitor) visit.object names
      (statement_at programs visit.body)) (world_of programs m) onward)
      (sym (drop-at visit.names.items visit.next name inside is))
      ∙ begun onward)

pub visit-end : (programs : List ToldProgram) (m old : MachineState) (visit first : Visiting)
    → m ≡ old → ((next : Next Completion)
    → turns programs (visit_task programs visit) (world_of programs m) next
    ≡ turns programs (visit_task programs first) (world_of programs m) next)
    → length visit.names.items ≤ visit.next
    → GoesOn programs old (as_completion (turns programs (visit_task programs first))) m
    (now.Gives given.Normal)
visit-end programs m old visit first same begun past =
    let onward : Next Completion =
    λ completion after. rest programs m.frames (completed completion) after in
    subst (λ (o : MachineState). GoesOn programs o
    (as_completion (turns programs (visit_task programs first))) m (now.Gives given.Normal)) same
    (sym (visited-none (declared_by programs) (visitor_shaped programs visit.visitor) visit.object
    (drop visit.next visit.names.items) (statement_at programs visit.body) (world_of programs m) onward
    (drop-end visit.names.items visit.next past))
    ∙ begun onward)

-- ---- the place that is visited

pub visit-target : (programs : List ToldProgram) (old new : MachineState) (visitor : VisitorShape)
    (target : Code) (more : Place → Action Given) (next : Now) → visitor ≡ seen.VisitTarget target
    → GoesOn programs old (behind
    (entered_place (enters programs) (target_of (expression_at programs target))) more) new next
    → GoesOn programs old (behind
    (visited_place (enters programs) (visitor_shaped programs visitor)) more) new next
unfolding visitor_shaped
visit-target programs old new visitor target more next is on = rw is on

pub visit-var : (programs : List ToldProgram) (old new : MachineState) (visitor : VisitorShape)
    (name : List ℕ) (code : Code) (more : Place → Action Given) (next : Now)
    → visitor ≡ seen.VisitVar name code
    → GoesOn programs old (step (more (NamePlace name))) new next
    → GoesOn programs old (behind
    (visited_place (enters programs) (visitor_shaped programs visitor)) more) new next
unfolding visitor_shaped
visit-var programs old new visitor name code more next is on = rw is on

-- ---- the names of an object

pub all-visited : (programs : List ToldProgram) (old mid new : MachineState)
    (visitor : VisitorShape) (body : Code) (value : Value) (object : ℕ)
    (found : Option (List (List ℕ))) (names : List (List ℕ)) (next : Now)
    → value ≡ Object object → CarriesOn (names_in object) old found mid
    → found ≡ Some names → Stays old mid
    → GoesOn programs mid (as_completion (turns programs
    (VisitTurn (visitor_shaped programs visitor) object names (statement_at programs body)))) new
    next
    → GoesOn programs old (as_completion (visit_all (turns programs)
    (visitor_shaped programs visitor) (statement_at programs body) value)) new next
all-visited programs old mid new visitor body value object found names next is carries some stays on =
    let carried : CarriesOn (names_in object) old (Some names) mid =
    subst (λ (o : Option (List (List ℕ))). CarriesOn (names_in object) old o
    mid) some carries in
    subst (λ (v : Value). GoesOn programs old (as_completion (visit_all (turns programs)
    (visitor_shaped programs visitor) (statement_at programs body) v)) new next) (sym is)
    (on
    ∙ ap (λ (more : Next Given). done (declared_by programs)
    (VisitTurn (visitor_shaped programs visitor) object names (statement_at programs body))
    (world_of programs mid) (λ completion after. more (completed completion) after)) (stays.rest programs)
    ∙ sym (carried programs (λ names w. done (declared_by programs)
    (VisitTurn (visitor_shaped programs visitor) object names (statement_at programs body)) w
    (λ completion after. rest programs old.frames (completed completion) after))))

pub none-visited : (programs : List ToldProgram) (old new : MachineState)
    (visitor : VisitorShape) (body : Code) (value : Value) (object : ℕ)
    (found : Option (List (List ℕ))) (next : Now)
    → value ≡ Object object → CarriesOn (names_in object) old found new
    → found ≡ None → next ≡ now.Over (Stopped Budget)
    → GoesOn programs old (as_completion (visit_all (turns programs)
    (visitor_shaped programs visitor) (statement_at programs body) value)) new next
none-visited programs old new visitor body value object found next is carries none over =
    let carried : CarriesOn (names_in object) old None new =
    subst (λ (o : Option (List (List ℕ))). CarriesOn (names_in object) old o
    new) none carries in
    subst (λ (v : Value). GoesOn programs old (as_completion (visit_all (turns programs)
    (visitor_shaped programs visitor) (statement_at programs body) v)) new next) (sym is)
    (ap (run_from programs new) over
    ∙ sym (carried programs (λ names w. done (declared_by programs)
    (VisitTurn (visitor_shaped programs visitor) object names (statement_at programs body)) w
    (λ completion after. rest programs old.frames (completed completion) after))))

-- ---- the head of a `for`

-- ---- statements
