use Rattle.std.proofs.lemmas.Option.{slice_get_read}
use Rattle.std.proofs.Common.{List, [], ◌∷◌, ◌≡◌, ◌==◌, ◌+◌, ◌∙◌, true, ap, sym, length, refl, arith}
use Rattle.std.specs.Prelude.{map}
use Rattle.std.proofs.lemmas.Bool.{eqb-true}
use Rattle.std.proofs.lemmas.List.{length-map}
use Rattle.std.proofs.lemmas.Result.{on_ok_weaker}
use Rattle.es_reader.specs.Told.{told_function}
use Rattle.es_reader.specs.declared.programs.FunctionDecl.{FunctionDecl}
use Rattle.es_eval.proofs.DeclaringLemmas.{count-within, declared-world}
use Rattle.es_eval.proofs.MachineLemmas.{machine_with_globals}
use Rattle.es_eval.proofs.machine.Machine.declare_functions.Goals as goal

pub function_count-first-requires : goal.function_count-first-requires
function_count-first-requires c =
    omega (
      arith,
      count-within c.args.programs.now c.args.which c.index-programs-which.result
          c.requires.which c.index-programs-which.is,
    )

pub overflow_add-first : goal.overflow_add-first
overflow_add-first c =
    omega (
      arith,
      c.function_count-first.ensures,
      count-within c.args.programs.now c.args.which
          c.index-programs-which.result c.requires.which c.index-programs-which.is,
    )

pub name_functions-requires : goal.name_functions-requires
name_functions-requires c =
    omega (
      arith,
      c.function_count-first.ensures,
      ap length c.functions-functions.ensures,
      length-map c.functions-functions.result.now told_function,
      count-within c.args.programs.now c.args.which
          c.index-programs-which.result c.requires.which c.index-programs-which.is,
    )

pub invariant_of-self : goal.invariant_of-self
invariant_of-self c =
    machine_with_globals _ _ c.self.invariant
    (c.name_functions.ensures.live c.self.inside.heap c.self.invariant.globals)

pub returns-clause-world : goal.returns-clause-world
returns-clause-world c =
    rw (← c.self.view_is)
    (on_ok_weaker c.name_functions.result
    (λ put. declared-world c.args.programs.now c.args.which c.index-programs-which.result
    c.functions-functions.result.now _ _ _ (slice_get_read c.args.programs.now _ c.args.which c.index-programs-which.result refl c.requires.which c.index-programs-which.is)
    c.functions-functions.ensures (ap (λ n. 16 + n) c.function_count-first.ensures) put)
    c.name_functions.ensures.globals)

none-listed : (functions : List FunctionDecl) → (length functions == 0) ≡ true → functions ≡ []
none-listed [] none = refl
none-listed (f ∷ rest) none =
    let n : length (f ∷ rest) ≡ 0 = eqb-true (length (f ∷ rest)) 0 none in
    absurd (omega (arith, n))

pub returns-then-is_empty-clause-world : goal.returns-then-is_empty-clause-world
returns-then-is_empty-clause-world c =
    declared-world c.args.programs.now c.args.which c.index-programs-which.result [] _ _ _
    (slice_get_read c.args.programs.now _ c.args.which c.index-programs-which.result refl c.requires.which c.index-programs-which.is)
    (sym (ap (map told_function) (none-listed c.functions-functions.result.now
    (sym c.is_empty.ensures ∙ c.if-is_empty.true)))
    ∙ c.functions-functions.ensures)
    refl refl
