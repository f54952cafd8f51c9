-- Where a value is there at once, what follows it makes the run of the action that is handed it.
use Rattle.std.proofs.Common.{◌≡◌, ◌∙◌, ◌+◌, ℕ, List, [], ◌∷◌, ◌++◌, ap, arith, sym, subst, append_assoc}
use Rattle.std.proofs.Math.Path.{fun_ext}
use Rattle.std.proofs.lemmas.List.Elements.{All-weaker}
use Rattle.es_expressions.specs.Trees.Trees.{OneMore}
use Rattle.es_reader.specs.Programs.{ToldProgram}
use Rattle.es_values.specs.declared.values.Value.{Value}
use Rattle.es_values.specs.Heaps.{IsLive}
use Rattle.es_shapes.specs.declared.codes.Code.{Code}
use Rattle.es_shapes.specs.Sources.{expressions_of}
use Rattle.es_shapes.specs.devices.Parts.{parts_from, tree_of, trees_from}
use Rattle.es_eval.specs.declared.outcomes.Outcome.TheVariants.{Stopped}
use Rattle.es_eval.specs.declared.outcomes.StopCause.{StopCause}
use Rattle.es_eval.specs.declared.found.Found.{Found}
use Rattle.es_eval.specs.declared.found.Found.TheVariants as found_of
use Rattle.es_eval.specs.declared.works.Callee.{Callee}
use Rattle.es_eval.specs.Actions.{Next}
use Rattle.es_eval.specs.Rows.{values}
use Rattle.es_eval.specs.Worlds.{World}
use Rattle.es_eval.specs.Worlds.Run.{Over}
use Rattle.es_eval.specs.devices.Machines.{AreLive, MachineState, Stays, world_of}
use Rattle.es_eval.specs.devices.Finding.{Finds}
use Rattle.es_eval.specs.devices.Works.{calls_callee, calls_with, enters, evaluates}
use Rattle.es_eval.proofs.MachineLemmas.{live-stays}

-- ---- what stays

pub stays-behind : (old mid new : MachineState) → Stays old mid → Stays mid new → Stays old new
stays-behind old mid new first second = record {
  rest = λ programs. second.rest programs ∙ first.rest programs;
  less = let a = first.less in let b = second.less in omega arith;
  heap = let a = first.heap in let b = second.heap in omega arith;
}

pub are_live : (old new : MachineState) (there : List Value) → Stays old new
    → AreLive old.heap there → AreLive new.heap there
are_live old new there stays =
    All-weaker (IsLive old.heap) (IsLive new.heap)
    (λ value. live-stays old.heap new.heap value stays.heap) there

-- ---- what comes behind a value

-- ---- arguments

-- the arguments from a place on, where there is one
first-argument : (programs : List ToldProgram) (callee : Callee) (there : List Value) (call : Code)
    (place : ℕ) (argument : Code) (w : World) (next : Next Value)
    → trees_from programs call place
    ≡ OneMore (tree_of programs argument) (trees_from programs call (place + 1))
    → calls_with programs callee there call place w next
    ≡ evaluates programs argument w (λ value after.
    values (enters programs) (parts_from programs call (place + 1)) after
    (λ others after. calls_callee programs callee (there ++ value ∷ others) after next))
unfolding expressions_of
first-argument programs callee there call place argument w next trees =
    ap (λ parts. values (enters programs) (expressions_of parts) w
    (λ others after. calls_callee programs callee (there ++ others) after next)) trees

pub argument-given : (programs : List ToldProgram) (callee : Callee) (there : List Value)
    (call : Code) (place : ℕ) (argument : Code) (old mid : MachineState) (found : Found)
    (value : Value) (next : Next Value)
    → trees_from programs call place
    ≡ OneMore (tree_of programs argument) (trees_from programs call (place + 1))
    → Finds programs (evaluates programs argument) old mid found → found ≡ found_of.Value value
    → calls_with programs callee there call place (world_of programs old) next
    ≡ calls_with programs callee (there ++ value ∷ []) call (place + 1) (world_of programs mid) next
argument-given programs callee there call place argument old mid found value next trees finds is =
    let given : Finds programs (evaluates programs argument) old mid (found_of.Value value) =
    subst (λ (f : Found). Finds programs (evaluates programs argument) old mid f) is finds in
    first-argument programs callee there call place argument (world_of programs old) next trees
    ∙ given (λ value after. values (enters programs) (parts_from programs call (place + 1)) after
    (λ others after. calls_callee programs callee (there ++ value ∷ others) after next))
    ∙ ap (values (enters programs) (parts_from programs call (place + 1)) (world_of programs mid))
    (fun_ext (λ others. fun_ext (λ after.
    ap (λ arguments. calls_callee programs callee arguments after next)
    (sym (append_assoc there (value ∷ []) others)))))

pub argument-stops : (programs : List ToldProgram) (callee : Callee) (there : List Value)
    (call : Code) (place : ℕ) (argument : Code) (old mid : MachineState) (found : Found)
    (cause : StopCause) (next : Next Value)
    → trees_from programs call place
    ≡ OneMore (tree_of programs argument) (trees_from programs call (place + 1))
    → Finds programs (evaluates programs argument) old mid found
    → found ≡ found_of.Stopped cause
    → calls_with programs callee there call place (world_of programs old) next
    ≡ Over (Stopped cause) (world_of programs mid)
argument-stops programs callee there call place argument old mid found cause next trees finds is =
    let stops : Finds programs (evaluates programs argument) old mid (found_of.Stopped cause) =
    subst (λ (f : Found). Finds programs (evaluates programs argument) old mid f) is finds in
    first-argument programs callee there call place argument (world_of programs old) next trees
    ∙ stops (λ value after. values (enters programs) (parts_from programs call (place + 1)) after
    (λ others after. calls_callee programs callee (there ++ value ∷ others) after next))
