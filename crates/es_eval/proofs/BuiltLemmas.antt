-- What a built-in answered makes of a run, and of what is live.
use Rattle.std.proofs.Common.{◌≡◌, ◌-◌, ◌≤◌, ℕ, Bool, true, false, List, [], length, ap, refl, arith}
use Rattle.std.specs.Prelude.{if◌then◌else◌, nat_le}
use Rattle.std.proofs.lemmas.Bool.{leb-false, leb-true}
use Rattle.std.proofs.lemmas.List.Elements.{All-cons, All-nil}
use Rattle.es_builtins.specs.declared.built.Built.{Built}
use Rattle.es_builtins.specs.Keeping.{RowKeeps}
use Rattle.es_builtins.specs.Rows.{Answers, Row}
use Rattle.es_builtins.specs.Rows.Row.{NoRow, Gives}
use Rattle.es_reader.specs.Programs.{ToldProgram}
use Rattle.es_values.specs.declared.budgets.Budget.{Budget}
use Rattle.es_values.specs.declared.values.Value.{Value}
use Rattle.es_values.specs.Heaps.{IsLive}
use Rattle.es_values.specs.Objects.{ObjectState}
use Rattle.es_eval.specs.declared.outcomes.Outcome.TheVariants.{Stopped}
use Rattle.es_eval.specs.declared.outcomes.StopCause.TheVariants.{Budget as OutOfSteps}
use Rattle.es_eval.specs.Actions.{Next, by_row_in}
use Rattle.es_eval.specs.devices.Machines.{AreLive, IsMachine, MachineState, built_run, values_of_built, world_of}
use Rattle.es_eval.specs.Worlds.Run.{Over}
use Rattle.es_eval.proofs.MachineLemmas.{frames-stay, named-stays}

-- a heap that grew, and steps that were taken
pub machine_with_heap : (m : MachineState) (heap : List ObjectState) (left : ℕ) → IsMachine m
    → length m.heap ≤ length heap → left ≤ m.left
    → IsMachine (record m { heap = heap; left = left })
machine_with_heap m heap left kept longer less = record {
  globals = named-stays m.heap heap m.globals longer kept.globals;
  frames = frames-stay m.heap heap m.frames longer kept.frames;
  some = kept.some;
  depth = kept.depth;
  steps = let steps = kept.steps in omega arith;
}

-- the run goes on with what a row gives
pub answered-row : (programs : List ToldProgram) (m : MachineState) (row : Row) (built : Built) (heap : List ObjectState)
    (left : ℕ) (next : Next Value)
    → Answers row m.heap (record { left = m.left }) built heap (record { left = left })
    → by_row_in (world_of programs m) next row
    ≡ built_run built (world_of programs (record m { heap = heap; left = left })) next
answered-row programs m NoRow built heap left next is =
    rw (is.0, is.1, ap (λ (b : Budget). b.left) is.2) refl
answered-row programs m (Gives charge value given) built heap left next is =
    by (nat_le charge m.left) refl
  where
    by : (enough : Bool) → nat_le charge m.left ≡ enough
        → (if enough then next value (world_of programs (record m { heap = given; left = m.left - charge }))
        else Over (Stopped OutOfSteps) (world_of programs m))
        ≡ built_run built (world_of programs (record m { heap = heap; left = left })) next
    by true e =
        let all = is.enough (leb-true charge m.left e) in rw (all.0, all.1, all.2) refl
    by false e =
        let none = is.short (leb-false charge m.left e) in
        rw (none.0, none.1, ap (λ (b : Budget). b.left) none.2) refl

-- what a row gives is live
pub live_built : (old : List ObjectState) (handed : List Value) (row : Row) (built : Built)
    (new : List ObjectState) (before after : Budget) → RowKeeps old handed row
    → Answers row old before built new after → AreLive new (values_of_built built)
live_built old handed NoRow built new before after keeps is = rw is.0 (All-nil (IsLive new))
live_built old handed (Gives charge value given) built new before after keeps is =
    by (nat_le charge before.left) refl
  where
    by : (enough : Bool) → nat_le charge before.left ≡ enough
        → AreLive new (values_of_built built)
    by true e =
        let all = is.enough (leb-true charge before.left e) in
        rw (all.0, all.1) (All-cons (IsLive given) value [] keeps.live (All-nil (IsLive given)))
    by false e = rw (is.short (leb-false charge before.left e)).0 (All-nil (IsLive new))
