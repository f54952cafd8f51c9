-- Calls whose arguments came so far: the call is made, or it waits for one of them.
use Rattle.std.proofs.Common.{◌≡◌, ◌∙◌, ◌++◌, ◌∷◌, [], List, ap, sym, subst}
use Rattle.std.specs.Prelude.{All}
use Rattle.std.proofs.lemmas.List.Elements.{All-append, All-cons, All-nil, All-weaker}
use Rattle.es_reader.specs.Programs.{ToldProgram}
use Rattle.es_values.specs.Heaps.{IsLive}
use Rattle.es_eval.specs.declared.applications.Gathered.{Gathered}
use Rattle.es_eval.specs.declared.applications.Gathered.TheVariants.{All as AllThere, Waits}
use Rattle.es_eval.specs.declared.held.Held.{Held}
use Rattle.es_eval.specs.declared.works.Callee.{Callee}
use Rattle.es_eval.specs.declared.works.CallWork.TheVariants.{Argument}
use Rattle.es_eval.specs.declared.works.Given.{Given}
use Rattle.es_eval.specs.declared.works.Now.{Now}
use Rattle.es_eval.specs.declared.works.OpenCall.{OpenCall}
use Rattle.es_eval.specs.declared.works.Work.{Work}
use Rattle.es_eval.specs.declared.works.Work.TheVariants.{Call as CallItem}
use Rattle.es_eval.specs.Actions.{Next}
use Rattle.es_eval.specs.Worlds.{World}
use Rattle.es_eval.specs.devices.Held.{Gathers, GathersAll, GathersSome}
use Rattle.es_eval.specs.devices.Machines.{AreLive, GoesOn, IsWorkLive, MachineState, items_rest, next_run, rest, value_rest, values_of_callee, world_of}
use Rattle.es_eval.specs.devices.Works.{as_value, calls_callee, calls_with, does}
use Rattle.es_eval.proofs.HeldLemmas.{items_behind}
use Rattle.es_eval.proofs.MachineLemmas.{live-stays}

-- what was gathered of the arguments that follow
module _ (programs told : List ToldProgram) (old mid new : MachineState) (before after : OpenCall)
    (gathered : Gathered) (held : Held) (same : told ≡ programs)
    (gathers : Gathers told old mid before after gathered held) where
  gathers-as : (how : Gathered) → gathered ≡ how → Gathers programs old mid before after how held
  gathers-as how is =
      subst (λ (t : List ToldProgram). Gathers t old mid before after how held) same
      (subst (λ (g : Gathered). Gathers told old mid before after g held) is gathers)

  -- all are there, and the call is made
  pub made-run : (next : Now) → gathered ≡ AllThere → after.callee ≡ before.callee
      → GoesOn programs mid (as_value (calls_callee programs after.callee after.given.items)) new next
      → GoesOn programs old (as_value (calls_with programs before.callee before.given.items
      before.call before.next)) new next
  made-run next is callee on =
      let all : GathersAll programs old mid before after held = gathers-as AllThere is in
      on
      ∙ ap (λ (c : Callee). as_value (calls_callee programs c after.given.items)
      (world_of programs mid) (rest programs mid.frames)) callee
      ∙ ap (as_value (calls_callee programs before.callee after.given.items)
      (world_of programs mid)) (all.stays.rest programs)
      ∙ sym (all.run (value_rest programs old.frames))

  -- one waits, and the call behind it
  module _ (more : Held) (is : gathered ≡ Waits)
      (items : more.items.items ≡ held.items.items ++ CallItem (Argument after) ∷ []) where
    some : GathersSome programs old mid before after held
    some = gathers-as Waits is

    abbrev item : Work
    item = CallItem (Argument after)

    pub waits-live : after.callee ≡ before.callee
        → AreLive old.heap (values_of_callee before.callee)
        → All (IsWorkLive mid.heap) more.items.items
    waits-live callee live =
        let there : AreLive mid.heap (values_of_callee after.callee) =
        rw callee (All-weaker (IsLive old.heap) (IsLive mid.heap)
        (λ value. live-stays old.heap mid.heap value some.heap) (values_of_callee before.callee)
        live) in
        rw items (All-append (IsWorkLive mid.heap) held.items.items (item ∷ []) some.kept
        (All-cons (IsWorkLive mid.heap) item [] (All-append (IsLive mid.heap)
        (values_of_callee after.callee) after.given.items there some.given)
        (All-nil (IsWorkLive mid.heap))))

    pub waits-run : (next : Now) → next ≡ held.next
        → rest programs new.frames ≡ items_rest programs more.items.items (rest programs mid.frames)
        → world_of programs new ≡ world_of programs mid
        → GoesOn programs old (as_value (calls_with programs before.callee before.given.items
        before.call before.next)) new next
    waits-run next comes behind same_world =
        ap (λ (n : Now). next_run programs n (world_of programs new) (rest programs new.frames)) comes
        ∙ ap (λ (w : World). next_run programs held.next w (rest programs new.frames)) same_world
        ∙ ap (next_run programs held.next (world_of programs mid))
        (behind
        ∙ ap (λ (l : List Work). items_rest programs l (rest programs mid.frames)) items
        ∙ items_behind programs held.items.items item (rest programs mid.frames)
        ∙ ap (λ (b : Next Given). items_rest programs held.items.items
        (λ handed w. does programs item handed w b)) (some.rest programs))
        ∙ sym (some.run (rest programs old.frames))
