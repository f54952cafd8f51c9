-- Calls by alike ways to run a body are alike.
use Rattle.std.proofs.Common.{ℕ, ◌+◌, Bool, List, length, refl, arith}
use Rattle.std.specs.Prelude.{nat_lt}
use Rattle.es_values.specs.declared.hosts.HostAnswer.{HostAnswer}
use Rattle.es_values.specs.declared.hosts.HostAnswer.TheVariants as host
use Rattle.es_values.specs.declared.values.Value.{Value}
use Rattle.es_values.specs.declared.values.Value.TheVariants.{Undefined, Null, Object, Function, Host}
use Rattle.es_values.specs.Heaps.{object_at, value_of}
use Rattle.es_values.specs.Objects.{ObjectState}
use Rattle.es_eval.specs.declared.outcomes.Outcome.TheVariants.{Ended, Stopped}
use Rattle.es_eval.specs.declared.outcomes.StopCause.TheVariants.{Depth, NotCallable, NotObject}
use Rattle.es_eval.specs.Actions.{Next, answered}
use Rattle.es_frames.specs.Depth.{most_calls}
use Rattle.es_eval.specs.Calls.{Body, call_member, call_number, call_property, call_value, construct, construct_as, enter, inside, new_value, object_or, outside, with_new_object}
use Rattle.es_shapes.specs.Functions.{declared_function}
use Rattle.es_shapes.specs.Syntax.{Function as Declared, Statements}
use Rattle.es_eval.specs.Worlds.{World, with_more}
use Rattle.es_eval.specs.Worlds.Run.{Calls}
use Rattle.es_eval.proofs.AlikeLemmas.{Alike, Onward, Same, by_row-alike, charged-alike, if-same, option-alike, over-same, stops-alike, Further, GoesFurther, if-further, over-further}

answered-same : {counted : Bool} (w : World) (next other : Next Value)
    → Onward counted w.left next other → (answer : HostAnswer) (heap : List ObjectState)
    → Same counted w.left (answered w next answer heap) (answered w other answer heap)
answered-same w next other onward (host.Value value) heap =
    onward.on value (record w { heap = heap }) (omega arith)
answered-same w next other onward host.Ended heap =
    over-same Ended (record w { heap = heap }) (omega arith)
answered-same w next other onward host.NotCallable heap =
    over-same (Stopped NotCallable) (record w { heap = heap }) (omega arith)

answered-further : (more : ℕ) (w : World) (next other : Next Value)
    → Further more (w.left + more) next other → (answer : HostAnswer) (heap : List ObjectState)
    → GoesFurther more (answered w next answer heap) (answered (with_more more w) other answer heap)
answered-further more w next other on (host.Value value) heap =
    on.on value (record w { heap = heap }) (omega arith)
answered-further more w next other on host.Ended heap =
    over-further more Ended (record w { heap = heap })
answered-further more w next other on host.NotCallable heap =
    over-further more (Stopped NotCallable) (record w { heap = heap })

module _ (functions : List Declared) (left : ℕ) (body other : Body)
    (bodies : (inner : Statements) → Alike left (body inner) (other inner)) where
  enter-alike : (function : Declared) (this : Value) (arguments : List Value)
      → Alike left (enter body function this arguments) (enter other function this arguments)
  enter-alike function this arguments = record {
    same = λ counted w l next more onward. if-same (nat_lt w.depth most_calls)
        ((bodies function.body).same counted (inside function this arguments w) l _ _
        (record { on = λ value v less. onward.on value (outside w v) less }))
        (over-same (Stopped Depth) w (omega arith));
    further = λ more w l next after on. if-further more (nat_lt w.depth most_calls) _ _ _ _
        ((bodies function.body).further more (inside function this arguments w) l _ _
        (record { on = λ value v less. on.on value (outside w v) less }))
        (over-further more (Stopped Depth) w);
  }

  call_number-alike : (number : ℕ) (this : Value) (arguments : List Value)
      → Alike left (call_number functions body number this arguments)
      (call_number functions other number this arguments)
  call_number-alike number this arguments =
      option-alike (declared_function functions number)
      (λ function. enter-alike function this arguments) (by_row-alike _)

  pub call_value-alike : (callee : Value) (arguments : List Value)
      → Alike left (call_value functions body callee arguments)
      (call_value functions other callee arguments)
  call_value-alike (Function number) arguments = call_number-alike number Undefined arguments
  call_value-alike _ arguments = stops-alike NotCallable

  call_property-alike : (object : ℕ) (key : List ℕ) (arguments : List Value) (property : Value)
      → Alike left (call_property functions body object key arguments property)
      (call_property functions other object key arguments property)
  call_property-alike object key arguments (Function number) =
      call_number-alike number (Object object) arguments
  call_property-alike object key arguments _ = by_row-alike _

  pub call_member-alike : (base : Value) (key : List ℕ) (arguments : List Value)
      → Alike left (call_member functions body base key arguments)
      (call_member functions other base key arguments)
  call_member-alike Undefined key arguments = stops-alike NotObject
  call_member-alike Null key arguments = stops-alike NotObject
  call_member-alike (Object object) key arguments = record {
    same = λ counted w l next more onward.
        (call_property-alike object key arguments (value_of (object_at w.heap object) key)).same
        counted w l next more onward;
    further = λ more w l next after on.
        (call_property-alike object key arguments (value_of (object_at w.heap object) key)).further
        more w l next after on;
  }
  call_member-alike (Host reference) key arguments = charged-alike _ (record {
    same = λ counted w l next more onward.
        let on : (answer : HostAnswer) (heap : List ObjectState) → Same counted w.left
        (answered w next answer heap) (answered w more answer heap)
        = answered-same w next more onward in
        record {
          run = λ i. Calls reference key arguments w.heap (λ answer heap. (on answer heap).run i);
          ends = λ asked answer heap. (on answer heap).ends asked;
        };
    further = λ more w l next after on.
        (_, refl, λ answer heap. answered-further more w next after on answer heap);
  })
  call_member-alike _ key arguments = by_row-alike _

  construct_as-alike : (function : Declared) (new : Value) (arguments : List Value)
      → Alike left (construct_as body function new arguments)
      (construct_as other function new arguments)
  construct_as-alike function new arguments = record {
    same = λ counted w l next more onward.
        (bodies function.body).same counted (inside function new arguments (with_new_object w)) l
        _ _
        (record { on = λ value v less. onward.on (object_or new value) (outside w v) less });
    further = λ more w l next after on.
        (bodies function.body).further more (inside function new arguments (with_new_object w)) l
        _ _
        (record { on = λ value v less. on.on (object_or new value) (outside w v) less });
  }

  construct-alike : (function : Declared) (arguments : List Value)
      → Alike left (construct body function arguments) (construct other function arguments)
  construct-alike function arguments = record {
    same = λ counted w l next more onward. if-same (nat_lt w.depth most_calls)
        ((construct_as-alike function (Object (length w.heap)) arguments).same counted w l next more
        onward)
        (over-same (Stopped Depth) w (omega arith));
    further = λ more w l next after on. if-further more (nat_lt w.depth most_calls) _ _ _ _
        ((construct_as-alike function (Object (length w.heap)) arguments).further more w l next
        after on)
        (over-further more (Stopped Depth) w);
  }

  pub new_value-alike : (callee : Value) (arguments : List Value)
      → Alike left (new_value functions body callee arguments)
      (new_value functions other callee arguments)
  new_value-alike (Function number) arguments =
      option-alike (declared_function functions number)
      (λ function. construct-alike function arguments) (by_row-alike _)
  new_value-alike _ arguments = stops-alike NotCallable
