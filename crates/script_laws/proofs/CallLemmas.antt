-- Calls keep that all values are known, and hand over only such ones, where the bodies of
-- functions do.
use Rattle.std.proofs.Common.{◌≡◌, ℕ, zero, suc, ◌<◌, ◌≤◌, true, false, List, [], ◌∷◌, ◌++◌, length, refl, arith, length-append}
use Rattle.std.proofs.lemmas.List.Elements.{All-cons, All-head, All-nil, All-tail}
use Rattle.std.specs.Prelude.{nat_lt}
use Rattle.es_values.specs.declared.hosts.HostAnswer.{HostAnswer}
use Rattle.es_values.specs.declared.hosts.HostAnswer.TheVariants as host
use Rattle.es_values.specs.declared.values.HostRef.{HostRef}
use Rattle.es_values.specs.declared.values.Value.{Value}
use Rattle.es_values.specs.declared.values.Value.TheVariants.{Undefined, Null, Object, Function, Host}
use Rattle.es_values.specs.Heaps.{new_object, object_at, value_of}
use Rattle.es_values.specs.Hosts.{IsAnswer, KeepsHeap}
use Rattle.es_values.specs.Objects.{ObjectState}
use Rattle.es_eval.specs.declared.outcomes.StopCause.TheVariants.{NotCallable, NotObject}
use Rattle.es_eval.specs.Actions.{Next, answered}
use Rattle.es_frames.specs.Depth.{most_calls}
use Rattle.es_eval.specs.Calls.{Body, bound, call_member, call_number, call_property, call_value, construct, construct_as, enter, inside, new_value, object_or, outside, with_new_object}
use Rattle.es_shapes.specs.Functions.{declared_function}
use Rattle.es_shapes.specs.Syntax.{Function as Declared, Statements}
use Rattle.es_eval.specs.Worlds.{World}
use Rattle.es_eval.specs.Worlds.Run.{Calls}
use Rattle.script_laws.specs.Staying.{AnswerPasses, IsFit}
use Rattle.script_laws.proofs.HeapLemmas.{added-holds}
use Rattle.script_laws.proofs.StateLemmas.{AllKnown, EntriesKnown, Fine, Keeps, Known, Onward, Setting, Stays, all_more, charged-keeps, construction-keeps, entries_more, fine-heap, function-keeps, handed, if-stays, known_more, method-keeps, object-known, option-keeps, over, simple-known, stops-keeps}

module _ (s : Setting) where
  -- ---- locals

  bound-known : (count : ℕ) (names : List (List ℕ)) (parameters : ℕ) (arguments : List Value)
      → AllKnown s count arguments → EntriesKnown s count (bound names parameters arguments)
  bound-known count [] parameters arguments known = All-nil (λ entry. Known s count entry.1)
  bound-known count (name ∷ names) zero arguments known =
      All-cons (λ entry. Known s count entry.1) (name, Undefined) (bound names zero arguments)
      (simple-known s count Undefined refl) (bound-known count names zero arguments known)
  bound-known count (name ∷ names) (suc more) [] known =
      All-cons (λ entry. Known s count entry.1) (name, Undefined) (bound names more [])
      (simple-known s count Undefined refl) (bound-known count names more [] known)
  bound-known count (name ∷ names) (suc more) (value ∷ arguments) known =
      All-cons (λ entry. Known s count entry.1) (name, value) (bound names more arguments)
      (All-head (Known s count) value arguments known)
      (bound-known count names more arguments (All-tail (Known s count) value arguments known))

  inside-fine : (function : Declared) (this : Value) (arguments : List Value) (w : World) → Fine s w
      → Known s (length w.heap) this → AllKnown s (length w.heap) arguments
      → Fine s (inside function this arguments w)
  inside-fine function this arguments w fine known all = record {
    globals = fine.globals;
    locals = bound-known (length w.heap) function.locals function.parameters arguments all;
    this = known;
    heap = fine.heap;
    objects = fine.objects;
  }

  outside-fine : (caller w : World) → Fine s caller → length caller.heap ≤ length w.heap → Fine s w
      → Fine s (outside caller w)
  outside-fine caller w before more fine = record {
    globals = fine.globals;
    locals = entries_more s caller.locals more before.locals;
    this = known_more s caller.this more before.this;
    heap = fine.heap;
    objects = fine.objects;
  }

  -- ---- answers of a host

  answered-stays : (w : World) → Fine s w → (arguments : List Value) → (next : Next Value)
      → Onward s (length w.heap) (Known s) next → (answer : HostAnswer) (heap : List ObjectState)
      → IsAnswer heap answer → KeepsHeap w.heap arguments heap → AnswerPasses s.good answer
      → IsFit s.good heap → Stays s (answered w next answer heap)
  answered-stays w fine arguments next onward answer heap is keeps passes fit = go answer is passes
    where
      after : Fine s (record w { heap = heap })
      after = fine-heap s w heap keeps.objects fit fine

      go : (answer : HostAnswer) → IsAnswer heap answer → AnswerPasses s.good answer
          → Stays s (answered w next answer heap)
      go (host.Value value) is passes =
          onward.on value (record w { heap = heap }) after keeps.objects
          (record { live = is.1; passes = passes })
      go host.Ended is passes = over s (record w { heap = heap }) after
      go host.NotCallable is passes = over s (record w { heap = heap }) after

  host_call-keeps : {count : ℕ} (reference : HostRef) (key : List ℕ) (arguments : List Value)
      → Known s count (Host reference) → AllKnown s count arguments
      → Keeps s count (Known s) (λ w next. Calls reference key arguments w.heap (answered w next))
  host_call-keeps reference key arguments known all = record {
    ends = λ w fine h next onward. (
      known.passes,
      handed s w fine arguments (all_more s arguments h all),
      λ answer heap is keeps passes fit.
          answered-stays w fine arguments next onward answer heap is keeps passes fit,
    );
  }

  -- ---- the new object of a `new`

  added-more : (w : World) → length w.heap < length (with_new_object w).heap
  added-more w = omega (arith, length-append w.heap (new_object false ∷ []))

  added-fine : (w : World) → Fine s w → Fine s (with_new_object w)
  added-fine w fine =
      let more : length w.heap < length (with_new_object w).heap = added-more w in
      fine-heap s w (w.heap ++ new_object false ∷ []) (omega arith)
      (record {
        passes = added-holds (λ value. s.good value ≡ true) w.heap (new_object false)
            fine.heap.passes (All-nil (λ property. s.good property.1 ≡ true));
        sound = s.laws.added w.heap false fine.heap.sound;
      })
      fine

  object_or-known : (count : ℕ) (new value : Value) → Known s count new → Known s count value
      → Known s count (object_or new value)
  object_or-known count new (Object object) p q = q
  object_or-known count new _ p q = p

module _ (s : Setting) (functions : List Declared) (body : Body)
    (bodies : (inner : Statements) → Keeps s 0 (Known s) (body inner)) where
  enter-keeps : {count : ℕ} (function : Declared) (this : Value) (arguments : List Value)
      → Known s count this → AllKnown s count arguments
      → Keeps s count (Known s) (enter body function this arguments)
  enter-keeps function this arguments known all = record {
    ends = λ w fine h next onward. if-stays s (nat_lt w.depth most_calls) _ _
        ((bodies function.body).ends (inside function this arguments w)
        (inside-fine s function this arguments w fine (known_more s this h known)
        (all_more s arguments h all))
        (omega arith) _ (record {
          on = λ value v well more given. onward.on value (outside w v)
              (outside-fine s w v fine more well) more given;
        }))
        (over s w fine);
  }

  call_number-keeps : {count : ℕ} (number : ℕ) (this : Value) (arguments : List Value)
      → Known s count this → AllKnown s count arguments
      → Keeps s count (Known s) (call_number functions body number this arguments)
  call_number-keeps number this arguments known all =
      option-keeps s (declared_function functions number)
      (λ function. enter-keeps function this arguments known all)
      (function-keeps s number arguments all)

  pub call_value-keeps : {count : ℕ} (callee : Value) (arguments : List Value)
      → AllKnown s count arguments
      → Keeps s count (Known s) (call_value functions body callee arguments)
  call_value-keeps {count} (Function number) arguments all =
      call_number-keeps number Undefined arguments (simple-known s count Undefined refl) all
  call_value-keeps _ arguments all = stops-keeps s NotCallable

  call_property-keeps : {count : ℕ} (object : ℕ) (key : List ℕ) (arguments : List Value)
      (property : Value) → Known s count (Object object) → AllKnown s count arguments
      → Keeps s count (Known s) (call_property functions body object key arguments property)
  call_property-keeps object key arguments (Function number) known all =
      call_number-keeps number (Object object) arguments known all
  call_property-keeps object key arguments _ known all =
      method-keeps s (Object object) key arguments known all

  pub call_member-keeps : {count : ℕ} (base : Value) (key : List ℕ) (arguments : List Value)
      → Known s count base → AllKnown s count arguments
      → Keeps s count (Known s) (call_member functions body base key arguments)
  call_member-keeps Undefined key arguments known all = stops-keeps s NotObject
  call_member-keeps Null key arguments known all = stops-keeps s NotObject
  call_member-keeps (Object object) key arguments known all = record {
    ends = λ w fine h next onward.
        (call_property-keeps object key arguments (value_of (object_at w.heap object) key) known
        all).ends w fine h next onward;
  }
  call_member-keeps (Host reference) key arguments known all =
      charged-keeps s _ (host_call-keeps s reference key arguments known all)
  call_member-keeps base key arguments known all = method-keeps s base key arguments known all

  construct-keeps : {count : ℕ} (function : Declared) (arguments : List Value)
      → AllKnown s count arguments → Keeps s count (Known s) (construct body function arguments)
  construct-keeps function arguments all = record {
    ends = λ w fine h next onward. if-stays s (nat_lt w.depth most_calls) _ _
        (made w fine (all_more s arguments h all) next onward)
        (over s w fine);
  }
    where
      made : (w : World) → Fine s w → AllKnown s (length w.heap) arguments → (next : Next Value)
          → Onward s (length w.heap) (Known s) next
          → Stays s (construct_as body function (Object (length w.heap)) arguments w next)
      made w fine known next onward =
          let new : Value = Object (length w.heap) in
          let begun : World = with_new_object w in
          let more : length w.heap < length begun.heap = added-more s w in
          let is : Known s (length begun.heap) new
          = object-known s (length begun.heap) (length w.heap) more in
          (bodies function.body).ends (inside function new arguments begun)
          (inside-fine s function new arguments begun (added-fine s w fine) is
          (all_more s arguments (omega arith) known))
          (omega arith) _ (record {
            on = λ value v well later given.
                let enough : length w.heap ≤ length v.heap = omega arith in
                onward.on (object_or new value) (outside w v) (outside-fine s w v fine enough well)
                enough (object_or-known s (length v.heap) new value
                (known_more s new later is) given);
          })

  pub new_value-keeps : {count : ℕ} (callee : Value) (arguments : List Value)
      → AllKnown s count arguments
      → Keeps s count (Known s) (new_value functions body callee arguments)
  new_value-keeps (Function number) arguments all =
      option-keeps s (declared_function functions number)
      (λ function. construct-keeps function arguments all)
      (construction-keeps s number arguments all)
  new_value-keeps _ arguments all = stops-keeps s NotCallable
