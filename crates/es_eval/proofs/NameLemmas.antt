-- Names with values: what the place of a local says of its value, and what of them is live.
use Rattle.std.proofs.Common.{◌≡◌, ◌∙◌, ◌+◌, ℕ, zero, suc, List, [], ◌∷◌, ap, sym, subst, refl, arith}
use Rattle.std.specs.Prelude.{All, Bool, true, false, IfSome, Option, Some, None, if◌then◌else◌, is_some, slice_get, slice_set, Result, Ok, Err, OnOk, OnErr}
use Rattle.std.specs.List.{position, position_from}
use Rattle.std.specs.Map.{lookup}
use Rattle.std.proofs.lemmas.Iterator.Adapters.{position_from-zero}
use Rattle.std.proofs.lemmas.List.Elements.{All-cons, All-head, All-nil, All-set, All-tail}
use Rattle.std.proofs.lemmas.Option.{none-some, same_Some}
use Rattle.bml_bytes.specs.Words.{is_same}
use Rattle.es_eval.specs.devices.Slots.{IsSlotOf}
use Rattle.es_eval.specs.devices.OpenCalls.{Call, function_of, locals_of, named_values, names_in, this_of, value_at, values_of, with_value as with_value_at}
use Rattle.es_frames.specs.Frames.{with_value_in}
use Rattle.es_reader.specs.Programs.{ToldProgram}
use Rattle.es_values.specs.declared.values.Value.{Value}
use Rattle.es_values.specs.Heaps.{IsLive, with_value}
use Rattle.es_values.specs.Objects.{ObjectState}
use Rattle.es_eval.specs.devices.Machines.{AreLive, IsFrameLive}
use Rattle.es_eval.specs.Worlds.{IsNamedLive}

-- ---- places of names

-- the name stands at this place of the names
record IsAt (name : List ℕ) (names : List (List ℕ)) (values : List Value) (place : ℕ) : Type 0 where
  value : slice_get values place ≡ lookup (is_same name) (named_values names values)
  written : (before value : Value) → slice_get values place ≡ Some before
      → named_values names (slice_set values place value)
      ≡ with_value (named_values names values) name value

module _ (name : List ℕ) where
  -- from a place on
  at_from : (names : List (List ℕ)) (values : List Value) (first place : ℕ)
      → position_from (is_same name) first names ≡ Some place
      → (behind : ℕ) × (place ≡ first + behind) × IsAt name names values behind
  at_from [] values first place is = absurd (none-some place is)
  at_from (other ∷ names) values first place is =
      by (is_same name other) refl values (λ values. at_from names values (first + 1) place) is
    where
      by : (here : Bool) → is_same name other ≡ here → (values : List Value)
          → ((values : List Value) → position_from (is_same name) (first + 1) names ≡ Some place
          → (behind : ℕ) × (place ≡ first + 1 + behind) × IsAt name names values behind)
          → (if here then Some first else position_from (is_same name) (first + 1) names) ≡ Some place
          → (behind : ℕ) × (place ≡ first + behind) × IsAt name (other ∷ names) values behind
      by true e [] more h =
          let same = same_Some first place h in (
            0,
            omega arith,
            record { value = refl; written = λ before value at. absurd (none-some before at) },
          )
      by true e (first_value ∷ values) more h =
          let same = same_Some first place h in (
            0,
            omega arith,
            record { value = rw e refl; written = λ before value at. rw e refl },
          )
      by false e [] more h =
          let found = more [] h in
          let far = found.1 in (
            suc found.0,
            omega arith,
            record { value = refl; written = λ before value at. absurd (none-some before at) },
          )
      by false e (first_value ∷ values) more h =
          let found = more values h in
          let far = found.1 in
          let at = found.2 in (
            suc found.0,
            omega arith,
            record {
              value = rw e at.value;
              written = λ before value there.
                  rw e (ap (λ others. (other, first_value) ∷ others) (at.written before value there));
            },
          )

  none_from : (names : List (List ℕ)) (values : List Value) (first : ℕ)
      → position_from (is_same name) first names ≡ None
      → lookup (is_same name) (named_values names values) ≡ None
  none_from [] values first is = refl
  none_from (other ∷ names) [] first is = refl
  none_from (other ∷ names) (value ∷ values) first is =
      by (is_same name other) (none_from names values (first + 1)) is
    where
      by : (here : Bool)
          → (position_from (is_same name) (first + 1) names ≡ None
          → lookup (is_same name) (named_values names values) ≡ None)
          → (if here then Some first else position_from (is_same name) (first + 1) names) ≡ None
          → (if here then Some value else lookup (is_same name) (named_values names values)) ≡ None
      by true more h = absurd (none-some first (sym h))
      by false more h = more h

  at_place : (names : List (List ℕ)) (values : List Value) (place : ℕ)
      → position (is_same name) names ≡ Some place → IsAt name names values place
  at_place names values place is =
      let found = at_from names values 0 place
      (sym (position_from-zero (is_same name) names) ∙ is) in
      let far = found.1 in
      subst (IsAt name names values) (omega arith) found.2

  module _ (programs : List ToldProgram) where
    pub no_local : (frames : List Call)
        → position (is_same name) (names_in programs (function_of frames)) ≡ None
        → lookup (is_same name) (locals_of programs frames) ≡ None
    no_local [] is = refl
    no_local (last ∷ below) is =
        none_from (names_in programs last.function) last.values 0
        (sym (position_from-zero (is_same name) (names_in programs last.function)) ∙ is)

    pub local_at : (frames : List Call) (place : ℕ)
        → position (is_same name) (names_in programs (function_of frames)) ≡ Some place
        → value_at frames place ≡ lookup (is_same name) (locals_of programs frames)
    local_at [] place is = absurd (none-some place is)
    local_at (last ∷ below) place is =
        (at_place (names_in programs last.function) last.values place is).value

    pub no_value : (frames : List Call) (place : ℕ)
        → position (is_same name) (names_in programs (function_of frames)) ≡ Some place
        → value_at frames place ≡ None → IsSlotOf programs frames name None
    no_value frames place is none = sym (local_at frames place is) ∙ none

    pub local_there : (frames : List Call) (place : ℕ) → IsSlotOf programs frames name (Some place)
        → is_some (lookup (is_same name) (locals_of programs frames)) ≡ true
    local_there frames place is = ap is_some (sym (local_at frames place is.1) ∙ is.2)

    pub local_written : (frames : List Call) (place : ℕ) (value : Value)
        → IsSlotOf programs frames name (Some place)
        → locals_of programs (with_value_at frames place value)
        ≡ with_value (locals_of programs frames) name value
    local_written [] place value is = absurd (none-some place is.1)
    local_written (last ∷ below) place value is =
        (at_place (names_in programs last.function) last.values place is.1).written is.0 value is.2

-- ---- what is live

pub live_found : (heap : List ObjectState) (names : List (List ℕ × Value)) (name : List ℕ)
    (found : Option Value) → All (IsNamedLive heap) names
    → found ≡ lookup (is_same name) names → IfSome found (λ value. IsLive heap value)
live_found heap [] name None live is = tt
live_found heap [] name (Some value) live is = absurd (none-some value (sym is))
live_found heap (first ∷ others) name found live is =
    by (is_same name first.0)
    (live_found heap others name found (All-tail (IsNamedLive heap) first others live)) is
  where
    by : (here : Bool)
        → (found ≡ lookup (is_same name) others → IfSome found (λ value. IsLive heap value))
        → found ≡ (if here then Some first.1 else lookup (is_same name) others)
        → IfSome found (λ value. IsLive heap value)
    by true more h =
        subst (λ other. IfSome other (λ value. IsLive heap value)) (sym h)
        (All-head (IsNamedLive heap) first others live)
    by false more h = more h

live_with_value : (heap : List ObjectState) (names : List (List ℕ × Value)) (name : List ℕ)
    (value : Value) → All (IsNamedLive heap) names → IsLive heap value
    → All (IsNamedLive heap) (with_value names name value)
live_with_value heap [] name value live new =
    All-cons (IsNamedLive heap) (name, value) [] new live
live_with_value heap (first ∷ others) name value live new =
    by (is_same name first.0)
    (live_with_value heap others name value (All-tail (IsNamedLive heap) first others live) new)
  where
    by : (here : Bool) → All (IsNamedLive heap) (with_value others name value)
        → All (IsNamedLive heap)
        (if here then (first.0, value) ∷ others else first ∷ with_value others name value)
    by true more =
        All-cons (IsNamedLive heap) (first.0, value) others new
        (All-tail (IsNamedLive heap) first others live)
    by false more =
        All-cons (IsNamedLive heap) first (with_value others name value)
        (All-head (IsNamedLive heap) first others live) more

pub live_values : (heap : List ObjectState) (frames : List Call)
    → All (IsFrameLive heap) frames → AreLive heap (values_of frames)
live_values heap [] live = All-nil (IsLive heap)
live_values heap (last ∷ below) live = (All-head (IsFrameLive heap) last below live).1

live_in : (heap : List ObjectState) (values : List Value) (place : ℕ) (value : Value)
    → AreLive heap values → slice_get values place ≡ Some value → IsLive heap value
live_in heap [] place value live is = absurd (none-some value is)
live_in heap (first ∷ others) zero value live is =
    subst (IsLive heap) (same_Some first value is) (All-head (IsLive heap) first others live)
live_in heap (first ∷ others) (suc place) value live is =
    live_in heap others place value (All-tail (IsLive heap) first others live) is

pub live_at : (heap : List ObjectState) (frames : List Call) (place : ℕ) (value : Value)
    → All (IsFrameLive heap) frames → value_at frames place ≡ Some value → IsLive heap value
live_at heap frames place value live is =
    live_in heap (values_of frames) place value (live_values heap frames live) is

pub live_this : (heap : List ObjectState) (frames : List Call) (value : Value)
    → All (IsFrameLive heap) frames → Some value ≡ this_of frames → IsLive heap value
live_this heap [] value live is = absurd (none-some value (sym is))
live_this heap (last ∷ below) value live is =
    subst (IsLive heap) (sym (same_Some value last.this is))
    (All-head (IsFrameLive heap) last below live).0

pub live_global : (heap : List ObjectState) (names : List (List ℕ × Value)) (name : List ℕ)
    (value : Value) → All (IsNamedLive heap) names → lookup (is_same name) names ≡ Some value
    → IsLive heap value
live_global heap names name value live is =
    live_found heap names name (Some value) live (sym is)

pub live_with_value_in : (heap : List ObjectState) (values : List Value) (place : ℕ)
    (value : Value) → AreLive heap values → IsLive heap value
    → AreLive heap (with_value_in values place value)
live_with_value_in heap values place value live new = All-set (IsLive heap) values place value new live

-- a name that is written, where there was memory
pub live_written : {E : Type 0} (heap : List ObjectState) (old new : List (List ℕ × Value))
    (name : List ℕ) (value : Value) (answer : Result (Unit {0}) E)
    → OnOk answer (new ≡ with_value old name value) → OnErr answer (new ≡ old)
    → All (IsNamedLive heap) old → IsLive heap value → All (IsNamedLive heap) new
live_written heap old new name value (Ok done) ok err live put =
    subst (All (IsNamedLive heap)) (sym ok) (live_with_value heap old name value live put)
live_written heap old new name value (Err refusal) ok err live put =
    subst (All (IsNamedLive heap)) (sym err) live
