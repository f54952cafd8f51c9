-- A call that is opened: its first places are given the arguments.
use Rattle.std.proofs.Common.{◌≡◌, ◌∙◌, ◌+◌, ◌-◌, ◌≤◌, ℕ, zero, suc, List, [], ◌∷◌, ◌++◌, length, take, ap, sym, refl, arith, append_assoc, length-append}
use Rattle.std.specs.Prelude.{Option, Some, replicate}
use Rattle.std.proofs.lemmas.List.{length_push, set_past}
use Rattle.std.proofs.Math.Seq.{set-append_seam}
use Rattle.std.proofs.lemmas.List.Elements.{All-cons, All-head, All-nil, All-tail}
use Rattle.std.proofs.lemmas.List.Sums.{sum_by-cons}
use Rattle.es_eval.specs.devices.OpenCalls.{Call, named_values, names_at, with_value}
use Rattle.es_values.specs.declared.values.Value.{Value}
use Rattle.es_values.specs.declared.values.Value.TheVariants.{Undefined}
use Rattle.es_values.specs.Heaps.{IsLive}
use Rattle.es_values.specs.Objects.{ObjectState}
use Rattle.es_reader.specs.Programs.{ToldProgram}
use Rattle.es_frames.specs.Depth.{most_calls}
use Rattle.es_shapes.specs.declared.functions.Declared.{Declared}
use Rattle.es_eval.specs.declared.works.Work.{Work}
use Rattle.es_eval.specs.Calls.{bound}
use Rattle.es_eval.specs.devices.Machines.{AreLive, IsFrameLive, IsMachine, IsWorkLive, MachineState, behind_frame, burden, items_of, rest, world_of}
use Rattle.es_eval.specs.devices.Slots.{with_values}
use Rattle.es_eval.specs.Worlds.{World}

-- ---- one value more

values-more : (frames : List Call) (place : ℕ) (values : List Value) (value : Value)
    → with_values frames place (values ++ value ∷ [])
    ≡ with_value (with_values frames place values) (place + length values) value
values-more frames place [] value =
    let same : place ≡ place + 0 = omega arith in ap (λ at. with_value frames at value) same
values-more frames place (first ∷ others) value =
    let far : place + 1 + length others ≡ place + length (first ∷ others) = omega arith in
    values-more (with_value frames place first) (place + 1) others value
    ∙ ap (λ at. with_value (with_values (with_value frames place first) (place + 1) others) at value)
    far

pub values_more : (old now new : List Call) (place : ℕ) (values : List Value)
    (value : Value) → now ≡ with_values old 0 values → place ≡ length values
    → new ≡ with_value now place value → new ≡ with_values old 0 (values ++ value ∷ [])
values_more old now new place values value done counted is =
    let far : place ≡ 0 + length values = omega arith in
    is ∙ rw (done, far) (sym (values-more old 0 values value))

-- ---- a call with values in its first places

-- those of a call: the arguments, as far as there are parameters, and Undefined
abbrev pub filled : List (List ℕ) → ℕ → List Value → List Value
filled [] parameters arguments = []
filled (name ∷ names) zero arguments = Undefined ∷ filled names zero arguments
filled (name ∷ names) (suc more) [] = Undefined ∷ filled names more []
filled (name ∷ names) (suc more) (value ∷ arguments) = value ∷ filled names more arguments

-- by the names they are the locals of the definition
pub named-filled : (names : List (List ℕ)) (parameters : ℕ) (arguments : List Value)
    → named_values names (filled names parameters arguments) ≡ bound names parameters arguments
named-filled [] parameters arguments = refl
named-filled (name ∷ names) zero arguments =
    ap (λ others. (name, Undefined) ∷ others) (named-filled names zero arguments)
named-filled (name ∷ names) (suc more) [] =
    ap (λ others. (name, Undefined) ∷ others) (named-filled names more [])
named-filled (name ∷ names) (suc more) (value ∷ arguments) =
    ap (λ others. (name, value) ∷ others) (named-filled names more arguments)

filled-zero : (names : List (List ℕ)) (arguments : List Value)
    → filled names 0 arguments ≡ replicate (length names) Undefined
filled-zero [] arguments = refl
filled-zero (name ∷ names) arguments =
    ap (λ others. Undefined ∷ others) (filled-zero names arguments)

filled-absent : (names : List (List ℕ)) (parameters : ℕ)
    → filled names parameters [] ≡ replicate (length names) Undefined
filled-absent [] parameters = refl
filled-absent (name ∷ names) zero = filled-zero (name ∷ names) []
filled-absent (name ∷ names) (suc more) =
    ap (λ others. Undefined ∷ others) (filled-absent names more)

module _ (function : Option Declared) (this : Value) (items : List Work) (below : List Call) where
  with : List Value → List Call
  with values = record { function = function; this = this; values = values; items = items } ∷ below

  values-past : (there : List Value) (place : ℕ) (values : List Value) → length there ≤ place
      → with_values (with there) place values ≡ with there
  unfolding with
  values-past there place [] past = refl
  values-past there place (value ∷ values) past =
      ap (λ left. with_values (with left) (place + 1) values) (set_past there place value past)
      ∙ values-past there (place + 1) values (omega arith)

  values-filled : (names : List (List ℕ)) (parameters : ℕ) (arguments done : List Value)
      → with_values (with (done ++ replicate (length names) Undefined)) (length done)
      (take parameters arguments) ≡ with (done ++ filled names parameters arguments)
  unfolding with
  values-filled [] parameters arguments done =
      let long = length-append done [] in
      values-past (done ++ []) (length done) (take parameters arguments) (omega arith)
  values-filled (name ∷ names) zero arguments done =
      ap (λ values. with (done ++ values)) (sym (filled-zero (name ∷ names) arguments))
  values-filled (name ∷ names) (suc more) [] done =
      ap (λ values. with (done ++ values)) (sym (filled-absent (name ∷ names) (suc more)))
  values-filled (name ∷ names) (suc more) (value ∷ arguments) done =
      let others : List Value = replicate (length names) Undefined in
      let first : List Value = value ∷ [] in
      ap (λ values. with_values (with values) (length done + 1) (take more arguments))
      (set-append_seam done Undefined others value ∙ sym (append_assoc done first others))
      ∙ (ap (λ place. with_values (with ((done ++ first) ++ others)) place (take more arguments))
      (sym (length_push done value))
      ∙ (values-filled names more arguments (done ++ first)
      ∙ ap with (append_assoc done first (filled names more arguments))))

-- a call before its arguments
abbrev pub fresh : Declared → List (List ℕ) → Value → Call
fresh declared names this = record {
  function = Some declared;
  this = this;
  values = replicate (length names) Undefined;
  items = [];
}

-- and behind them
abbrev pub open_call : Declared → List (List ℕ) → Value → ℕ → List Value → Call
open_call declared names this parameters arguments = record {
  function = Some declared;
  this = this;
  values = filled names parameters arguments;
  items = [];
}

pub call_filled : (declared : Declared) (names : List (List ℕ)) (this : Value)
    (below : List Call) (parameters : ℕ) (arguments : List Value)
    → with_values (fresh declared names this ∷ below) 0 (take parameters arguments)
    ≡ open_call declared names this parameters arguments ∷ below
unfolding with
call_filled declared names this below parameters arguments =
    values-filled (Some declared) this [] below names parameters arguments []

-- ---- what is live

live-filled : (heap : List ObjectState) (names : List (List ℕ)) (parameters : ℕ)
    (arguments : List Value) → AreLive heap arguments
    → AreLive heap (filled names parameters arguments)
live-filled heap [] parameters arguments live = All-nil (IsLive heap)
live-filled heap (name ∷ names) zero arguments live =
    All-cons (IsLive heap) Undefined (filled names 0 arguments) tt
    (live-filled heap names 0 arguments live)
live-filled heap (name ∷ names) (suc more) [] live =
    All-cons (IsLive heap) Undefined (filled names more []) tt
    (live-filled heap names more [] live)
live-filled heap (name ∷ names) (suc more) (value ∷ arguments) live =
    All-cons (IsLive heap) value (filled names more arguments)
    (All-head (IsLive heap) value arguments live)
    (live-filled heap names more arguments (All-tail (IsLive heap) value arguments live))

-- ---- the call more

module _ (m : MachineState) (frames : List Call) (declared : Declared) (names : List (List ℕ))
    (this : Value) (parameters : ℕ) (arguments : List Value)
    (is : frames
    ≡ with_values (fresh declared names this ∷ m.frames) 0 (take parameters arguments)) where
  opened : frames ≡ open_call declared names this parameters arguments ∷ m.frames
  opened = is ∙ call_filled declared names this m.frames parameters arguments

  pub machine_opened : IsMachine m → length m.frames ≤ most_calls → IsLive m.heap this
      → AreLive m.heap arguments → IsMachine (record m { frames = frames })
  machine_opened kept shallow live_this live = rw opened record {
    globals = kept.globals;
    frames =
        All-cons (IsFrameLive m.heap) (open_call declared names this parameters arguments) m.frames (
          live_this,
          live-filled m.heap names parameters arguments live,
          All-nil (IsWorkLive m.heap),
        ) kept.frames;
    some = omega arith;
    depth = omega arith;
    steps = kept.steps;
  }

  pub world_opened : 1 ≤ length m.frames → (programs : List ToldProgram)
      → names_at programs declared ≡ names
      → world_of programs (record m { frames = frames }) ≡ record (world_of programs m) {
        locals = bound names parameters arguments;
        this = this;
        depth = (world_of programs m).depth + 1;
      }
  world_opened some programs told =
      let deep : suc (length m.frames) - 1 ≡ length m.frames - 1 + 1 = omega arith in
      rw opened
      (ap (λ own. with_locals (named_values own (filled names parameters arguments))
      (suc (length m.frames) - 1)) told
      ∙ ap (λ locals. with_locals locals (suc (length m.frames) - 1))
      (named-filled names parameters arguments)
      ∙ ap (with_locals (bound names parameters arguments)) deep)
    where
      with_locals : List (List ℕ × Value) → ℕ → World
      with_locals locals depth =
          record (world_of programs m) { locals = locals; this = this; depth = depth }

  pub burden_opened : burden (record m { frames = frames }) ≤ burden m + 1
  unfolding burden
  burden_opened =
      let more = sum_by-cons items_of (open_call declared names this parameters arguments) m.frames in
      rw opened (omega arith)

pub rest_opened : (below frames : List Call) (declared : Declared) (names : List (List ℕ))
    (this : Value) (parameters : ℕ) (arguments : List Value)
    → frames ≡ with_values (fresh declared names this ∷ below) 0 (take parameters arguments)
    → (programs : List ToldProgram) → rest programs frames ≡ behind_frame programs below
unfolding rest
rest_opened below frames declared names this parameters arguments is programs =
    ap (rest programs) (is ∙ call_filled declared names this below parameters arguments)
