-- What a change of the control stack, of the steps or of the heap makes of the rest of a run, of what is live
-- and of how much is left to be done.
use Rattle.std.proofs.Common.{◌≡◌, ◌∙◌, ◌+◌, ◌*◌, ◌-◌, ◌<◌, ◌≤◌, ℕ, List, [], ◌∷◌, length, ap, sym, subst, refl, arith}
use Rattle.std.specs.Prelude.{All, Bool, true, false, IfSome, Option, Some, None, if◌then◌else◌, nat_le}
use Rattle.std.specs.List.{sum_by}
use Rattle.std.proofs.lemmas.Bool.{leb-true}
use Rattle.std.proofs.lemmas.List.Elements.{All-cons, All-head, All-tail, All-weaker}
use Rattle.std.proofs.lemmas.List.Sums.{sum_by-cons}
use Rattle.std.proofs.lemmas.Option.{none-some, same_Some}
use Rattle.es_eval.specs.devices.OpenCalls.{Call, below_last, locals_of, next_item, with_item, with_value, without_item}
use Rattle.es_eval.specs.devices.Slots.{IsSlotOf}
use Rattle.es_frames.specs.Depth.{most_calls}
use Rattle.es_frames.specs.Frames.{behind_first, with_value_in}
use Rattle.es_reader.specs.Programs.{ToldProgram}
use Rattle.es_values.specs.declared.values.Value.{Value}
use Rattle.es_values.specs.declared.values.Value.TheVariants.{Undefined, Null, Bool as Boolean, Number, Str, Object, Function, Host}
use Rattle.es_values.specs.Charges.{Charges}
use Rattle.es_values.specs.Heaps.{IsLive, with_value as with_value_of}
use Rattle.es_values.specs.Objects.{ObjectState}
use Rattle.es_eval.specs.declared.outcomes.Outcome.TheVariants.{Stopped}
use Rattle.es_eval.specs.declared.outcomes.StopCause.TheVariants.{Budget}
use Rattle.es_eval.specs.declared.works.Given.{Given}
use Rattle.es_eval.specs.declared.works.Now.{Now}
use Rattle.es_eval.specs.declared.works.Work.{Work}
use Rattle.es_eval.specs.Actions.{Action, Next, takes}
use Rattle.es_eval.specs.devices.Machines.{IsFrameLive, IsMachine, IsWorkLive, MachineState, Stays, behind_frame, burden, items_of, next_run, rest, run_from, turns_of, values_of_work, world_of}
use Rattle.es_eval.specs.Worlds.{IsNamedLive}
use Rattle.es_eval.specs.devices.Works.{does}
use Rattle.es_eval.specs.Worlds.{World, with_name}
use Rattle.es_eval.specs.Worlds.Run.{Over}
use Rattle.es_eval.proofs.NameLemmas.{live_with_value_in, local_there, local_written}

-- ---- lengths

pub length-with_item : (frames : List Call) (item : Work)
    → length (with_item frames item) ≡ length frames
length-with_item [] item = refl
length-with_item (last ∷ below) item = refl

pub length-without_item : (frames : List Call)
    → length (without_item frames) ≡ length frames
length-without_item [] = refl
length-without_item (last ∷ below) = refl

pub length-with_value : (frames : List Call) (place : ℕ) (value : Value)
    → length (with_value frames place value) ≡ length frames
length-with_value [] place value = refl
length-with_value (last ∷ below) place value = refl

pub some-next_item : (frames : List Call) (item : Work) → next_item frames ≡ Some item
    → 1 ≤ length frames
some-next_item [] item is = absurd (none-some item is)
some-next_item (last ∷ below) item is = omega arith

-- ---- the rest of a run

pub rest-with_item : (programs : List ToldProgram) (frames : List Call) (item : Work)
    → 1 ≤ length frames
    → rest programs (with_item frames item)
    ≡ (λ handed w. does programs item handed w (rest programs frames))
unfolding rest
rest-with_item programs [] item some = absurd (omega arith)
rest-with_item programs (last ∷ below) item some = refl

pub rest-with_value : (programs : List ToldProgram) (frames : List Call) (place : ℕ)
    (value : Value) → rest programs (with_value frames place value) ≡ rest programs frames
unfolding rest
rest-with_value programs [] place value = refl
rest-with_value programs (last ∷ below) place value = refl

frames-next_item : (frames : List Call) (item : Work) → next_item frames ≡ Some item
    → frames ≡ with_item (without_item frames) item
frames-next_item [] item is = absurd (none-some item is)
frames-next_item (last ∷ below) item is = by last.items is
  where
    with : List Work → List Call
    with items = record last { items = items } ∷ below

    by : (items : List Work) → next_item (with items) ≡ Some item
        → with items ≡ with_item (without_item (with items)) item
    by [] h = absurd (none-some item h)
    by (first ∷ others) h = ap (λ work. with (work ∷ others)) (same_Some first item h)

-- the item that is taken
pub rest-next_item : (programs : List ToldProgram) (frames : List Call) (item : Work)
    → next_item frames ≡ Some item
    → rest programs frames
    ≡ (λ handed w. does programs item handed w (rest programs (without_item frames)))
rest-next_item programs [] item is = absurd (none-some item is)
rest-next_item programs (last ∷ below) item is =
    ap (rest programs) (frames-next_item (last ∷ below) item is)
    ∙ rest-with_item programs (without_item (last ∷ below)) item (omega arith)

-- a frame without items
pub rest-no_item : (programs : List ToldProgram) (frames : List Call)
    → next_item frames ≡ None → 1 ≤ length frames
    → rest programs frames ≡ behind_frame programs (below_last frames)
unfolding rest
rest-no_item programs [] none some = absurd (omega arith)
rest-no_item programs (last ∷ below) none some = by last.items none
  where
    with : List Work → List Call
    with items = record last { items = items } ∷ below

    by : (items : List Work) → next_item (with items) ≡ None
        → rest programs (with items) ≡ behind_frame programs below
    by [] h = refl
    by (first ∷ others) h = absurd (none-some first (sym h))

-- ---- worlds

pub world-with_item : (programs : List ToldProgram) (m : MachineState) (item : Work)
    → world_of programs (record m { frames = with_item m.frames item }) ≡ world_of programs m
world-with_item programs m item = by m.frames
  where
    by : (frames : List Call)
        → world_of programs (record m { frames = with_item frames item })
        ≡ world_of programs (record m { frames = frames })
    by [] = refl
    by (last ∷ below) = refl

pub world-without_item : (programs : List ToldProgram) (m : MachineState)
    → world_of programs (record m { frames = without_item m.frames }) ≡ world_of programs m
world-without_item programs m = by m.frames
  where
    by : (frames : List Call)
        → world_of programs (record m { frames = without_item frames })
        ≡ world_of programs (record m { frames = frames })
    by [] = refl
    by (last ∷ below) = refl

-- ---- how much is left

items-with_item : (frames : List Call) (item : Work) → 1 ≤ length frames
    → sum_by items_of (with_item frames item) ≡ sum_by items_of frames + turns_of item
items-with_item [] item some = absurd (omega arith)
items-with_item (last ∷ below) item some =
    let now = sum_by-cons items_of last below in
    let more = sum_by-cons items_of (record last { items = item ∷ last.items }) below in
    let own = sum_by-cons turns_of item last.items in
    omega arith

pub burden-with_item : (m : MachineState) (item : Work) → 1 ≤ length m.frames
    → burden (record m { frames = with_item m.frames item }) ≡ burden m + 2 * turns_of item
unfolding burden
burden-with_item m item some =
    let long = length-with_item m.frames item in
    let items = items-with_item m.frames item some in
    omega arith

pub burden-next_item : (m : MachineState) (item : Work) → next_item m.frames ≡ Some item
    → burden m ≡ burden (record m { frames = without_item m.frames }) + 2 * turns_of item
burden-next_item m item is =
    let there = some-next_item m.frames item is in
    let long = length-without_item m.frames in
    let some : 1 ≤ length (without_item m.frames) = omega arith in
    ap (λ frames. burden (record m { frames = frames })) (frames-next_item m.frames item is)
    ∙ burden-with_item (record m { frames = without_item m.frames }) item some

-- ---- what is live

pub live-stays : (heap more : List ObjectState) (value : Value) → length heap ≤ length more
    → IsLive heap value → IsLive more value
live-stays heap more (Object number) longer live =
    let inside : number < length heap = live in omega arith
live-stays heap more Undefined longer live = tt
live-stays heap more Null longer live = tt
live-stays heap more (Boolean truth) longer live = tt
live-stays heap more (Number number) longer live = tt
live-stays heap more (Str text) longer live = tt
live-stays heap more (Function number) longer live = tt
live-stays heap more (Host reference) longer live = tt

pub work-stays : (heap more : List ObjectState) (item : Work) → length heap ≤ length more
    → IsWorkLive heap item → IsWorkLive more item
work-stays heap more item longer =
    All-weaker (IsLive heap) (IsLive more) (λ value. live-stays heap more value longer)
    (values_of_work item)

pub named-stays : (heap more : List ObjectState) (names : List (List ℕ × Value))
    → length heap ≤ length more → All (IsNamedLive heap) names → All (IsNamedLive more) names
named-stays heap more names longer =
    All-weaker (IsNamedLive heap) (IsNamedLive more)
    (λ named. live-stays heap more named.1 longer) names

frame-stays : (heap more : List ObjectState) → length heap ≤ length more → (frame : Call)
    → IsFrameLive heap frame → IsFrameLive more frame
frame-stays heap more longer frame live = (
  live-stays heap more frame.this longer live.0,
  All-weaker (IsLive heap) (IsLive more) (λ value. live-stays heap more value longer) frame.values
      live.1,
  All-weaker (IsWorkLive heap) (IsWorkLive more) (λ item. work-stays heap more item longer)
      frame.items live.2,
)

pub frames-stay : (heap more : List ObjectState) (frames : List Call)
    → length heap ≤ length more → All (IsFrameLive heap) frames → All (IsFrameLive more) frames
frames-stay heap more frames longer =
    All-weaker (IsFrameLive heap) (IsFrameLive more) (frame-stays heap more longer) frames

pub live_with_item : (heap : List ObjectState) (frames : List Call) (item : Work)
    → All (IsFrameLive heap) frames → IsWorkLive heap item
    → All (IsFrameLive heap) (with_item frames item)
live_with_item heap [] item live new = live
live_with_item heap (last ∷ below) item live new =
    let first : IsFrameLive heap last = All-head (IsFrameLive heap) last below live in
    All-cons (IsFrameLive heap) (record last { items = item ∷ last.items }) below
    (first.0, first.1, All-cons (IsWorkLive heap) item last.items new first.2)
    (All-tail (IsFrameLive heap) last below live)

items-behind : (heap : List ObjectState) (items : List Work) → All (IsWorkLive heap) items
    → All (IsWorkLive heap) (behind_first items)
items-behind heap [] live = live
items-behind heap (first ∷ others) live = All-tail (IsWorkLive heap) first others live

pub live_without_item : (heap : List ObjectState) (frames : List Call)
    → All (IsFrameLive heap) frames → All (IsFrameLive heap) (without_item frames)
live_without_item heap [] live = live
live_without_item heap (last ∷ below) live =
    let first : IsFrameLive heap last = All-head (IsFrameLive heap) last below live in
    All-cons (IsFrameLive heap) (record last { items = behind_first last.items }) below
    (first.0, first.1, items-behind heap last.items first.2)
    (All-tail (IsFrameLive heap) last below live)

first-live : (heap : List ObjectState) (items : List Work) (item : Work)
    → All (IsWorkLive heap) items → next_item (record { this = Undefined; function = None; values = []; items = items } ∷ []) ≡ Some item
    → IsWorkLive heap item
first-live heap [] item live is = absurd (none-some item is)
first-live heap (first ∷ others) item live is =
    subst (IsWorkLive heap) (same_Some first item is) (All-head (IsWorkLive heap) first others live)

pub live_next_item : (heap : List ObjectState) (frames : List Call) (item : Work)
    → All (IsFrameLive heap) frames → next_item frames ≡ Some item → IsWorkLive heap item
live_next_item heap [] item live is = absurd (none-some item is)
live_next_item heap (last ∷ below) item live is =
    first-live heap last.items item (All-head (IsFrameLive heap) last below live).2 is

-- ---- what each machine keeps

pub machine_with_item : (m : MachineState) (frames : List Call) (item : Work)
    → IsMachine m → IsWorkLive m.heap item → frames ≡ with_item m.frames item
    → IsMachine (record m { frames = frames })
machine_with_item m frames item kept live is =
    let long = length-with_item m.frames item in
    let same : length frames ≡ length m.frames = ap length is ∙ long in
    record {
      globals = kept.globals;
      frames = rw is (live_with_item m.heap m.frames item kept.frames live);
      some = subst (λ n. 1 ≤ n) (sym same) kept.some;
      depth = subst (λ n. n ≤ most_calls + 1) (sym same) kept.depth;
      steps = kept.steps;
    }

pub machine_without_item : (m : MachineState) (frames : List Call)
    → IsMachine m → frames ≡ without_item m.frames → IsMachine (record m { frames = frames })
machine_without_item m frames kept is =
    let long = length-without_item m.frames in
    let same : length frames ≡ length m.frames = ap length is ∙ long in
    record {
      globals = kept.globals;
      frames = rw is (live_without_item m.heap m.frames kept.frames);
      some = subst (λ n. 1 ≤ n) (sym same) kept.some;
      depth = subst (λ n. n ≤ most_calls + 1) (sym same) kept.depth;
      steps = kept.steps;
    }

-- the run is told by the world and by what the rest is
pub run-at : (programs : List ToldProgram) (m : MachineState) (next : Now) (w : World)
    (more : Next Given) → rest programs m.frames ≡ more → world_of programs m ≡ w
    → run_from programs m next ≡ next_run programs next w more
run-at programs m next w more behind at = rw (behind, at) refl

-- ---- an item more, and one less

module _ (old new : MachineState) (item : Work)
    (is : new ≡ record old { frames = with_item old.frames item }) where
  pub put-rest : 1 ≤ length old.frames → (programs : List ToldProgram)
      → rest programs new.frames
      ≡ (λ handed w. does programs item handed w (rest programs old.frames))
  put-rest some programs =
      ap (λ m. rest programs m.frames) is ∙ rest-with_item programs old.frames item some

  pub put-world : (programs : List ToldProgram) → world_of programs new ≡ world_of programs old
  put-world programs = ap (world_of programs) is ∙ world-with_item programs old item

  pub put-more : 1 ≤ length old.frames → burden new ≡ burden old + 2 * turns_of item
  put-more some = ap burden is ∙ burden-with_item old item some

pub take-live : (heap : List ObjectState) (frames : List Call) (taken : Option Work)
    → All (IsFrameLive heap) frames → taken ≡ next_item frames
    → IfSome taken (λ item. IsWorkLive heap item)
take-live heap frames None live is = tt
take-live heap frames (Some item) live is = live_next_item heap frames item live (sym is)

pub take-rest : (old new : MachineState) (taken : Option Work)
    → new ≡ record old { frames = without_item old.frames } → taken ≡ next_item old.frames
    → IfSome taken (λ item. (programs : List ToldProgram) → rest programs old.frames
    ≡ (λ handed w. does programs item handed w (rest programs new.frames)))
take-rest old new None e is = tt
take-rest old new (Some item) e is = λ programs.
    subst (λ (m : MachineState). rest programs old.frames
    ≡ (λ handed w. does programs item handed w (rest programs m.frames))) (sym e)
    (rest-next_item programs old.frames item (sym is))

pub take-done : (old : MachineState) (taken : Option Work) → taken ≡ next_item old.frames
    → 1 ≤ length old.frames → taken ≡ None → (programs : List ToldProgram)
    → rest programs old.frames ≡ behind_frame programs (below_last old.frames)
take-done old taken is some none programs =
    rest-no_item programs old.frames (sym is ∙ none) some

pub take-world : (old new : MachineState) → new ≡ record old { frames = without_item old.frames }
    → (programs : List ToldProgram) → world_of programs new ≡ world_of programs old
take-world old new e programs =
    ap (world_of programs) e ∙ world-without_item programs old

pub take-less : (old new : MachineState) (taken : Option Work)
    → new ≡ record old { frames = without_item old.frames } → taken ≡ next_item old.frames
    → IfSome taken (λ item. burden old ≡ burden new + 2 * turns_of item)
take-less old new None e is = tt
take-less old new (Some item) e is =
    let less = burden-next_item old item (sym is) in
    let same = ap burden e in
    omega arith

-- ---- steps

-- where steps are charged, the run goes on or is over
pub charged-runs : {A : Type 0} (m : MachineState) (charge after : ℕ) (taken : Bool)
    → Charges charge (record { left = m.left }) taken (record { left = after })
    → (programs : List ToldProgram) (more : Action A) (next : Next A)
    → takes charge more (world_of programs m) next
    ≡ (if taken then more (world_of programs (record m { left = after })) next
    else Over (Stopped Budget) (world_of programs (record m { left = after })))
charged-runs {A} m charge after taken charges programs more next =
    by (nat_le charge m.left) charges.answer charges.left
  where
    with : ℕ → World
    with left = world_of programs (record m { left = left })

    by : (enough : Bool) → taken ≡ enough
        → after ≡ (if enough then m.left - charge else m.left)
        → (if enough then more (with (m.left - charge)) next
        else Over (Stopped Budget) (with m.left))
        ≡ (if taken then more (with after) next else Over (Stopped Budget) (with after))
    by true e left = rw (e, left) refl
    by false e left = rw (e, left) refl

pub charged-carries : {A : Type 0} (m : MachineState) (charge after : ℕ)
    → Charges charge (record { left = m.left }) true (record { left = after })
    → (programs : List ToldProgram) (found : World → A) (next : Next A)
    → takes charge (λ w go. go (found w) w) (world_of programs m) next
    ≡ next (found (world_of programs (record m { left = after })))
    (world_of programs (record m { left = after }))
charged-carries m charge after charges programs found next =
    charged-runs m charge after true charges programs (λ w go. go (found w) w) next

pub less_left : (left charge after : ℕ) (taken : Bool)
    → Charges charge (record { left = left }) taken (record { left = after }) → after ≤ left
less_left left charge after taken charges = by (nat_le charge left) charges.left
  where
    by : (enough : Bool) → after ≡ (if enough then left - charge else left) → after ≤ left
    by true is = omega arith
    by false is = omega arith

pub machine_with_left : (m : MachineState) (after : ℕ) → IsMachine m → after ≤ m.left
    → IsMachine (record m { left = after })
machine_with_left m after kept less = record {
  globals = kept.globals;
  frames = kept.frames;
  some = kept.some;
  depth = kept.depth;
  steps = let steps = kept.steps in omega arith;
}

-- a step pays for what may be put on the stack
pub burden-step : (m : MachineState) (after : ℕ) (taken : Bool)
    → Charges 1 (record { left = m.left }) taken (record { left = after }) → taken ≡ true
    → burden (record m { left = after }) + 40 ≤ burden m
unfolding burden
burden-step m after taken charges was_taken =
    by (nat_le 1 m.left) refl charges.answer charges.left
  where
    by : (enough : Bool) → nat_le 1 m.left ≡ enough → taken ≡ enough
        → after ≡ (if enough then m.left - 1 else m.left)
        → burden (record m { left = after }) + 40 ≤ burden m
    by true is e left = let some = leb-true 1 m.left is in omega arith
    by false is e left = absurd (cc)

pub stays_where_less : (old : MachineState) (globals : List (List ℕ × Value))
    (heap : List ObjectState) (frames : List Call) (left : ℕ)
    → frames ≡ old.frames → length old.heap ≤ length heap → left ≤ old.left
    → Stays old (record { globals = globals; heap = heap; frames = frames; left = left })
unfolding burden
stays_where_less old globals heap frames left is longer less = record {
  rest = λ programs. ap (rest programs) is;
  less = rw is (omega arith);
  heap = longer;
}

-- ---- names

live-with_slot : (heap : List ObjectState) (frames : List Call) (place : ℕ)
    (value : Value) → All (IsFrameLive heap) frames → IsLive heap value
    → All (IsFrameLive heap) (with_value frames place value)
live-with_slot heap [] place value live new = live
live-with_slot heap (last ∷ below) place value live new =
    let first : IsFrameLive heap last = All-head (IsFrameLive heap) last below live in
    All-cons (IsFrameLive heap)
    (record last { values = with_value_in last.values place value }) below
    (first.0, live_with_value_in heap last.values place value first.1 new, first.2)
    (All-tail (IsFrameLive heap) last below live)

items-with_value : (frames : List Call) (place : ℕ) (value : Value)
    → sum_by items_of (with_value frames place value) ≡ sum_by items_of frames
items-with_value [] place value = refl
items-with_value (last ∷ below) place value =
    sum_by-cons items_of (record last { values = with_value_in last.values place value }) below
    ∙ sym (sum_by-cons items_of last below)

burden-with_value : (m : MachineState) (place : ℕ) (value : Value)
    → burden (record m { frames = with_value m.frames place value }) ≡ burden m
unfolding burden
burden-with_value m place value =
    let long = length-with_value m.frames place value in
    let items = items-with_value m.frames place value in
    omega arith

world-with_slots : (programs : List ToldProgram) (m : MachineState) (place : ℕ) (value : Value)
    → world_of programs (record m { frames = with_value m.frames place value })
    ≡ record (world_of programs m) {
      locals = locals_of programs (with_value m.frames place value);
    }
world-with_slots programs m place value = by m.frames
  where
    by : (frames : List Call)
        → world_of programs (record m { frames = with_value frames place value })
        ≡ record (world_of programs (record m { frames = frames })) {
          locals = locals_of programs (with_value frames place value);
        }
    by [] = refl
    by (last ∷ below) = refl

-- a local that is written
module _ (m : MachineState) (frames : List Call) (place : ℕ) (value : Value)
    (is : frames ≡ with_value m.frames place value) where
  pub machine_with_value : IsMachine m → IsLive m.heap value
      → IsMachine (record m { frames = frames })
  machine_with_value kept live =
      let long = length-with_value m.frames place value in
      let same : length frames ≡ length m.frames = ap length is ∙ long in
      record {
        globals = kept.globals;
        frames = rw is (live-with_slot m.heap m.frames place value kept.frames live);
        some = subst (λ n. 1 ≤ n) (sym same) kept.some;
        depth = subst (λ n. n ≤ most_calls + 1) (sym same) kept.depth;
        steps = kept.steps;
      }

  pub stays-with_value : Stays m (record m { frames = frames })
  stays-with_value = rw is record {
    rest = λ programs. rest-with_value programs m.frames place value;
    less = omega (arith, burden-with_value m place value);
    heap = omega arith;
  }

  pub world-with_value : (programs : List ToldProgram) (name : List ℕ)
      → IsSlotOf programs m.frames name (Some place)
      → world_of programs (record m { frames = frames })
      ≡ with_name name value (world_of programs m)
  world-with_value programs name slot =
      let there = local_there name programs m.frames place slot in
      let written = local_written name programs m.frames place value slot in
      rw (is, world-with_slots programs m place value, written, there) refl

-- a global that is written
pub world-with_global : (programs : List ToldProgram) (m : MachineState) (name : List ℕ)
    (value : Value) → IsSlotOf programs m.frames name None
    → world_of programs (record m { globals = with_value_of m.globals name value })
    ≡ with_name name value (world_of programs m)
world-with_global programs m name value none = rw none refl

pub machine_with_globals : (m : MachineState) (globals : List (List ℕ × Value)) → IsMachine m
    → All (IsNamedLive m.heap) globals → IsMachine (record m { globals = globals })
machine_with_globals m globals kept live = record {
  globals = live;
  frames = kept.frames;
  some = kept.some;
  depth = kept.depth;
  steps = kept.steps;
}
