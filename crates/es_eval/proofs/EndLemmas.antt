-- What the end of a call makes of a run, and where a script is at its end.
use Rattle.std.proofs.Common.{◌≡◌, ◌∙◌, ◌+◌, ◌≤◌, List, [], ◌∷◌, length, ap, sym, subst, refl, arith}
use Rattle.std.specs.Prelude.{All}
use Rattle.std.proofs.lemmas.List.Elements.{All-tail}
use Rattle.std.proofs.lemmas.List.Sums.{sum_by-cons}
use Rattle.es_eval.specs.devices.OpenCalls.{Call, below_last}
use Rattle.es_reader.specs.Programs.{ToldProgram}
use Rattle.es_values.specs.Objects.{ObjectState}
use Rattle.es_eval.specs.declared.outcomes.Outcome.TheVariants.{Normal as AtEnd}
use Rattle.es_values.specs.declared.values.Value.{Value}
use Rattle.es_eval.specs.declared.works.Given.{Given}
use Rattle.es_eval.specs.declared.works.Given.TheVariants as given
use Rattle.es_eval.specs.declared.works.StatementWork.{StatementWork}
use Rattle.es_eval.specs.declared.works.StatementWork.TheVariants as statement
use Rattle.es_eval.specs.declared.works.Work.{Work}
use Rattle.es_eval.specs.declared.works.Work.TheVariants as work
use Rattle.es_eval.specs.Actions.{Next}
use Rattle.es_eval.specs.devices.Works.{does}
use Rattle.es_eval.specs.declared.works.Now.TheVariants.{Gives}
use Rattle.es_eval.specs.devices.Machines.{GoesPast, IsFrameLive, IsMachine, MachineState, behind_frame, burden, items_of, items_rest, outside_of, rest, run_from, value_of_call, world_of}
use Rattle.es_eval.specs.Worlds.{World}
use Rattle.es_eval.specs.Worlds.Run.{Over}

behind-call : (programs : List ToldProgram) (below : List Call) (handed : Given)
    (w : World) → 1 ≤ length below
    → behind_frame programs below handed w
    ≡ rest programs below (value_of_call handed) (outside_of programs below w)
unfolding rest behind_frame
behind-call programs [] handed w some = absurd (omega arith)
behind-call programs (caller ∷ below) handed w some = refl

behind-all : (programs : List ToldProgram) (below : List Call) (handed : Given)
    (w : World) → length below ≡ 0 → behind_frame programs below handed w ≡ Over AtEnd w
unfolding behind_frame
behind-all programs [] handed w none = refl
behind-all programs (caller ∷ below) handed w none = absurd (omega arith)

length-below : (frames : List Call) → 1 ≤ length frames
    → length (below_last frames) + 1 ≡ length frames
length-below [] some = absurd (omega arith)
length-below (last ∷ below) some = omega arith

live-below : (heap : List ObjectState) (frames : List Call)
    → All (IsFrameLive heap) frames → All (IsFrameLive heap) (below_last frames)
live-below heap [] live = live
live-below heap (last ∷ below) live = All-tail (IsFrameLive heap) last below live

module _ (programs : List ToldProgram) (m : MachineState) (handed : Given)
    (past : GoesPast programs m.frames handed) where
  -- the value goes to the call below
  pub leaves : 2 ≤ length m.frames
      → run_from programs m (Gives handed)
      ≡ run_from programs (record m { frames = below_last m.frames })
      (Gives (value_of_call handed))
  leaves more =
      let below = length-below m.frames (omega arith) in
      past (world_of programs m)
      ∙ behind-call programs (below_last m.frames) handed (world_of programs m) (omega arith)

  -- behind the lowest call the script is at its end
  pub ends : length m.frames ≡ 1 → run_from programs m (Gives handed) ≡ Over AtEnd (world_of programs m)
  ends one =
      let below = length-below m.frames (omega arith) in
      past (world_of programs m)
      ∙ behind-all programs (below_last m.frames) handed (world_of programs m) (omega arith)

-- what is returned goes past each item
returned-on : (programs : List ToldProgram) (item : Work) (value : Value) (w : World)
    (next : Next Given)
    → does programs item (given.Returned value) w next ≡ next (given.Returned value) w
returned-on programs (work.Operand item) value w next = refl
returned-on programs (work.Member item) value w next = refl
returned-on programs (work.Call item) value w next = refl
returned-on programs (work.Target item) value w next = refl
returned-on programs (work.Statement item) value w next = by item
  where
    by : (item : StatementWork)
        → does programs (work.Statement item) (given.Returned value) w next
        ≡ next (given.Returned value) w
    by (statement.Statements listing place) = refl
    by statement.Discard = refl
    by (statement.Declared name code place) = refl
    by (statement.If body) = refl
    by (statement.IfElse body other) = refl
    by (statement.Test loop) = refl
    by (statement.Body loop) = refl
    by (statement.NextTurn loop) = refl
    by (statement.Object visitor body) = refl
    by (statement.Visiting visit) = refl
    by statement.Return = refl

returned-through : (programs : List ToldProgram) (items : List Work) (value : Value) (w : World)
    (behind : Next Given)
    → items_rest programs items behind (given.Returned value) w ≡ behind (given.Returned value) w
returned-through programs [] value w behind = refl
returned-through programs (item ∷ items) value w behind =
    returned-on programs item value w (items_rest programs items behind)
    ∙ returned-through programs items value w behind

pub returned_past : (programs : List ToldProgram) (frames : List Call) (value : Value)
    → GoesPast programs frames (given.Returned value)
unfolding rest behind_frame
returned_past programs [] value w = refl
returned_past programs (last ∷ below) value w =
    returned-through programs last.items value w (behind_frame programs below)

pub burden-below : (m : MachineState) → 1 ≤ length m.frames
    → burden (record m { frames = below_last m.frames }) + 1 ≤ burden m
unfolding burden
burden-below m some = by m.frames some
  where
    by : (frames : List Call) → 1 ≤ length frames
        → burden (record m { frames = below_last frames }) + 1 ≤ burden (record m { frames = frames })
    by [] h = absurd (omega arith)
    by (last ∷ below) h = let all = sum_by-cons items_of last below in omega arith

-- ---- the frame of a call is closed

module _ (m : MachineState) (frames : List Call) (is : frames ≡ below_last m.frames)
    (more : 2 ≤ length m.frames) where
  pub closed-run : (programs : List ToldProgram) (handed : Given)
      → GoesPast programs m.frames handed
      → run_from programs m (Gives handed)
      ≡ run_from programs (record m { frames = frames }) (Gives (value_of_call handed))
  closed-run programs handed past =
      leaves programs m handed past more
      ∙ ap (λ below. run_from programs (record m { frames = below })
      (Gives (value_of_call handed))) (sym is)

  pub closed-less : burden (record m { frames = frames }) + 1 ≤ burden m
  closed-less = subst (λ below. burden (record m { frames = below }) + 1 ≤ burden m) (sym is)
      (burden-below m (omega arith))

  pub closed-machine : IsMachine m → IsMachine (record m { frames = frames })
  closed-machine kept =
      let long = length-below m.frames (omega arith) in
      let same : length frames ≡ length (below_last m.frames) = ap length is in
      let depth = kept.depth in
      record {
        globals = kept.globals;
        frames = subst (All (IsFrameLive m.heap)) (sym is) (live-below m.heap m.frames kept.frames);
        some = omega arith;
        depth = omega arith;
        steps = kept.steps;
      }
