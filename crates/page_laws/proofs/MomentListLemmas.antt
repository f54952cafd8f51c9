-- All that comes to a receiver are moments of its page.
use Rattle.std.proofs.Common.{◌≡◌, ◌∙◌, ℕ, zero, suc, ◌+◌, List, [], ◌∷◌, ◌++◌, Option, Some, None, refl, sym, ap}
use Rattle.std.specs.Prelude.{replicate}
use Rattle.std.specs.Option.{option_map_or}
use Rattle.carousel_blocks.specs.declared.changes.Change.{Change}
use Rattle.module_locks.specs.Locks.{with_map, with_section}
use Rattle.page.specs.Dispatches.{dispatch, dispatches, most_dispatches, next_and, turn}
use Rattle.page.specs.Inputs.{change_step}
use Rattle.page.specs.State.{State, Step}
use Rattle.receiver_core.specs.Outputs.{Input, state_behind}
use Rattle.receiver_core.specs.State as receiver
use Rattle.page_laws.specs.Moments.{Moment, Dispatches, HasChange, HasMessage, HasKey, IsDue, HasClock, HasRandom, HasDate, HasModules, after, after_all}
use Rattle.page_laws.proofs.ReceiverLemmas.{PageLaws, behind-kept}
use Rattle.page_laws.proofs.StepLemmas.{each_step-kept}

-- ---- a turn

dispatches-are : (most : ℕ) (s : State) → (count : ℕ) × ((dispatches most s).state ≡ after_all (replicate count Dispatches) s)
unfolding dispatches
dispatches-are zero s = (0, refl)
dispatches-are (suc most) s = by (dispatch s) refl (dispatches-are most)
  where
    by : (o : Option Step) → dispatch s ≡ o → ((t : State) → (count : ℕ) × ((dispatches most t).state ≡ after_all (replicate count Dispatches) t))
        → (count : ℕ) × ((next_and (dispatches most) s o).state ≡ after_all (replicate count Dispatches) s)
    by None e again = (0, refl)
    by (Some t) e again =
        let rest = again t.state in (
          suc rest.0,
          rest.1 ∙ ap (after_all (replicate rest.0 Dispatches)) (sym (ap (λ (o : Option Step). option_map_or (λ step. step.state) o s) e)),
        )

pub turn-is : (s : State) → (count : ℕ) × ((turn s).state ≡ after_all (replicate count Dispatches) s)
unfolding turn
turn-is s = dispatches-are most_dispatches s

-- ---- all inputs

after-both : (moments others : List Moment) (s : State) → after_all (moments ++ others) s ≡ after_all others (after_all moments s)
after-both [] others s = refl
after-both (moment ∷ moments) others s = after-both moments others (after moment s)

module _ (start : State) where
  -- moments lead to it
  abbrev Came : State → Type 0
  Came s = (moments : List Moment) × (s ≡ after_all moments start)

  then-all : (more : List Moment) (s : State) → Came s → Came (after_all more s)
  then-all more s came = (came.0 ++ more, ap (after_all more) came.1 ∙ sym (after-both came.0 more start))

  then-one : (moment : Moment) (s : State) → Came s → Came (after moment s)
  then-one moment s came = then-all (moment ∷ []) s came

  then-turn : (s : State) → Came s → Came (turn s).state
  then-turn s came =
      let count = turn-is s in
      let all = then-all (replicate count.0 Dispatches) s came in
      (all.0, count.1 ∙ all.1)

  page-laws : PageLaws Came
  page-laws = record {
    turns = then-turn;
    sections = λ component section s came. then-one (HasModules (with_section component section s.modules)) s came;
    maps = λ components s came. then-one (HasModules (with_map components s.modules)) s came;
    changes = λ changes s came.
        each_step-kept Came (λ (change : ℕ × Change). change_step change.0 change.1)
        (λ change s came. then-one (HasChange change.0 change.1) s came) changes s came;
    messages = λ component message s came. then-one (HasMessage component message) s came;
    keys = λ key down s came. then-one (HasKey key down) s came;
    random = λ word s came. then-one (HasRandom word) s came;
    dates = λ day second s came. then-one (HasDate day second) s came;
    due = λ s came. then-one (IsDue (s.clock + 1)) s came;
    clock = λ s came quiet. then-one (HasClock (s.clock + 1)) s came;
  }

pub inputs-are : (inputs : List Input) (s : receiver.State) → (moments : List Moment) × ((state_behind s inputs).page ≡ after_all moments s.page)
inputs-are inputs s = behind-kept (Came s.page) (page-laws s.page) inputs s ([], refl)
