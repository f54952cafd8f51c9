-- Turns go as far as they can.
use Rattle.std.proofs.Common.{◌≡◌, ◌≤◌, ◌⊎◌, inl, inr, ℕ, zero, suc, Option, Some, None, refl, ap, arith}
use Rattle.page.specs.Dispatches.{dispatch, dispatches, next_and}
use Rattle.page.specs.State.{State, Step}
use Rattle.page_laws.specs.Turns.{Dispatched}

-- the same of at most so many dispatches
pub record Makes (most : ℕ) (s after : State) : Type 0 where
  pub count : ℕ
  pub made : Dispatched count s after
  pub fits : count ≤ most
  pub ends : (count ≡ most) ⊎ (dispatch after ≡ None)

-- one dispatch, and the others behind it
longer : (more : ℕ) (s : State) (t : Step) → dispatch s ≡ Some t
    → Makes more t.state (dispatches more t.state).state
    → Makes (suc more) s (dispatches more t.state).state
unfolding Dispatched
longer more s t is m = record {
  count = suc m.count;
  made = (t, is, m.made);
  fits = (let h : m.count ≤ more = m.fits in omega arith);
  ends = at m.ends;
}
  where
    at : (m.count ≡ more) ⊎ (dispatch (dispatches more t.state).state ≡ None)
        → (suc m.count ≡ suc more)
        ⊎ (dispatch (dispatches more t.state).state ≡ None)
    at (inl h) = inl (ap suc h)
    at (inr h) = inr h

one-more : (more : ℕ) (s : State)
    → ((t : Step) → Makes more t.state (dispatches more t.state).state)
    → (next : Option Step) → dispatch s ≡ next
    → Makes (suc more) s (next_and (dispatches more) s next).state
unfolding Dispatched
one-more more s rest None is =
    record { count = 0; made = refl; fits = omega arith; ends = inr is }
one-more more s rest (Some t) is = longer more s t is (rest t)

pub as-many : (most : ℕ) (s : State)
    → Makes most s (dispatches most s).state
unfolding dispatches Dispatched
as-many zero s =
    record { count = 0; made = refl; fits = omega arith; ends = inl refl }
as-many (suc more) s =
    one-more more s (λ t. as-many more t.state) (dispatch s) refl
