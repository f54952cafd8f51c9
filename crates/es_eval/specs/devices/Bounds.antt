-- A device of the proofs: what goes on behind an action need only agree on the worlds that may come
-- there.
use Rattle.std.specs.Prelude.{◌≡◌, ℕ, ◌≤◌}
use Rattle.es_eval.specs.Actions.{Next}
use Rattle.es_eval.specs.Worlds.{World}

-- Two that go on agree on each world with at most so many steps left.
pub record Agree {A : Type 0} (left : ℕ) (next other : Next A) : Type 0 where
  pub on : (x : A) (w : World) → w.left ≤ left → next x w ≡ other x w
