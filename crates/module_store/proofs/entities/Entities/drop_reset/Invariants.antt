use Rattle.std.proofs.Common.{◌≡◌, ℕ, take}
use Rattle.module_store.specs.Entities.{parts_at, without_reset}
use Rattle.module_store.proofs.entities.Entities.drop_reset.Given as goal

abbrev pub invariant-changes : goal.invariant-changes
invariant-changes l = (number : ℕ) → parts_at l.self-inside.parts.entries number ≡ without_reset (take l.change-index l.changes) (parts_at l.fn.self) number
