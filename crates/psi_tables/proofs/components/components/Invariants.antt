use Rattle.std.proofs.Common.{◌≡◌, ◌≤◌, length, drop}
use Rattle.psi_tables.specs.Components.{components_of}
use Rattle.psi_tables.proofs.ComponentLemmas.{taking}
use Rattle.psi_tables.proofs.components.components.Given as goal

abbrev pub invariant-loop-stream : goal.invariant-loop-stream
invariant-loop-stream l = record { so_far : components_of l.streams ≡ taking l.taken.items (drop l.stream-index l.streams); room : length l.taken.items ≤ 16 }
