use Rattle.std.proofs.Common.{◌≡◌, ℕ, ◌++◌, List, drop}
use Rattle.std.specs.Prelude.{option_map}
use Rattle.binary_table.specs.devices.Places.{places_behind, places_of, rests}
use Rattle.binary_table.proofs.layouts.Layout.walk.Given as goal

abbrev pub invariant-stretches : goal.invariant-stretches
invariant-stretches l = record {
  shown : option_map (λ (found : List (List ℕ) × List ℕ). (rests l.bytes l.places.items ++ found.0, found.1)) (places_behind l.self.tail (drop l.stretch-index l.self.stretches.items) l.left)
      ≡ places_of l.self.tail l.self.stretches.items l.initial.left;
  behind : (front : List ℕ) × (l.bytes ≡ front ++ l.left);
}
