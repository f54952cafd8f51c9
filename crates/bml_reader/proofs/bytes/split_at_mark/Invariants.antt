use Rattle.std.proofs.Common.{◌≡◌, List, ℕ, ◌++◌, length}
use Rattle.std.specs.Prelude.{option_map}
use Rattle.bml_reader.specs.devices.Lexing.{Found, found, up_to}
use Rattle.bml_reader.proofs.bytes.split_at_mark.Given as goal

abbrev pub invariant-places : goal.invariant-places
invariant-places l = (done : List ℕ) × (l.bytes ≡ done ++ l.rest) × (up_to l.mark l.bytes ≡ option_map (λ (f : Found (List ℕ)). found (done ++ f.it) f.rest) (up_to l.mark l.rest))

abbrev pub decreases-places : goal.decreases-places
decreases-places l = length l.rest
