use Rattle.std.proofs.Common.{◌≡◌, ◌≤◌, length}
use Rattle.bml_reader.specs.Bytes.{behind}
use Rattle.bml_reader.specs.devices.Views.{in_class}
use Rattle.bml_reader.proofs.bytes.behind_run.Given as goal

abbrev pub invariant-run : goal.invariant-run
invariant-run l = (behind (in_class l.class) l.rest ≡ behind (in_class l.class) l.bytes) × (length l.rest ≤ length l.bytes)

abbrev pub decreases-run : goal.decreases-run
decreases-run l = length l.rest
