use Rattle.std.proofs.Common.{◌≤◌, length}
use Rattle.bml_ports_std.proofs.disk_file.read_all.Given as goal

abbrev pub invariant-tries : goal.invariant-tries
invariant-tries l = l.count ≤ length l.into
