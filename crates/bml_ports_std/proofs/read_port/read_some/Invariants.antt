use Rattle.std.specs.Io.KnownBytes.{Keeps}
use Rattle.bml_ports_std.proofs.read_port.read_some.Given as goal

-- the calls so far took nothing
abbrev pub invariant-tries : goal.invariant-tries
invariant-tries g l = Keeps (g.R.Read.remaining l.initial.reader) (g.R.Read.remaining l.reader)
