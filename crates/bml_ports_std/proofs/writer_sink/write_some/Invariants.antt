use Rattle.std.specs.Io.KnownBytes.{Keeps}
use Rattle.bml_ports_std.proofs.writer_sink.write_some.Given as goal

-- the calls so far wrote nothing
abbrev pub invariant-tries : goal.invariant-tries
invariant-tries g l = Keeps (g.W.Write.contents l.initial.writer) (g.W.Write.contents l.writer)
