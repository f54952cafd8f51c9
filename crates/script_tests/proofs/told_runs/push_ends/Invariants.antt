use Rattle.std.specs.Prelude.{All}
use Rattle.es_eval.specs.Worlds.{IsNamedLive}
use Rattle.script_tests.proofs.told_runs.push_ends.Given as goal

abbrev pub invariant-loop-named : goal.invariant-loop-named
invariant-loop-named l = All (IsNamedLive l.heap) l.globals
