use Rattle.std.proofs.Common.{◌≡◌, ◌≤◌, length}
use Rattle.es_lexer.specs.Scanning.{behind}
use Rattle.es_lexer.specs.Views.{in_class}
use Rattle.es_lexer.proofs.codes.behind_run.Given as goal

abbrev pub invariant-run : goal.invariant-run
invariant-run l = (behind (in_class l.class) l.rest ≡ behind (in_class l.class) l.codes) × (length l.rest ≤ length l.codes)

abbrev pub decreases-run : goal.decreases-run
decreases-run l = length l.rest
