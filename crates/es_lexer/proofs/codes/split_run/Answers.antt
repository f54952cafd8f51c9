use Rattle.std.proofs.Common.{◌≡◌, List, ℕ, length, take, ◌-◌, subst, sym}
use Rattle.es_lexer.specs.Scanning.{front}
use Rattle.es_lexer.specs.Views.{in_class}
use Rattle.es_lexer.proofs.CodeLemmas.{take-front}
use Rattle.es_lexer.proofs.codes.split_run.Goals as goal

pub returns-clause-run : goal.returns-clause-run
returns-clause-run c = subst (λ (r : List ℕ). take (length c.args.codes.now - length r) c.args.codes.now ≡ front (in_class c.args.class) c.args.codes.now) (sym c.behind_run-rest.ensures.rest) (take-front (in_class c.args.class) c.args.codes.now)
