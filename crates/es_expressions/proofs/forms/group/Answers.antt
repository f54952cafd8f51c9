use Rattle.std.proofs.Common.{refl}
use Rattle.es_expressions.proofs.FormLemmas.{group-stands}
use Rattle.es_expressions.proofs.forms.group.Goals as goal

pub returns-clause-group : goal.returns-clause-group
returns-clause-group c = λ p e s h. group-stands c.single.new.nodes _ c.args.start c.in_ok-single.single e p c.args.close.now refl s (c.in_ok-single.ensures.single e h)
