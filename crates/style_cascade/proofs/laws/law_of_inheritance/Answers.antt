use Rattle.style_cascade.proofs.CascadeLaws.{value-above, value-others, value-own, value-root}
use Rattle.style_cascade.proofs.laws.law_of_inheritance.Goals as goal

pub returns-clause-own : goal.returns-clause-own
returns-clause-own c = value-own

pub returns-clause-inherited : goal.returns-clause-inherited
returns-clause-inherited c = λ items tree sources present node up state property e yes parent. value-above items sources present node up state property (c.law_of_paths.ensures.step items tree up) e yes parent

pub returns-clause-root : goal.returns-clause-root
returns-clause-root c = value-root

pub returns-clause-others : goal.returns-clause-others
returns-clause-others c = value-others
