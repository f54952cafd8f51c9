use Rattle.std.proofs.Common.{refl}
use Rattle.style_cascade.proofs.WriteLemmas.{sources-same, write-here, write-order, write-others}
use Rattle.style_cascade.proofs.laws.law_of_writes.Goals as goal

pub returns-clause-unwritten : goal.returns-clause-unwritten
returns-clause-unwritten c = λ rules node state property. refl

pub returns-clause-order : goal.returns-clause-order
returns-clause-order c = λ rules. refl

pub returns-clause-kept_order : goal.returns-clause-kept_order
returns-clause-kept_order c = write-order

pub returns-clause-written : goal.returns-clause-written
returns-clause-written c = write-here

pub returns-clause-others : goal.returns-clause-others
returns-clause-others c = λ sources node state property value other at of different. write-others sources node other state at property of value different

pub returns-clause-same : goal.returns-clause-same
returns-clause-same c = sources-same
