use Rattle.std.proofs.Common.{refl}
use Rattle.event_messages.specs.Kept.{with_forgotten}
use Rattle.event_messages.proofs.KeptFiringLaws.{fires-as-kept, noted-stands}
use Rattle.event_messages.proofs.KeptLemmas.{stands-forgotten}
use Rattle.event_messages.proofs.laws.law_of_kept_firings.Goals as goal

pub returns-clause-noted : goal.returns-clause-noted
returns-clause-noted c = noted-stands

pub returns-clause-forgotten : goal.returns-clause-forgotten
returns-clause-forgotten c = λ item kept. stands-forgotten item kept (with_forgotten item kept) refl

pub returns-clause-fires : goal.returns-clause-fires
returns-clause-fires c = fires-as-kept
